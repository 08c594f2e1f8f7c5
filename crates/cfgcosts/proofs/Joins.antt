-- Words that are joined from two lists, and the words of a list of symbols.
use Rattle.std.proofs.Common.{◌≡◌, ◌↔◌, ℕ, inl, inr, List, [], ◌∷◌, ◌++◌, map, Contains, append-nil, append_assoc, refl, sym, ap, subst, ◌∙◌}
use Rattle.std.specs.List.{flat_map, fold}
use Rattle.std.proofs.lemmas.List.Concat.{flat_map-cons}
use Rattle.std.proofs.lemmas.List.Sums.{fold-append}
use Rattle.std.proofs.lemmas.List.Elements.{Contains-append_left, Contains-append_right, Contains-append_cases}
use Rattle.derivation.specs.Grammar.{Sym, Rule, Token}
use Rattle.cfgchoices.specs.Splits.{Split, done, itself, part}
use Rattle.cfgcosts.specs.Inner.Minimal.{HasSentence, joined, sequence_words, words_of_symbol}
use Rattle.lemmas.proofs.Contained.{contains_first, contains_later, contains_none, contains_one, contains_cases, contains_mapped, contains_source}

pub joined_none : (prefixes : List (List ℕ)) → joined prefixes [] ≡ []
joined_none [] = refl
joined_none (prefix ∷ prefixes) = flat_map-cons (λ (prefix : List ℕ). map (λ suffix. prefix ++ suffix) []) prefix prefixes ∙ joined_none prefixes

module _ {A B : Type 0} (f : A → List B) where
  pub flat_source : (xs : List A) (y : B) → Contains (flat_map f xs) y → (x : A) × Contains xs x × Contains (f x) y
  flat_source [] y h = absurd (contains_none y h)
  flat_source (x ∷ xs) y h = elim (Contains-append_cases (f x) (flat_map f xs) y (subst (λ l. Contains l y) (flat_map-cons f x xs) h)) [
    | inl here ↦ (x, contains_first x xs, here)
    | inr later ↦ let (z, among, k) = flat_source xs y later in (z, contains_later x z xs among, k)
  ]

  pub flat_contains : (xs : List A) (x : A) (y : B) → Contains xs x → Contains (f x) y → Contains (flat_map f xs) y
  flat_contains [] x y h k = absurd (contains_none x h)
  flat_contains (z ∷ xs) x y h k = subst (λ l. Contains l y) (sym (flat_map-cons f z xs)) (elim (contains_cases z x xs h) [
    | inl same ↦ Contains-append_left (f z) (flat_map f xs) y (subst (λ a. Contains (f a) y) (sym same) k)
    | inr later ↦ Contains-append_right (f z) (flat_map f xs) y (flat_contains xs x y later k)
  ])

-- a word of one list, followed by a word of a list of symbols
module _ (sentences : ℕ → List (List ℕ)) where
  record Goes (prefixes : List (List ℕ)) (sequence : List Sym) (w : List ℕ) : Type 0 where
    prefix : List ℕ
    rest : List ℕ
    among : Contains prefixes prefix
    cut : Split (HasSentence sentences) sequence rest
    whole : w ≡ prefix ++ rest

  abbrev step : List (List ℕ) → Sym → List (List ℕ)
  step words s = joined words (words_of_symbol sentences s)

  -- a list with one more symbol
  pub sequence_more : (sequence : List Sym) (s : Sym) → sequence_words sentences (sequence ++ s ∷ []) ≡ joined (sequence_words sentences sequence) (words_of_symbol sentences s)
  sequence_more sequence s = fold-append step ([] ∷ []) sequence (s ∷ [])

  begun : (s : Sym) (sequence : List Sym) (suffix rest : List ℕ) → Contains (words_of_symbol sentences s) suffix → Split (HasSentence sentences) sequence rest → Split (HasSentence sentences) (s ∷ sequence) (suffix ++ rest)
  begun (Token t) sequence suffix rest h cut = subst (λ l. Split (HasSentence sentences) (Token t ∷ sequence) (l ++ rest)) (contains_one (t ∷ []) suffix h) (itself cut)
  begun (Rule r) sequence suffix rest h cut = part h cut refl

  cut_first : (prefixes : List (List ℕ)) (s : Sym) (sequence : List Sym) (w : List ℕ) → Goes prefixes (s ∷ sequence) w → Goes (step prefixes s) sequence w
  cut_first prefixes s sequence w g = go s g.rest g.cut g.whole
    where
      next : (s : Sym) (suffix rest : List ℕ) → Contains (words_of_symbol sentences s) suffix → Split (HasSentence sentences) sequence rest → w ≡ g.prefix ++ (suffix ++ rest) → Goes (step prefixes s) sequence w
      next s suffix rest h cut e = record {
        prefix = g.prefix ++ suffix;
        rest = rest;
        among = flat_contains (λ prefix. map (λ suffix. prefix ++ suffix) (words_of_symbol sentences s)) prefixes g.prefix (g.prefix ++ suffix) g.among (contains_mapped (λ suffix. g.prefix ++ suffix) (words_of_symbol sentences s) suffix h);
        cut = cut;
        whole = e ∙ sym (append_assoc g.prefix suffix rest);
      }

      go : (s : Sym) (rest : List ℕ) → Split (HasSentence sentences) (s ∷ sequence) rest → w ≡ g.prefix ++ rest → Goes (step prefixes s) sequence w
      go (Token t) _ (itself {w = rest} cut) e = next (Token t) (t ∷ []) rest (contains_first (t ∷ []) []) cut e
      go (Rule r) _ (part {u = u} {w = rest} h cut f) e = next (Rule r) u rest h cut (e ∙ ap (λ l. g.prefix ++ l) f)

  from_sequence : (sequence : List Sym) (prefixes : List (List ℕ)) (w : List ℕ) → Contains (fold step prefixes sequence) w → Goes prefixes sequence w
  from_sequence [] prefixes w h = record { prefix = w; rest = []; among = h; cut = done; whole = sym (append-nil w) }
  from_sequence (s ∷ sequence) prefixes w h =
      let later = from_sequence sequence (step prefixes s) w h in
      let (prefix, among, here) = flat_source (λ prefix. map (λ suffix. prefix ++ suffix) (words_of_symbol sentences s)) prefixes later.prefix later.among in
      let (suffix, of, is) = contains_source (λ suffix. prefix ++ suffix) (words_of_symbol sentences s) later.prefix here in
      record {
        prefix = prefix;
        rest = suffix ++ later.rest;
        among = among;
        cut = begun s sequence suffix later.rest of later.cut;
        whole = later.whole ∙ ap (λ l. l ++ later.rest) (sym is) ∙ append_assoc prefix suffix later.rest;
      }

  to_sequence : (sequence : List Sym) (prefixes : List (List ℕ)) (w : List ℕ) → Goes prefixes sequence w → Contains (fold step prefixes sequence) w
  to_sequence [] prefixes w g = ends g.rest g.cut g.whole
    where
      ends : (rest : List ℕ) → Split (HasSentence sentences) [] rest → w ≡ g.prefix ++ rest → Contains prefixes w
      ends _ done e = subst (Contains prefixes) (sym (e ∙ append-nil g.prefix)) g.among
  to_sequence (s ∷ sequence) prefixes w g = to_sequence sequence (step prefixes s) w (cut_first prefixes s sequence w g)

  pub sequence_cut : (sequence : List Sym) (w : List ℕ) → Contains (sequence_words sentences sequence) w ↔ Split (HasSentence sentences) sequence w
  sequence_cut sequence w = (
    (λ h. let g = from_sequence sequence ([] ∷ []) w h in
        subst (Split (HasSentence sentences) sequence) (ap (λ l. l ++ g.rest) (contains_one [] g.prefix g.among) ∙ sym g.whole) g.cut),
    (λ cut. to_sequence sequence ([] ∷ []) w (record { prefix = []; rest = w; among = contains_first [] []; cut = cut; whole = refl })),
  )
