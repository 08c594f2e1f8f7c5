-- A table that is filled rule by rule, by increasing cost, has all minimal sentences of the rules it was filled for.
use Rattle.std.proofs.Common.{◌≡◌, ◌↔◌, ℕ, ◌<◌, ◌≤◌, ◌⊎◌, inl, inr, List, [], ◌∷◌, Option, None, Some, Vec, map, refl, cond, Result, Ok, Err, IfOk, All, Contains, arith, sym, ap, subst, ◌∙◌}
use Rattle.std.specs.BTreeMap.{BTreeMap, get, is_at}
use Rattle.std.specs.List.{flat_map}
use Rattle.std.specs.List.Sorted.{IsPermutation, IsStrictlySortedBy}
use Rattle.std.specs.Option.{option_map, unwrap_or}
use Rattle.std.specs.Ordering.{nat_cmp}
use Rattle.std.specs.declared.alloc.Global.{Global}
use Rattle.cfgindex.specs.declared.idxnewtype.TIdx.{TIdx}
use Rattle.std.proofs.lemmas.Bool.{cases_eq}
use Rattle.std.proofs.lemmas.List.Elements.{All-contains}
use Rattle.std.proofs.lemmas.List.Sorted.{Contains-permutation, IsPermutation-sym}
use Rattle.derivation.specs.Grammar.{Grammar, Sym, Rule, IsGrammar}
use Rattle.cfgtables.specs.Openings.{nth_production}
use Rattle.cfgleast.specs.Generator.{CostTables, IsGenerator, cost_answer}
use Rattle.cfgcosts.specs.Inner.Minimal.{AreRequested, AreMinimal, HasSentence, IsMadeBy, IsReadyFor, Puts, sequence_words, sentences_in, words_of}
use Rattle.cfgchoices.specs.Kinds.{IsMinimal, ReachesBase}
use Rattle.cfgchoices.specs.FirstSentence.{lexicographic}
use Rattle.cfgcosts.specs.Sentences.{numbers_of}
use Rattle.cfgchoices.specs.Splits.{Split, done, itself, part}
use Rattle.lemmas.proofs.Contained.{contains_cases, contains_first, contains_later, contains_none, contains_one}
use Rattle.cfgcosts.proofs.Joins.{flat_contains, flat_source, sequence_cut}
use Rattle.search.proofs.Keys.{itself_found, same_key}
use Rattle.cfgchoices.proofs.Optimal.{free_minimal, minimal_free, minimal_made, base_less, base_makes}

-- another split of the word, as the rules of the list allow
pub cut_within : (F G : ℕ → List ℕ → Type 0) {a : List Sym} {w : List ℕ} → ((r : ℕ) (u : List ℕ) → Contains a (Rule r) → F r u → G r u) → Split F a w → Split G a w
cut_within F G f done = done
cut_within F G f (itself {a = a} s) = itself (cut_within F G (λ r u h k. f r u (contains_later _ (Rule r) a h) k) s)
cut_within F G f (part {r = r} {a = a} {u = u} h s e) =
    part (f r u (contains_first (Rule r) a) h) (cut_within F G (λ q v k l. f q v (contains_later (Rule r) (Rule q) a k) l) s) e

-- the sentences of a rule that are put into a table
module _ {S : Type 0} (number : S → ℕ) where
  abbrev read : Option (Vec (Vec (TIdx S) Global) Global) → List (List ℕ)
  read o = unwrap_or (option_map (words_of number) o) []

  -- the others keep theirs, whatever is put for a rule, and also if it is removed
  pub keeps : (old new : BTreeMap ℕ (Vec (Vec (TIdx S) Global) Global)) (r : ℕ) (o : Option (Vec (Vec (TIdx S) Global) Global))
      → ((q : ℕ) → get nat_cmp new q ≡ cond (is_at (nat_cmp r) q) o (get nat_cmp old q)) → (q : ℕ) → (q ≡ r → ⊥) → sentences_in number new q ≡ sentences_in number old q
  keeps old new r o updates q apart = elim (same_key r q) [
    | inl h ↦ absurd (apart (sym h.1))
    | inr h ↦ ap read (updates q ∙ ap (λ b. cond b o (get nat_cmp old q)) h.0)
  ]

  pub puts : (old new : BTreeMap ℕ (Vec (Vec (TIdx S) Global) Global)) (r : ℕ) (words : Vec (Vec (TIdx S) Global) Global)
      → ((q : ℕ) → get nat_cmp new q ≡ cond (is_at (nat_cmp r) q) (Some words) (get nat_cmp old q)) → Puts r (words_of number words) (sentences_in number old) (sentences_in number new)
  puts old new r words updates = record {
    here = ap read (updates r ∙ ap (λ b. cond b (Some words) (get nat_cmp old r)) (itself_found r));
    others = keeps old new r (Some words) updates;
  }

  -- those of a rule that are removed from it
  pub taken : (table : BTreeMap ℕ (Vec (Vec (TIdx S) Global) Global)) (i r : ℕ) (o : Option (Vec (Vec (TIdx S) Global) Global)) (none : Vec (Vec (TIdx S) Global) Global)
      → i ≡ r → o ≡ get nat_cmp table i → none.items ≡ [] → words_of number (unwrap_or o none) ≡ sentences_in number table r
  taken table i r o none e f empty = go o ∙ ap read (f ∙ ap (get nat_cmp table) e)
    where
      go : (o : Option (Vec (Vec (TIdx S) Global) Global)) → words_of number (unwrap_or o none) ≡ read o
      go None = ap (map (numbers_of number)) empty
      go (Some words) = refl

-- what productions make of sentences
pub made_by : (g : Grammar) (sentences : ℕ → List (List ℕ)) (positions : List ℕ) (w : List ℕ) → Contains (flat_map (λ p. sequence_words sentences (nth_production g p).symbols) positions) w ↔ IsMadeBy g sentences positions w
made_by g sentences positions w =
    let sequences = λ (p : ℕ). sequence_words sentences (nth_production g p).symbols in (
      (λ h. let (p, among, k) = flat_source sequences positions w h in record { index = p; among = among; parts = (sequence_cut sentences (nth_production g p).symbols w).0 k }),
      (λ m. flat_contains sequences positions m.index w m.among ((sequence_cut sentences (nth_production g m.index).symbols w).1 m.parts)),
    )

module _ (x : CostTables) where
  -- what base productions that a rule reaches make of minimal sentences are those of the rule
  module _ (n : ℕ) (is : IsGenerator x n) (grammar : IsGrammar x.grammar) (r c : ℕ) (answer : cost_answer x r ≡ Some c) where
    made_minimal : (sentences : ℕ → List (List ℕ)) (base : List ℕ) → 0 < c → IsReadyFor x sentences r → ((p : ℕ) → Contains base p ↔ ReachesBase x r p)
        → (w : List ℕ) → IsMadeBy x.grammar sentences base w ↔ IsMinimal x r w
    made_minimal sentences base some ready all w = (
      (λ m. let reaches = (all m.index).0 m.among in
          base_makes x n is grammar r m.index w reaches (cut_within (HasSentence sentences) (IsMinimal x) (λ q u among has. ((ready m.index q reaches among).all u).0 has) m.parts)),
      (λ m. let made = minimal_made x n is grammar r c w answer some m in record {
        index = made.index;
        among = (all made.index).1 made.reaches;
        parts = cut_within (IsMinimal x) (HasSentence sentences) (λ q u among least. ((ready made.index q made.reaches among).all u).1 least) made.parts;
      }),
    )

    pub all_minimal : {A E : Type 0} (sentences : ℕ → List (List ℕ)) (base : List ℕ) → 0 < c → IsReadyFor x sentences r → ((p : ℕ) → Contains base p ↔ ReachesBase x r p)
        → (f : A → List (List ℕ)) (result : Result A E) → IfOk result (λ words. (w : List ℕ) → Contains (f words) w ↔ IsMadeBy x.grammar sentences base w)
        → IfOk result (λ words. IsStrictlySortedBy lexicographic (f words)) → IfOk result (λ words. AreMinimal x r (f words))
    all_minimal sentences base some ready all f (Ok words) made order = record {
      all = λ w. let minimal = made_minimal sentences base some ready all w in (λ h. minimal.0 ((made w).0 h), λ m. (made w).1 (minimal.1 m));
      order = order;
    }
    all_minimal sentences base some ready all f (Err e) made order = tt

    -- a rule that costs nothing has the empty sentence
    pub free_alone : c ≡ 0 → AreMinimal x r ([] ∷ [])
    unfolding IsStrictlySortedBy
    free_alone none =
        let free = answer ∙ ap Some none in
        record {
          all = λ w. (
            (λ h. subst (IsMinimal x r) (contains_one [] w h) (free_minimal x n is grammar r free)),
            (λ m. subst (Contains ([] ∷ [])) (sym (minimal_free x n is grammar r w free m)) (contains_first [] [])),
          );
          order = (tt, tt);
        }

  -- of the rules that are needed, some are left
  pub record Filling (requested left : List (ℕ × ℕ)) (sentences : ℕ → List (List ℕ)) : Type 0 where
    pub among : (c q : ℕ) → Contains left (c, q) → Contains requested (c, q)
    pub filled : (c q : ℕ) → Contains requested (c, q) → Contains left (c, q) ⊎ AreMinimal x q (sentences q)

  module _ {r : ℕ} {requested left : List (ℕ × ℕ)} {sentences : ℕ → List (List ℕ)} (rest : List (ℕ × ℕ)) (top : ℕ × ℕ) (all : AreRequested x r requested) (f : Filling requested left sentences)
      (out : IsPermutation left (top ∷ rest)) (least : All (λ entry. top.0 ≤ entry.0) rest) where
    inside : (e : ℕ × ℕ) → Contains (top ∷ rest) e → Contains left e
    inside e h = Contains-permutation (top ∷ rest) left e (IsPermutation-sym left (top ∷ rest) out) h

    popped_requested : Contains requested (top.0, top.1)
    popped_requested = f.among top.0 top.1 (inside (top.0, top.1) (contains_first top rest))

    pub popped_answer : cost_answer x top.1 ≡ Some top.0
    popped_answer = all.costs top.0 top.1 popped_requested

    -- the rules that it is made of were filled before
    pub popped_ready : (n : ℕ) → IsGenerator x n → IsGrammar x.grammar → IsReadyFor x sentences top.1
    popped_ready n is grammar p s reaches holds =
        let (d, among) = all.bases top.0 top.1 p s popped_requested reaches holds in
        let less = base_less x n is grammar top.1 p top.0 s d reaches popped_answer holds (all.costs d s among) in
        elim (f.filled d s among) [
          | inr full ↦ full
          | inl waits ↦ elim (contains_cases top (d, s) rest (Contains-permutation left (top ∷ rest) (d, s) out waits)) [
            | inl same ↦ (let one : top.0 ≡ d = ap (λ (y : ℕ × ℕ). y.0) same in absurd (omega (arith, one, less)))
            | inr later ↦ (let more = All-contains (λ (entry : ℕ × ℕ). top.0 ≤ entry.0) rest (d, s) least later in absurd (omega (arith, more, less)))
          ]
        ]

    pub filling_goes_on : (sentences' : ℕ → List (List ℕ)) (words : List (List ℕ)) → Puts top.1 words sentences sentences' → AreMinimal x top.1 words → Filling requested rest sentences'
    filling_goes_on sentences' words puts minimal = record {
      among = λ c q h. f.among c q (inside (c, q) (contains_later top (c, q) rest h));
      filled = λ c q h. elim (f.filled c q h) [
        | inr before ↦ inr (still q before)
        | inl waits ↦ elim (contains_cases top (c, q) rest (Contains-permutation left (top ∷ rest) (c, q) out waits)) [
          | inl same ↦ inr (now q (ap (λ (y : ℕ × ℕ). y.1) same))
          | inr later ↦ inl later
        ]
      ];
    }
      where
        now : (q : ℕ) → top.1 ≡ q → AreMinimal x q (sentences' q)
        now q same = subst (λ q. AreMinimal x q (sentences' q)) same (subst (AreMinimal x top.1) (sym puts.here) minimal)

        still : (q : ℕ) → AreMinimal x q (sentences q) → AreMinimal x q (sentences' q)
        still q before = elim (cases_eq q top.1) [
          | inl same ↦ now q (sym same)
          | inr apart ↦ subst (AreMinimal x q) (sym (puts.others q apart)) before
        ]

  -- when none is left, the table has all minimal sentences of the rule
  pub filling_ends : (r : ℕ) (requested : List (ℕ × ℕ)) (sentences : ℕ → List (List ℕ)) → AreRequested x r requested → Filling requested [] sentences → AreMinimal x r (sentences r)
  filling_ends r requested sentences all f = elim (f.filled all.first.0 r all.first.1) [ inl waits ↦ absurd (contains_none (all.first.0, r) waits) | inr full ↦ full ]
