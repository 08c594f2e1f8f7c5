-- Sentences: what rules begin with and cost. And what lists contain.
use Rattle.std.proofs.Common.{◌≡◌, ◌↔◌, ◌⊎◌, inl, inr, ℕ, ◌<◌, ◌≤◌, List, [], ◌∷◌, ◌++◌, All, Contains, length, map, get_or, arith, refl, sym, subst, ◌∙◌}
use Rattle.std.specs.Prelude.{slice_index}
use Rattle.std.proofs.lemmas.Bool.{cases_lt}
use Rattle.std.proofs.lemmas.List.{get_or_past, map-append}
use Rattle.std.proofs.lemmas.List.Elements.{All-get_or, All-weaker}
use Rattle.std.proofs.lemmas.List.Sums.{sum_by-le}
use Rattle.lemmas.proofs.Contained.{contains_cases, contains_first, contains_later}
use Rattle.lemmas.proofs.Popped.{none_left}
use Rattle.derivation.specs.Costs.{Least}
use Rattle.derivation.specs.Derivation.{Derives, Step, none, next}
use Rattle.derivation.specs.First.{First, Nullable}
use Rattle.derivation.specs.Grammar.{Grammar, HasProduction, IsGrammar, Rule, Sym, Token}
use Rattle.derivation.specs.Path.{Path}
use Rattle.derivation.specs.Productive.{Productive}
use Rattle.derivation.specs.Sentence.{Sentence, cost_of}
use Rattle.derivation.proofs.Concatenation.{derives_both, derives_left, derives_trans}
use Rattle.derivation.proofs.Paths.{around, path_to_derived}
use Rattle.cfgchoices.proofs.Lengths.{sentence_length}

module _ (P : ℕ → List Sym → Type 0) where
  -- a list whose rules are productive derives tokens
  tokens_derived : (a : List Sym) → ((q : ℕ) → Contains a (Rule q) → Productive P q) → (w : List ℕ) × Derives P a (map Token w)
  tokens_derived [] productive = ([], none)
  tokens_derived (Token t ∷ a) productive =
      let (w, d) = tokens_derived a (λ q k. productive q (contains_later (Token t) (Rule q) a k)) in
      (t ∷ w, derives_left P (Token t ∷ []) d)
  tokens_derived (Rule r ∷ a) productive =
      let (w, d) = tokens_derived a (λ q k. productive q (contains_later (Rule r) (Rule q) a k)) in
      let (v, e) = productive r (contains_first (Rule r) a) in
      (v ++ w, subst (Derives P (Rule r ∷ a)) (sym (map-append Token v w)) (derives_both P (map Token v) (map Token w) e d))

  first_step : {a b : List Sym} → Derives P a b → (a ≡ b → ⊥) → (middle : List Sym) × Step P a middle × Derives P middle b
  first_step none apart = absurd (apart refl)
  first_step (next {b = middle} s d) apart = (middle, s, d)

  -- the rules of a list that begins with a token
  rules_after : (r t : ℕ) (rest : List Sym) → Derives P (Rule r ∷ []) (Token t ∷ rest) → (q : ℕ) → Contains rest (Rule q) → Path P r q
  rules_after r t rest d q h =
      let (middle, first, derives) = first_step d (λ same. cc) in
      let k = around (Token t ∷ rest) (Rule q) (contains_later (Token t) (Rule q) rest h) in
      path_to_derived P (record {
        middle = middle;
        before = k.before;
        after = k.after;
        first = first;
        derives = subst (Derives P middle) k.whole derives;
      })

  pub first_begins : (r t : ℕ) → ((q : ℕ) → Path P r q → Productive P q) → First P r t ↔ ((w : List ℕ) × Sentence P r (t ∷ w))
  first_begins r t productive = (
    (λ (rest, d). let (w, e) = tokens_derived rest (λ q k. productive q (rules_after r t rest d q k)) in
        (w, derives_trans P d (derives_left P (Token t ∷ []) e))),
    (λ (w, s). (map Token w, s)),
  )

module _ (g : Grammar) (costs : List ℕ) (grammar : IsGrammar g) (tokens : length costs ≡ g.tokens) where
  -- if each token costs at least 1, only nullable rules cost nothing
  pub free_if_nullable : All (λ c. 0 < c) costs → (r : ℕ) → Least (HasProduction g) (slice_index costs) r 0 ↔ Nullable (HasProduction g) r
  free_if_nullable positive r = (
    (λ ((w, s, e), l).
        let long = sentence_length g costs grammar tokens positive r w s in
        let empty = none_left w (subst (λ n. length w ≤ n) e long) in
        subst (λ v. Derives (HasProduction g) (Rule r ∷ []) (map Token v)) empty s),
    (λ n. (([], n, refl), (λ w s. omega arith))),
  )

  module _ (ones : All (λ c. c ≡ 1) costs) where
    at_most_one : (t : ℕ) → slice_index costs t ≤ 1
    at_most_one t = elim (cases_lt t (length costs)) [
      | inl within ↦ omega (arith, All-get_or (λ c. c ≡ 1) costs t 0 within ones)
      | inr past ↦ omega (arith, get_or_past costs t 0 past)
    ]

    -- if each token costs 1, a sentence costs its length
    pub cost_is_length : (r : ℕ) (w : List ℕ) → Sentence (HasProduction g) r w → cost_of (slice_index costs) w ≡ length w
    cost_is_length r w s =
        let low = sentence_length g costs grammar tokens (All-weaker (λ c. c ≡ 1) (λ c. 0 < c) (λ c one. omega (arith, one)) costs ones) r w s in
        let high = sum_by-le (slice_index costs) 1 w (λ k d within. at_most_one (get_or w k d)) in
        omega (arith, low, high)

    pub least_is_shortest : (r c : ℕ) → Least (HasProduction g) (slice_index costs) r c
        ↔ (((w : List ℕ) × Sentence (HasProduction g) r w × (length w ≡ c)) × ((w : List ℕ) → Sentence (HasProduction g) r w → c ≤ length w))
    least_is_shortest r c = (
      (λ ((w, s, e), l). ((w, s, sym (cost_is_length r w s) ∙ e), (λ v k. subst (λ n. c ≤ n) (cost_is_length r v k) (l v k)))),
      (λ ((w, s, e), l). ((w, s, cost_is_length r w s ∙ e), (λ v k. subst (λ n. c ≤ n) (sym (cost_is_length r v k)) (l v k)))),
    )

pub contains_either : {A : Type 0} (x y : A) (l : List A) → Contains (x ∷ l) y ↔ ((x ≡ y) ⊎ Contains l y)
contains_either x y l = (
  contains_cases x y l,
  (λ h. elim h [
    | inl same ↦ subst (Contains (x ∷ l)) same (contains_first x l)
    | inr later ↦ contains_later x y l later
  ]),
)
