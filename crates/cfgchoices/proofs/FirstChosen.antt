-- If no optimal production gives less than the choice of its rule, the choices give each rule its first minimal sentence.
use Rattle.std.proofs.Common.{◌≡◌, ℕ, zero, suc, ◌<◌, ◌≤◌, inl, inr, List, [], ◌∷◌, Option, Some, None, All, Contains, append-nil, arith, refl, sym, ap, subst, ◌∙◌}
use Rattle.std.proofs.lemmas.Option.{same_Some}
use Rattle.std.specs.Prelude.{IfSome}
use Rattle.std.specs.declared.cmp.Ordering.{Ordering}
use Rattle.std.specs.declared.cmp.Ordering.TheVariants.{Less, Equal, Greater}
use Rattle.std.proofs.lemmas.Bool.{cases_lt}
use Rattle.std.proofs.lemmas.Cmp.{nat_list_cmp_total}
use Rattle.std.proofs.lemmas.Map.Lookups.{exact_bytes}
use Rattle.std.proofs.lemmas.List.Elements.{All-contains}
use Rattle.derivation.specs.Grammar.{Sym, Rule, Token, Production, IsGrammar, HasProduction}
use Rattle.derivation.specs.Sentence.{cost_of}
use Rattle.derivation.specs.Costs.{Minimal}
use Rattle.derivation.specs.Tree.{Yields, empty, opened}
use Rattle.derivation.proofs.Trees.{trees_from_derivation, derivation_from_trees}
use Rattle.derivation.proofs.Costs.{least_is_one, minimal_costs_least}
use Rattle.cfgtables.specs.Openings.{nth_production}
use Rattle.derivation.specs.Sums.{sum_of, symbol_cost}
use Rattle.derivation.specs.CostLists.{rule_cost}
use Rattle.derivation.proofs.Sums.{plus_parts, plus_zero}
use Rattle.cfgleast.specs.Certificate.{rule_choice}
use Rattle.cfgchoices.specs.Choices.{ChoicesGive}
use Rattle.cfgchoices.specs.Choices as gives
use Rattle.cfgchoices.specs.FirstChoices.{AreFirst, IsBelowIfChosen, IsChoiceOf, AreChosen}
use Rattle.cfgleast.specs.Generator.{CostTables, cost_answer, choice_answer, token_cost, where_some}
use Rattle.cfgchoices.specs.FirstSentence.{FirstMinimal, lexicographic}
use Rattle.cfgchoices.specs.Splits.{Split, done, itself, part}
use Rattle.cfgchoices.proofs.Choices.{choices_sequence}
use Rattle.cfgchoices.proofs.FirstSentences.{by_order, sequence_before, begins_none}
use Rattle.cfgleast.proofs.Gains.{part_at}
use Rattle.cfgleast.proofs.Generated.{answered_some, some_answered}
use Rattle.cfgchoices.proofs.Lengths.{IsPaid}
use Rattle.cfgchoices.proofs.Chains.{made_minimal, minimal_parts}
use Rattle.cfgchoices.proofs.Splits.{Split-map, IsYieldedAnd, by_rules, split_one}
use Rattle.cfgchoices.proofs.Optimal.{cut_of_sum, free_minimal, least_of, minimal_free, paid, sum_of_cut, optimal_located, optimal_whatever}

-- nothing comes before the empty word
none_first : (v : List ℕ) → lexicographic [] v ≡ Greater → ⊥
none_first [] g = let no : ◌≡◌ {A = Ordering} Equal Greater = g in cc
none_first (t ∷ v) g = let no : ◌≡◌ {A = Ordering} Less Greater = g in cc

-- `not after` is transitive
pub not_after : (u v w : List ℕ) → (lexicographic u v ≡ Greater → ⊥) → (lexicographic v w ≡ Greater → ⊥) → lexicographic u w ≡ Greater → ⊥
not_after u v w h k g = by_order (lexicographic u v)
    (λ less. by_order (lexicographic v w)
    (λ less'. let no : ◌≡◌ {A = Ordering} Less Greater = sym (nat_list_cmp_total.trans u v w less less') ∙ g in cc)
    (λ equal. let no : ◌≡◌ {A = Ordering} Less Greater = sym less ∙ ap (lexicographic u) (exact_bytes v w equal) ∙ g in cc)
    k)
    (λ equal. k (sym (ap (λ l. lexicographic l w) (exact_bytes u v equal)) ∙ g))
    h

module _ (x : CostTables) (walks : AreChosen x) (grammar : IsGrammar x.grammar) where
  abbrev P : ℕ → List Sym → Type 0
  P = HasProduction x.grammar

  abbrev cost : ℕ → ℕ
  cost = token_cost x

  abbrev sums : Sym → Option ℕ
  sums = symbol_cost (token_cost x) (rule_cost x.least)

  abbrev pub known : CostTables
  known = record { grammar = x.grammar; costs = x.costs; least = x.least; choices = walks.settled }

  abbrev pays : (r : ℕ) (symbols : List Sym) → P r symbols → All (IsPaid cost) symbols
  pays = paid known walks.number walks.generator grammar

  pub answer_is : (q p m d : ℕ) → IsChoiceOf x q d p m → rule_cost x.least q ≡ Some d → d ≤ 65535 → choice_answer x q ≡ Some (p, m)
  answer_is q p m d o e small = ap (λ c. where_some c (rule_choice x.choices q)) (some_answered (rule_cost x.least q) d e small) ∙ o.choice

  pub costly : (q d : ℕ) → rule_cost x.least q ≡ Some d → 0 < d → cost_answer x q ≡ Some 0 → ⊥
  costly q d e some none = let is : d ≡ 0 = same_Some _ _ (sym e ∙ (answered_some (rule_cost x.least q) 0 none).0) in omega (arith, is, some)

  -- the choices give something for a list that has a cost, if they do for its rules
  gives_sequence : (a : List Sym) (s : ℕ) → sum_of sums a ≡ Some s → s ≤ 65535
      → ((q d : ℕ) → Contains a (Rule q) → rule_cost x.least q ≡ Some d → d ≤ 65535 → (w : List ℕ) × ChoicesGive x (Rule q ∷ []) w) → (w : List ℕ) × ChoicesGive x a w
  gives_sequence a s e small one = choices_sequence x a (λ q h. let part = part_at sums a h.0 (Rule q) s h.1 h.2 e in one q part.value h part.is (omega (arith, part.within, small)))

  gives_free : (q d : ℕ) → rule_cost x.least q ≡ Some d → d ≤ 0 → (w : List ℕ) × ChoicesGive x (Rule q ∷ []) w
  gives_free q d e none = ([], gives.free (some_answered (rule_cost x.least q) 0 (e ∙ ap Some (omega (arith, none))) (omega arith)) gives.empty)

  gives_below : (k q d p m : ℕ) → m < k → rule_cost x.least q ≡ Some d → 0 < d → d ≤ 65535 → IsChoiceOf x q d p m → (w : List ℕ) × ChoicesGive x (Rule q ∷ []) w
  gives_below zero q d p m lt e some small o = absurd (omega (arith, lt))
  gives_below (suc k) q d p m lt e some small o =
      let (u, h) = gives_sequence (nth_production x.grammar p).symbols d o.sum small
      (λ r c among f low. elim (cases_lt 0 c) [
        | inl paid ↦
            let (p', m', o') = walks.chosen r c f paid low in
            let less = subst (λ (b : Option (ℕ × ℕ)). IfSome b (λ choice. choice.1 < m)) o'.choice (All-contains (IsBelowIfChosen x.choices m) (nth_production x.grammar p).symbols (Rule r) o.below among) in
            gives_below k r c p' m' (omega (arith, less, lt)) f paid low o'
        | inr free ↦ gives_free r c f free
      ]) in
      (u, gives.chosen (costly q d e some) (answer_is q p m d o e small) h gives.empty (sym (append-nil u)))

  pub gives_some : (a : List Sym) (s : ℕ) → sum_of sums a ≡ Some s → s ≤ 65535 → (w : List ℕ) × ChoicesGive x a w
  gives_some a s e small = gives_sequence a s e small (λ q d _ f low. elim (cases_lt 0 d) [
    | inl paid ↦ let (p, m, o) = walks.chosen q d f paid low in gives_below (suc m) q d p m (omega arith) f paid low o
    | inr free ↦ gives_free q d f free
  ])

  -- the choice that gives something
  pub opens_by : (q d p m : ℕ) → rule_cost x.least q ≡ Some d → d ≤ 65535 → (cost_answer x q ≡ Some 0 → ⊥) → choice_answer x q ≡ Some (p, m) → IsChoiceOf x q d p m
  opens_by q d p m e small paid answer = elim (cases_lt 0 d) [
    | inl some ↦
        let (p', m', o) = walks.chosen q d e some small in
        let pairs : ◌≡◌ {A = ℕ × ℕ} (p', m') (p, m) = same_Some _ _ (sym (answer_is q p' m' d o e small) ∙ answer) in
        subst (λ (c : ℕ × ℕ). IsChoiceOf x q d c.0 c.1) pairs o
    | inr none ↦ absurd (paid (some_answered (rule_cost x.least q) 0 (e ∙ ap Some (omega (arith, none))) (omega arith)))
  ]

  abbrev IsGiven : ℕ → List ℕ → Type 0
  IsGiven r u = Minimal P cost r u × ChoicesGive x (Rule r ∷ []) u

  -- what they give is made of minimal sentences
  cut_given : {a : List Sym} {w : List ℕ} → ChoicesGive x a w → (s : ℕ) → sum_of sums a ≡ Some s → s ≤ 65535 → Split IsGiven a w
  cut_given gives.empty s e small = done
  cut_given (gives.token {t = t} {a = a} h) s e small =
      let p = plus_parts (sums (Token t)) (sum_of sums a) s e in
      itself (cut_given h p.second p.second_is (omega (arith, p.whole, small)))
  cut_given (gives.free {r = r} {a = a} nothing h) s e small =
      let p = plus_parts (sums (Rule r)) (sum_of sums a) s e in
      part (free_minimal known walks.number walks.generator grammar r nothing, gives.free nothing gives.empty) (cut_given h p.second p.second_is (omega (arith, p.whole, small))) refl
  cut_given (gives.chosen {r = r} {p = p} {m = m} {a = a} {u = u} paid choice h k f) s e small =
      let q = plus_parts (sums (Rule r)) (sum_of sums a) s e in
      let o = opens_by r q.first p m q.first_is (omega (arith, q.whole, small)) paid choice in
      let (word, parts, costs) = cut_of_sum known walks.number walks.generator grammar (nth_production x.grammar p).symbols q.first o.sum (omega (arith, q.whole, small)) in
      let least = least_of known walks.number walks.generator grammar r q.first (some_answered (rule_cost x.least r) q.first q.first_is (omega (arith, q.whole, small))) in
      let made = made_minimal P cost r (nth_production x.grammar p).symbols q.first u (record { has = o.has; least = least; word = word; parts = parts; is = costs })
      (Split-map IsGiven (Minimal P cost) (λ r u k. k.0) (cut_given h q.first o.sum (omega (arith, q.whole, small)))) in
      part (made, gives.chosen paid choice h gives.empty (sym (append-nil u))) (cut_given k q.second q.second_is (omega (arith, q.whole, small))) f

  pub minimal_given : (r c : ℕ) (u : List ℕ) → cost_answer x r ≡ Some c → ChoicesGive x (Rule r ∷ []) u → Minimal P cost r u
  minimal_given r c u answer given =
      let read = answered_some (rule_cost x.least r) c answer in
      (split_one IsGiven r u (cut_given given c (plus_zero (rule_cost x.least r) ∙ read.0) read.1)).0

  pub answered_choice : (r p m : ℕ) → choice_answer x r ≡ Some (p, m) → (c : ℕ) × (cost_answer x r ≡ Some c)
  answered_choice r p m choice = go (cost_answer x r) refl
    where
      go : (o : Option ℕ) → cost_answer x r ≡ o → (c : ℕ) × (cost_answer x r ≡ Some c)
      go None e = let no : ◌≡◌ {A = Option (ℕ × ℕ)} None (Some (p, m)) = sym (ap (λ c. where_some c (rule_choice x.choices r)) e) ∙ choice in absurd (cc)
      go (Some c) e = (c, e)

  answered_given : (r : ℕ) (w : List ℕ) → ChoicesGive x (Rule r ∷ []) w → (c : ℕ) × (cost_answer x r ≡ Some c)
  answered_given r w (gives.free nothing h) = (0, nothing)
  answered_given r w (gives.chosen {p = p} {m = m} paid choice h k f) = answered_choice r p m choice

  module _ (first : AreFirst x) where
    abbrev Follows : ℕ → List ℕ → Type 0
    Follows r v = Minimal P cost r v → (w : List ℕ) → ChoicesGive x (Rule r ∷ []) w → lexicographic w v ≡ Greater → ⊥

    follows_up : (r : ℕ) (symbols : List Sym) (v : List ℕ) → P r symbols → Yields P symbols v → Split (IsYieldedAnd P Follows) symbols v → Follows r v
    follows_up r symbols v has tree s m w given =
        let (c, answer) = answered_given r w given in
        let small = (answered_some (rule_cost x.least r) c answer).1 in
        let same = least_is_one P cost r (cost_of cost v) c (minimal_costs_least P cost r v m) (least_of known walks.number walks.generator grammar r c answer) in
        let up = λ (v' : List ℕ) (t : Yields P symbols v'). m.1 v' (derivation_from_trees P (opened has t empty (sym (append-nil v')))) in
        let parts = minimal_parts P cost pays Follows s up in
        let cut = Split-map (λ q u. Minimal P cost q u × Follows q u) (Minimal P cost) (λ q u k. k.0) parts in
        let sum = sum_of_cut known walks.number walks.generator grammar cut (omega (arith, same, small)) in
        let (sequence, made) = gives_some symbols (cost_of cost v) sum (omega (arith, same, small)) in
        let before = sequence_before P cost pays IsGiven (λ q u. Minimal P cost q u × Follows q u)
        (λ q u u' h k. (k.1 k.0 u h.1, λ z e. begins_none P cost pays q u z h.0 (subst (Minimal P cost q) e k.0)))
        (cut_given made (cost_of cost v) sum (omega (arith, same, small))) parts in
        elim (cases_lt 0 c) [
          | inl some ↦
              let optimal = optimal_located known walks.number walks.generator grammar r symbols (cost_of cost v)
              (record { has = has; least = minimal_costs_least P cost r v m; word = v; parts = cut; is = refl }) (omega (arith, same, some)) (omega (arith, same, small)) in
              not_after w sequence v
              (first optimal.index (optimal_whatever known x.choices optimal.index optimal.optimal) w sequence
              (subst (λ (y : Production). ChoicesGive x (Rule y.rule ∷ []) w) (sym optimal.production) given)
              (subst (λ (y : Production). ChoicesGive x y.symbols sequence) (sym optimal.production) made))
              before
          | inr none ↦
              let mine = minimal_free known walks.number walks.generator grammar r w (answer ∙ ap Some (omega (arith, none))) (minimal_given r c w answer given) in
              λ g. none_first v (sym (ap (λ l. lexicographic l v) mine) ∙ g)
        ]

    pub first_given : (r : ℕ) (w : List ℕ) → ChoicesGive x (Rule r ∷ []) w → FirstMinimal P cost r w
    first_given r w given =
        let (c, answer) = answered_given r w given in
        (minimal_given r c w answer given, λ v m. by_rules P Follows follows_up r v (trees_from_derivation P (Rule r ∷ []) v m.0) m w given)
