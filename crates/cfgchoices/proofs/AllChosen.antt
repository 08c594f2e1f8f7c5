-- When all base productions were used, each rule that costs something has a choice, and a walk by the choices ends.
use Rattle.std.proofs.Common.{◌≡◌, ℕ, ◌<◌, ◌≤◌, [], Option, Some, None, arith, refl, sym, ap, subst, ◌∙◌}
use Rattle.std.proofs.lemmas.Option.{same_Some}
use Rattle.derivation.specs.Grammar.{IsGrammar}
use Rattle.derivation.specs.Sentence.{cost_of}
use Rattle.cfgtables.specs.Openings.{nth_production}
use Rattle.cfgtables.proofs.Located.{at_position}
use Rattle.derivation.specs.CostLists.{rule_cost}
use Rattle.cfgleast.specs.Certificate.{rule_choice}
use Rattle.cfgchoices.specs.FirstChoices.{IsChoiceOf, AreChosen}
use Rattle.cfgleast.specs.Generator.{CostTables, IsGenerator, cost_answer, token_cost}
use Rattle.cfgchoices.specs.Chains.{Along, here, next}
use Rattle.cfgchoices.specs.Kinds.{LeadsTo, IsBase, IsChain}
use Rattle.cfgchoices.specs.Inner.Candidates.{Choices, Choosing, HasChoice, with_choices}
use Rattle.cfgchoices.proofs.Choosing.{few, paid_chosen, sequence_below}
use Rattle.cfgleast.proofs.Generated.{some_answered}
use Rattle.cfgchoices.proofs.Optimal.{least_of, minimal_made, one_cost, optimal_sum}

module _ (x : CostTables) (n : ℕ) (is : IsGenerator x n) (grammar : IsGrammar x.grammar) (l : Choices) (k : ℕ) (state : Choosing x l k) where
  -- rules that chain productions link cost the same
  along_cost : {a b : ℕ} → Along (LeadsTo x) a b → (c d : ℕ) → cost_answer x a ≡ Some c → cost_answer x b ≡ Some d → c ≡ d
  along_cost {a = a} here c d e f = one_cost x a c d e f
  along_cost {a = a} (next {b = b} link rest) c d e f =
      let optimal = link.target.optimal in
      let same = one_cost x a c optimal.cost e (subst (λ r. cost_answer x r ≡ Some optimal.cost) link.owner optimal.rule) in
      same ∙ along_cost rest optimal.cost d link.target.same f

  module _ (bound : ℕ) (base : (p : ℕ) (base : IsBase x p) → base.optimal.cost < bound → HasChoice l (nth_production x.grammar p).rule)
      (hand : (p q : ℕ) → IsChain x p q → HasChoice l q → HasChoice l (nth_production x.grammar p).rule) where
    back : {a b : ℕ} → Along (LeadsTo x) a b → HasChoice l b → HasChoice l a
    back here h = h
    back (next {b = b} link rest) h = subst (HasChoice l) link.owner (hand link.index b link.target (back rest h))

    pub all_chosen : (r c : ℕ) → cost_answer x r ≡ Some c → 0 < c → c < bound → HasChoice l r
    all_chosen r c answer some low =
        let least = least_of x n is grammar r c answer in
        let (w, s, costs) = least.0 in
        let made = minimal_made x n is grammar r c w answer some (s, λ v t. subst (λ k. k ≤ cost_of (token_cost x) v) (sym costs) (least.1 v t)) in
        let reaches = made.reaches in
        let same = along_cost reaches.leads c reaches.base.optimal.cost answer reaches.base.optimal.rule in
        back reaches.leads (base made.index reaches.base (subst (λ d. d < bound) same low))

    opens : (q d p m : ℕ) → rule_cost x.least q ≡ Some d → d ≤ 65535 → rule_choice l q ≡ Some (p, m) → IsChoiceOf (with_choices x l) q d p m
    opens q d p m e small choice =
        let c = (state.each q p m choice).0 in
        let less = (state.each q p m choice).1 in
        let same : c.optimal.cost ≡ d = same_Some _ _ (sym (subst (λ r. cost_answer x r ≡ Some c.optimal.cost) c.owner c.optimal.rule) ∙ some_answered (rule_cost x.least q) d e small) in
        record {
          choice = choice;
          index = c.optimal.index;
          owner = c.owner;
          has = at_position x.grammar p _ c.optimal.index (sym c.owner) refl;
          symbols = grammar.symbols p (record { rule = 0; symbols = [] }) c.optimal.index;
          sum = optimal_sum x n is grammar p c.optimal ∙ ap Some same;
          below = sequence_below x l k state m (nth_production x.grammar p).symbols c.below;
          deep = let all = few x l k state in omega (arith, less, all);
        }

    free_unchosen : (q : ℕ) → rule_cost x.least q ≡ Some 0 → rule_choice l q ≡ None
    free_unchosen q e = elim (rule_choice l q) as (λ (o : Option (ℕ × ℕ)). rule_choice l q ≡ o → rule_choice l q ≡ None) [
      | None ↦ λ none. none
      | Some choice ↦ λ some. absurd (paid_chosen x l k state q choice.0 choice.1 (state.each q choice.0 choice.1 some).0 (some_answered (rule_cost x.least q) 0 e (omega arith)))
    ] refl

    pub walks : ((r c : ℕ) → cost_answer x r ≡ Some c → c < bound) → AreChosen (with_choices x l)
    walks low = record {
      settled = x.choices;
      number = n;
      generator = is;
      listed = state.listed;
      free = free_unchosen;
      chosen = λ q d e some small.
          let answer = some_answered (rule_cost x.least q) d e small in
          let ((p, m), choice) = all_chosen q d answer some (low q d answer) in
          (p, m, opens q d p m e small choice);
      below = λ q p m e. sequence_below x l k state m (nth_production x.grammar p).symbols (state.each q p m e).0.below;
    }
