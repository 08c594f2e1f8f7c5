-- Rules by increasing cost: what is true when a cost comes, when its base productions are candidates, when all candidates are used up,
-- and at the end.
use Rattle.std.proofs.Common.{◌≡◌, ℕ, ◌+◌, ◌<◌, ◌≤◌, inl, inr, cond, List, [], get_or, length, replicate, Option, Some, None, Contains, arith, sym, ap, subst, ◌∙◌}
use Rattle.std.specs.Prelude.{count_by, is_some}
use Rattle.std.proofs.lemmas.Bool.{cases_lt}
use Rattle.std.proofs.lemmas.List.{length-replicate}
use Rattle.lemmas.proofs.Contained.{contains_none}
use Rattle.lemmas.proofs.Elements.{get_or-replicate_default}
use Rattle.cfgleast.specs.Certificate.{rule_choice}
use Rattle.cfgleast.specs.Generator.{CostTables, cost_answer}
use Rattle.cfgchoices.specs.FirstChoices.{AreFirst, AreChosen}
use Rattle.cfgchoices.specs.Kinds.{IsChain}
use Rattle.cfgchoices.specs.Inner.Lists.{IsBaseAt}
use Rattle.cfgchoices.specs.Inner.Candidates.{Adds, CheaperChosen, HandlesChains, HasChoice, IsDone, IsHandled, IsKnown, IsCandidate, Known, Nominating, Candidates, Waits, with_choices, owner, waiting}
use Rattle.cfgchoices.specs.Chains.{here}
use Rattle.cfgchoices.proofs.AllChosen.{all_chosen, walks}
use Rattle.cfgchoices.proofs.Nominated.{chosen_below}
use Rattle.std.proofs.lemmas.List.Folds.{sum_by-replicate}
use Rattle.cfgchoices.proofs.Optimal.{one_cost, base_costs, base_less, optimal_whatever}

no_wait : (f : Candidates) → waiting f ≡ 0 → (q : ℕ) → Waits f q → ⊥
no_wait f none q (inl ready) = let lt = ready.1 in omega (arith, lt, none)
no_wait f none q (inr other) = omega (arith, other.1, none)

all_done : (x : CostTables) (f : Candidates) → waiting f ≡ 0 → (q : ℕ) → IsHandled x f q → IsDone x f.choices q
all_done x f none q (inl done) = done
all_done x f none q (inr (p, waits, holds)) = absurd (no_wait f none p waits)

module _ (k : Known) (n : ℕ) (is : IsKnown k n) (f : Candidates) (c : ℕ) (climbed : CheaperChosen k f c) where
  abbrev x : CostTables
  x = k.tables

  handed : (q r : ℕ) → IsChain x q r → HasChoice f.choices r → IsDone x f.choices q
  handed q r target has = all_done x f climbed.none q (climbed.going.chains q r target has)

  older : (r d : ℕ) → cost_answer x r ≡ Some d → 0 < d → d < c → HasChoice f.choices r
  older = all_chosen x n is.generator is.grammar f.choices f.number climbed.going.nominating.candidates.choosing c (λ q base low. (climbed.base q base low).chosen) (λ q r target has. (handed q r target has).chosen)

  -- the cost comes
  abbrev pub begun : Candidates
  begun = record { choices = f.choices; number = f.number; cost = c; ready = f.ready; sorted = f.sorted; foremost = f.foremost }

  pub begun_nominating : Nominating k begun
  begun_nominating =
      let o = climbed.going.nominating in record {
        candidates = record {
          choosing = o.candidates.choosing;
          costs = λ r h. let (d, e, le) = o.candidates.costs r h in let less = climbed.cheaper r d h e in (d, e, omega (arith, less));
          nominated = λ q h. absurd (no_wait f climbed.none q h);
          sole = o.candidates.sole;
          several = o.candidates.several;
          order = o.candidates.order;
        };
        listed = o.listed;
        foremost = o.foremost;
      }

  pub base_nominated : (p : ℕ) → IsBaseAt x c p → IsCandidate k f.choices f.number c p
  base_nominated p (base, e) = record {
    optimal = base.optimal;
    cost = e;
    below = λ q h.
        let (d, known) = base_costs x n is.generator is.grammar p q base h in
        let less = base_less x n is.generator is.grammar (owner x p) p base.optimal.cost q d (record { leads = here; base = base }) base.optimal.rule h known in
        elim (cases_lt 0 d) [
          | inl some ↦ chosen_below x f.choices f.number climbed.going.nominating.candidates.choosing q (older q d known some (omega (arith, less, e)))
          | inr none ↦ inl (known ∙ ap Some (omega (arith, none)))
        ];
    floor = λ r has costs several. absurd (let lt = climbed.cheaper r c has costs in omega (arith, lt));
  }

  -- its base productions are candidates
  module _ (m : ℕ) (f' : Candidates) (nominating : Nominating k f') (adds : Adds x (IsBaseAt x c) m begun f') where
    kept : (q : ℕ) → IsHandled x f q → IsHandled x f' q
    kept q h = adds.handles q (inl h)

    pub nominated_going : HandlesChains k f'
    nominated_going = record {
      nominating = nominating;
      chains = λ q r target has. kept q (climbed.going.chains q r target (subst (λ l. HasChoice l r) adds.choices has));
    }

    -- and all candidates are used up
    pub climbed_more : (f'' : Candidates) → HandlesChains k f'' → waiting f'' ≡ 0 → ((q : ℕ) → IsHandled x f' q → IsHandled x f'' q) → f''.cost ≡ f'.cost → CheaperChosen k f'' (c + 1)
    climbed_more f'' going none handles same = record {
      going = going;
      none = none;
      base = λ p base low. all_done x f'' none p (handles p (elim (cases_lt base.optimal.cost c) [
        | inl less ↦ kept p (inl (climbed.base p base less))
        | inr not ↦ adds.handles p (inr (base, omega (arith, not, low)))
      ]));
      cheaper = λ r d has e.
          let (d', e', le) = going.nominating.candidates.costs r has in
          let one = one_cost x r d d' e e' in
          let now = same ∙ adds.cost in
          omega (arith, le, one, now);
    }

  -- at the end
  module _ (end : k.limit ≤ c) where
    low : (r d : ℕ) → cost_answer x r ≡ Some d → d < c
    low r d e = let lt = is.costs r d e in omega (arith, lt, end)

    pub climbed_walks : AreChosen (with_choices x f.choices)
    climbed_walks = walks x n is.generator is.grammar f.choices f.number climbed.going.nominating.candidates.choosing c (λ q base low. (climbed.base q base low).chosen) (λ q r target has. (handed q r target has).chosen) low

    pub climbed_first : AreFirst (with_choices x f.choices)
    climbed_first p optimal = elim (is.kinds p (optimal_whatever (with_choices x f.choices) x.choices p optimal)) [
      | inl base ↦ (climbed.base p base (low (owner x p) base.optimal.cost base.optimal.rule)).first
      | inr target ↦ let (q, h) = target in (handed p q h (older q h.optimal.cost h.same h.optimal.positive (low q h.optimal.cost h.same))).first
    ]

-- nothing is chosen yet
pub climbed_begins : (k : Known) (f : Candidates) → f.choices ≡ replicate k.tables.grammar.rules None → f.number ≡ 0 → f.ready ≡ [] → f.sorted ≡ []
    → f.foremost ≡ replicate k.tables.grammar.rules None → CheaperChosen k f 1
climbed_begins k f choices number ready sorted foremost = record {
  going = record {
    nominating = record {
      candidates = record {
        choosing = record {
          listed = ap length choices ∙ length-replicate k.tables.grammar.rules None;
          count = ap (count_by is_some) choices ∙ sum_by-replicate (λ (o : Option (ℕ × ℕ)). cond (is_some o) 1 0) k.tables.grammar.rules None ∙ omega (arith, number);
          each = λ r p m e. absurd (none r ((p, m), e));
        };
        costs = λ r h. absurd (none r h);
        nominated = λ q h. absurd (still q h);
        sole = λ q h. absurd (still q (inl h));
        several = λ q h. absurd (still q (inr h));
        order = λ i j lt short. let len = ap length sorted in absurd (omega (arith, short, len));
      };
      listed = ap length foremost ∙ length-replicate k.tables.grammar.rules None;
      foremost = λ r p e.
          let no : None ≡ Some p = sym (ap (λ (l : List (Option ℕ)). get_or l r None) foremost ∙ get_or-replicate_default k.tables.grammar.rules r None) ∙ e in
          let never : ⊥ = cc in
          absurd never;
    };
    chains = λ q r target h. absurd (none r h);
  };
  none = let one = ap length ready in let other = ap length sorted in omega (arith, one, other);
  base = λ p base low. absurd (omega (arith, low, base.optimal.positive));
  cheaper = λ r d h e. absurd (none r h);
}
  where
    none : (r : ℕ) → HasChoice f.choices r → ⊥
    none r h =
        let unset : rule_choice f.choices r ≡ None = ap (λ l. rule_choice l r) choices ∙ get_or-replicate_default k.tables.grammar.rules r None in
        let no : None ≡ Some h.0 = sym unset ∙ h.1 in
        cc

    still : (q : ℕ) → Waits f q → ⊥
    still q (inl i) = contains_none q (subst (λ l. Contains l q) ready i)
    still q (inr i) = contains_none q (subst (λ l. Contains l q) sorted i)
