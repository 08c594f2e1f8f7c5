-- The rules that a rule's sentences are made of are found by a search along base productions.
use Rattle.std.proofs.Common.{◌≡◌, ◌↔◌, ℕ, inl, inr, List, [], ◌∷◌, ◌++◌, Some, Contains, refl, sym, ap, subst}
use Rattle.std.specs.List.Sorted.{IsPermutation}
use Rattle.std.proofs.lemmas.List.Sorted.{Contains-permutation, IsPermutation-sym}
use Rattle.derivation.specs.Grammar.{Rule, IsGrammar}
use Rattle.cfgtables.specs.Openings.{nth_production}
use Rattle.cfganalysis.specs.Paths.{ProductionRefersAt}
use Rattle.search.specs.Reachable.{FoundBy, Reachable, Reaches, SearchState, led, seed}
use Rattle.search.proofs.Reaching.{Begun, Searching, popped_reachable, reaches_as, search_begins, search_ends, search_goes_on}
use Rattle.cfgleast.specs.Generator.{CostTables, IsGenerator, cost_answer}
use Rattle.cfgcosts.specs.Inner.Minimal.{AreRequested}
use Rattle.cfgchoices.specs.Kinds.{ReachesBase}
use Rattle.lemmas.proofs.Contained.{contains_cases, contains_first, contains_later, contains_none}
use Rattle.cfgchoices.proofs.Optimal.{base_costs}

module _ (x : CostTables) (r : ℕ) where
  -- a base production that rule q reaches contains rule s
  pub record Asks (q s : ℕ) : Type 0 where
    pub index : ℕ
    pub reaches : ReachesBase x q index
    pub holds : Contains (nth_production x.grammar index).symbols (Rule s)

  abbrev pub HasAnswer : ℕ → Type 0
  HasAnswer q = (c : ℕ) × (cost_answer x q ≡ Some c)

  abbrev pub IsListed : List (ℕ × ℕ) → ℕ → Type 0
  IsListed listed q = (c : ℕ) × Contains listed (c, q)

  -- each rule that is found has a cost to return
  pub answered : (n : ℕ) → IsGenerator x n → IsGrammar x.grammar → HasAnswer r → {q : ℕ} → Reachable (λ q. q ≡ r) Asks q → HasAnswer q
  answered n is grammar answer (seed {a = q} e) = subst HasAnswer (sym e) answer
  answered n is grammar answer (led {b = q} k h) = base_costs x n is grammar h.index q h.reaches.base h.holds

  pub record Asking (listed : List (ℕ × ℕ)) (s : SearchState) : Type 0 where
    pub search : Searching x.grammar.rules (λ q. q ≡ r) Asks (IsListed listed) s
    pub costs : (c q : ℕ) → Contains listed (c, q) → cost_answer x q ≡ Some c
    pub reachable : (c q : ℕ) → Contains listed (c, q) → Reachable (λ q. q ≡ r) Asks q

  pub asking_begins : (s : SearchState) → Begun x.grammar.rules (λ q. q ≡ r) s → Asking [] s
  asking_begins s b = record {
    search = search_begins x.grammar.rules (λ q. q ≡ r) Asks (IsListed []) s b;
    costs = λ c q h. absurd (contains_none (c, q) h);
    reachable = λ c q h. absurd (contains_none (c, q) h);
  }

  pub asking_goes_on : (b c : ℕ) (old mid new : SearchState) (base : List ℕ) (listed listed' : List (ℕ × ℕ)) → Asking listed old → mid.reachable ≡ old.reachable
      → old.waiting ≡ mid.waiting ++ b ∷ [] → ((p : ℕ) → Contains base p ↔ ReachesBase x b p) → Reaches (FoundBy (ProductionRefersAt x.grammar) base) mid new
      → cost_answer x b ≡ Some c → IsPermutation ((c, b) ∷ listed) listed' → Asking listed' new
  asking_goes_on b c old mid new base listed listed' a same popped all w answer moved =
      let to = λ (e : ℕ × ℕ) (h : Contains ((c, b) ∷ listed) e). Contains-permutation ((c, b) ∷ listed) listed' e moved h in
      let from = λ (e : ℕ × ℕ) (h : Contains listed' e). Contains-permutation listed' ((c, b) ∷ listed) e (IsPermutation-sym ((c, b) ∷ listed) listed' moved) h in
      record {
        search = search_goes_on x.grammar.rules (λ q. q ≡ r) Asks (IsListed listed) b old mid a.search popped new (IsListed listed')
            (λ q d. (d.0, to (d.0, q) (contains_later (c, b) (d.0, q) listed d.1))) (c, to (c, b) (contains_first (c, b) listed)) same
            (reaches_as (FoundBy (ProductionRefersAt x.grammar) base) (Asks b) mid new
            (λ q h. record { index = h.thing; reaches = (all h.thing).0 h.among; holds = h.finds })
            (λ q h. record { thing = h.index; among = (all h.index).1 h.reaches; finds = h.holds }) w);
        costs = λ d q h. elim (contains_cases (c, b) (d, q) listed (from (d, q) h)) [
          | inl e ↦ subst (λ (y : ℕ × ℕ). cost_answer x y.1 ≡ Some y.0) e answer
          | inr old ↦ a.costs d q old
        ];
        reachable = λ d q h. elim (contains_cases (c, b) (d, q) listed (from (d, q) h)) [
          | inl e ↦ subst (Reachable (λ q. q ≡ r) Asks) (ap (λ (y : ℕ × ℕ). y.1) e)
              (a.search.sound b (popped_reachable x.grammar.rules (λ q. q ≡ r) Asks (IsListed listed) b old mid a.search popped))
          | inr before ↦ a.reachable d q before
        ];
      }

  pub asking_ends : (listed : List (ℕ × ℕ)) (s : SearchState) → Asking listed s → s.waiting ≡ [] → AreRequested x r listed
  asking_ends listed s a none =
      let ends = λ (q : ℕ) (k : Reachable (λ q. q ≡ r) Asks q). (search_ends x.grammar.rules (λ q. q ≡ r) Asks (IsListed listed) s a.search none k).1 in
      record {
        costs = a.costs;
        first = ends r (seed refl);
        bases = λ c q p t h reaches holds. ends t (led (a.reachable c q h) (record { index = p; reaches = reaches; holds = holds }));
      }
