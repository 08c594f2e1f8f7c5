-- How a walk by choices continues.
use mathlib.Core.List.{reverse_aux, reverse_aux-append}
use Rattle.std.proofs.lemmas.Option.{same_Some}
use Rattle.std.proofs.Common.{◌≡◌, ℕ, ◌+◌, ◌*◌, ◌<◌, ◌≤◌, inl, inr, List, [], ◌∷◌, length, reverse, Option, Some, None, All, append-nil, arith, refl, sym, ap, subst, ◌∙◌}
use Rattle.std.specs.Prelude.{IfSome}
use Rattle.std.proofs.Math.Nat.{mul-add, add-mul, mul-one, mul-le-mul_right}
use Rattle.std.proofs.lemmas.Nat.{mul-le}
use Rattle.std.proofs.lemmas.Bool.{cases_lt}
use Rattle.std.proofs.lemmas.List.{length-append}
use Rattle.std.proofs.lemmas.List.Elements.{All-nil, All-cons, All-head, All-tail}
use Rattle.derivation.specs.Grammar.{Sym, Rule, Token, IsGrammar, HasProduction}
use Rattle.derivation.proofs.Costs.{least_is_one, minimal_costs_least}
use Rattle.cfgtables.specs.Openings.{nth_production}
use Rattle.derivation.specs.CostLists.{rule_cost}
use Rattle.cfgleast.specs.Certificate.{rule_choice}
use Rattle.cfgleast.specs.Generator.{CostTables, cost_answer, choice_answer, token_cost}
use Rattle.cfgleast.proofs.Generated.{answered_some}
use Rattle.cfgchoices.specs.Choices.{ChoicesGive}
use Rattle.cfgchoices.specs.Choices as gives
use Rattle.cfgchoices.specs.FirstChoices.{IsBelowIfChosen, IsChoiceOf, AreChosen}
use Rattle.cfgchoices.proofs.FirstChosen.{answered_choice, known, minimal_given, opens_by}
use Rattle.cfgchoices.proofs.Optimal.{answered_within, least_of}

-- the choice of a rule that costs something
pub record Chosen (x : CostTables) (q p m : ℕ) : Type 0 where
  pub cost : ℕ
  pub answer : cost_answer x q ≡ Some cost
  pub some : 0 < cost
  pub opens : IsChoiceOf x q cost p m

-- What is pending, starting with the next symbol; the tokens that will be collected; and how many productions will be opened.
pub data Planned (x : CostTables) : List Sym → List ℕ → ℕ → Type 0 where
  ended : Planned x [] [] 0
  token : {t : ℕ} {a : List Sym} {w : List ℕ} {n : ℕ} → Planned x a w n → Planned x (Token t ∷ a) (t ∷ w) n
  free : {q : ℕ} {a : List Sym} {w : List ℕ} {n : ℕ} → cost_answer x q ≡ Some 0 → Planned x a w n → Planned x (Rule q ∷ a) w n
  chosen : {q p m : ℕ} {a : List Sym} {w : List ℕ} {n k : ℕ} → Chosen x q p m → Planned x (reverse_aux (nth_production x.grammar p).symbols a) w n → k ≡ n + 1
      → Planned x (Rule q ∷ a) w k

pub record Plan (x : CostTables) (a : List Sym) (w : List ℕ) (most : ℕ) : Type 0 where
  pub openings : ℕ
  pub plan : Planned x a w openings
  pub few : openings ≤ most

module _ (x : CostTables) (walks : AreChosen x) (grammar : IsGrammar x.grammar) where
  chosen_by : (q p m : ℕ) → (cost_answer x q ≡ Some 0 → ⊥) → choice_answer x q ≡ Some (p, m) → Chosen x q p m
  chosen_by q p m paid choice =
      let (d, e) = answered_choice x walks grammar q p m choice in
      let read = answered_some (rule_cost x.least q) d e in
      let some : 0 < d = elim (cases_lt 0 d) [ inl some ↦ some | inr none ↦ absurd (paid (e ∙ ap Some (omega (arith, none)))) ] in
      record { cost = d; answer = e; some = some; opens = opens_by x walks grammar q d p m read.0 read.1 paid choice }

  -- what a rule that costs something gives isn't empty
  some_tokens : (q p m : ℕ) (u : List ℕ) → Chosen x q p m → ChoicesGive x (Rule q ∷ []) u → 0 < length u
  some_tokens q p m (t ∷ u) c given = omega arith
  some_tokens q p m [] c given =
      let none = least_is_one (HasProduction x.grammar) (token_cost x) q c.cost 0 (least_of (known x walks grammar) walks.number walks.generator grammar q c.cost c.answer)
      (minimal_costs_least (HasProduction x.grammar) (token_cost x) q [] (minimal_given x walks grammar q c.cost [] c.answer given)) in
      absurd (omega (arith, none, c.some))

  -- symbols on top of what is pending, whose choices have numbers below m
  planned : (m : ℕ) {a : List Sym} {v : List ℕ} → ChoicesGive x a v → All (IsBelowIfChosen x.choices m) a → (rest : List Sym) (w : List ℕ) (n : ℕ) → Planned x rest w n
      → Plan x (reverse_aux a rest) (reverse_aux v w) (n + length v * m)
  planned m gives.empty all rest w n plan = record { openings = n; plan = plan; few = omega arith }
  planned m (gives.token {t = t} {a = a} {w = v} h) all rest w n plan =
      let p = planned m h (All-tail (IsBelowIfChosen x.choices m) (Token t) a all) (Token t ∷ rest) (t ∷ w) n (token plan) in
      let longer : length v * m ≤ length (t ∷ v) * m = mul-le-mul_right m (omega arith) in
      record { openings = p.openings; plan = p.plan; few = omega (arith, p.few, longer) }
  planned m (gives.free {r = q} {a = a} nothing h) all rest w n plan =
      planned m h (All-tail (IsBelowIfChosen x.choices m) (Rule q) a all) (Rule q ∷ rest) w n (free nothing plan)
  planned m (gives.chosen {r = q} {p = p} {m = k} {a = a} {u = u} {w = v} {v = both} paid choice h i e) all rest w n plan =
      let c = chosen_by q p k paid choice in
      let less : k < m = subst (λ o. IfSome o (λ (choice : ℕ × ℕ). choice.1 < m)) c.opens.choice (All-head (IsBelowIfChosen x.choices m) (Rule q) a all) in
      let some = some_tokens q p k u c (gives.chosen paid choice h gives.empty (sym (append-nil u))) in
      let first = planned k h c.opens.below rest w n plan in
      let last = planned m i (All-tail (IsBelowIfChosen x.choices m) (Rule q) a all) (Rule q ∷ rest) (reverse_aux u w) (first.openings + 1) (chosen c first.plan refl) in
      let low = mul-le (length u) (k + 1) (length u) m (omega arith) (omega (arith, less)) in
      let one = mul-add (length u) k 1 in
      let same = mul-one (length u) in
      let cut = ap (λ l. l * m) (ap length e ∙ length-append u v) ∙ add-mul (length u) (length v) m in
      record {
        openings = last.openings;
        plan = subst (λ l. Planned x (reverse_aux a (Rule q ∷ rest)) l last.openings) (sym (ap (λ l. reverse_aux l w) e ∙ reverse_aux-append u v w)) last.plan;
        few = omega (arith, first.few, last.few, some, low, one, same, cut);
      }

  top_below : (r : ℕ) (w : List ℕ) → ChoicesGive x (Rule r ∷ []) w → IsBelowIfChosen x.choices x.grammar.rules (Rule r)
  top_below r w (gives.free nothing h) =
      subst (λ o. IfSome o (λ (choice : ℕ × ℕ). choice.1 < x.grammar.rules)) (sym (walks.free r (answered_some (rule_cost x.least r) 0 nothing).0)) tt
  top_below r w (gives.chosen {p = p} {m = m} paid choice h k e) = let o = (chosen_by r p m paid choice).opens in
      subst (λ o. IfSome o (λ (choice : ℕ × ℕ). choice.1 < x.grammar.rules)) (sym o.choice) o.deep

  -- a walk from a rule
  pub plan_of : (r : ℕ) (w : List ℕ) → ChoicesGive x (Rule r ∷ []) w → Plan x (Rule r ∷ []) (reverse w) (length w * x.grammar.rules)
  plan_of r w given =
      let p = planned x.grammar.rules given (All-cons (IsBelowIfChosen x.choices x.grammar.rules) (Rule r) [] (top_below r w given) (All-nil (IsBelowIfChosen x.choices x.grammar.rules))) [] [] 0 ended in
      record { openings = p.openings; plan = p.plan; few = omega (arith, p.few) }

  -- what comes next
  pub plan_ended : (w : List ℕ) (n : ℕ) → Planned x [] w n → w ≡ []
  plan_ended _ _ ended = refl

  pub plan_token : (t : ℕ) (a : List Sym) (w : List ℕ) (n : ℕ) → Planned x (Token t ∷ a) w n → (v : List ℕ) × (w ≡ t ∷ v) × Planned x a v n
  plan_token t a _ n (token {w = v} h) = (v, refl, h)

  free_unchosen : (q p m : ℕ) → cost_answer x q ≡ Some 0 → rule_choice x.choices q ≡ Some (p, m) → ⊥
  free_unchosen q p m nothing choice =
      let no : ◌≡◌ {A = Option (ℕ × ℕ)} None (Some (p, m)) = sym (walks.free q (answered_some (rule_cost x.least q) 0 nothing).0) ∙ choice in cc

  pub plan_free : (q : ℕ) (a : List Sym) (w : List ℕ) (n : ℕ) → Planned x (Rule q ∷ a) w n → rule_choice x.choices q ≡ None → (cost_answer x q ≡ Some 0) × Planned x a w n
  plan_free q a w n (free nothing h) none = (nothing, h)
  plan_free q a w n (chosen {p = p} {m = m} c h e) none = let no : ◌≡◌ {A = Option (ℕ × ℕ)} None (Some (p, m)) = sym none ∙ c.opens.choice in absurd (cc)

  pub record Opening (q : ℕ) (choice : ℕ × ℕ) (a : List Sym) (w : List ℕ) (n : ℕ) : Type 0 where
    pub chosen : Chosen x q choice.0 choice.1
    pub left : ℕ
    pub plan : Planned x (reverse_aux (nth_production x.grammar choice.0).symbols a) w left
    pub one : n ≡ left + 1

  pub plan_opened : (q : ℕ) (choice : ℕ × ℕ) (a : List Sym) (w : List ℕ) (n : ℕ) → Planned x (Rule q ∷ a) w n → rule_choice x.choices q ≡ Some choice → Opening q choice a w n
  plan_opened q choice a w n (free nothing h) some = absurd (free_unchosen q choice.0 choice.1 nothing some)
  plan_opened q choice a w n (chosen {p = p} {m = m} {n = left} c h e) some =
      let same : ◌≡◌ {A = ℕ × ℕ} (p, m) choice = same_Some _ _ (sym c.opens.choice ∙ some) in
      subst (λ (o : ℕ × ℕ). Opening q o a w n) same (record { chosen = c; left = left; plan = h; one = e })

  -- a pending rule is a rule of the grammar
  pub plan_within : (q : ℕ) (a : List Sym) (w : List ℕ) (n : ℕ) → Planned x (Rule q ∷ a) w n → q < x.grammar.rules
  plan_within q a w n (free nothing h) = answered_within (known x walks grammar) walks.number walks.generator q 0 nothing
  plan_within q a w n (chosen c h e) = answered_within (known x walks grammar) walks.number walks.generator q c.cost c.answer
