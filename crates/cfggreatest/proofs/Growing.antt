-- A rule with unbounded costs reaches a growing cycle. A walk goes down a parse tree. It marks a rule if symbols beside the way down from it
-- cost something. If a marked rule comes again, it has a growing cycle; until then, the rules that aren't marked bound what the tree costs.
use Rattle.std.proofs.Common.{◌≡◌, ◌↔◌, ℕ, zero, suc, ◌+◌, ◌<◌, ◌≤◌, ◌⊎◌, inl, inr, Bool, true, false, cond, eqb, eqb-true, eq-eqb, List, [], ◌∷◌, ◌++◌, Option, None, Result, Ok, Err, get_or, length, sum_by, append-nil, append_assoc, refl, sym, ap, subst, ◌∙◌, arith}
use Rattle.std.proofs.lemmas.Bool.{cases_Bool, cases_eq}
use Rattle.std.proofs.lemmas.List.Sums.{get_or-le-sum_by, sum_by-append, sum_by-cons}
use Rattle.derivation.specs.Grammar.{Sym, Rule, Token, Grammar, Production, IsGrammar, HasProduction}
use Rattle.derivation.specs.Derivation.{Derives, none}
use Rattle.derivation.specs.Sentence.{cost_of}
use Rattle.derivation.specs.Costs.{Unbounded}
use Rattle.derivation.specs.Cycles.{ReachesGrowingCycle}
use Rattle.derivation.specs.Tree.{Yields, empty, token, opened}
use Rattle.derivation.specs.declared.errors.CostError.{CostError}
use Rattle.derivation.specs.declared.errors.CostError.TheVariants.{NoSentence}
use Rattle.derivation.proofs.Concatenation.{derives_trans, derives_left, derives_right, derives_production, step_production}
use Rattle.derivation.proofs.Cycles.{cycle_unbounds}
use Rattle.derivation.proofs.Trees.{trees_from_derivation, trees_join, derivation_from_trees}
use Rattle.cfgtables.proofs.Located.{owner}
use Rattle.cfggreatest.specs.GreatestCosts.{AreGreatestCosts, Means}
use Rattle.cfggreatest.specs.Inner.AtLeast.{weigh}
use Rattle.cfggreatest.proofs.Bounded.{missing, missing_less}
use Rattle.cfggreatest.proofs.Reporting.{exactly}

module _ (P : ℕ → List Sym → Type 0) (cost : ℕ → ℕ) where
  -- l derives a list that contains a, beside symbols that yield words which cost n or more in total
  record Around (l a : List Sym) (n : ℕ) : Type 0 where
    before : List Sym
    after : List Sym
    prefix : List ℕ
    back : List ℕ
    leads : Derives P l (before ++ (a ++ after))
    first : Yields P before prefix
    second : Yields P after back
    enough : n ≤ cost_of cost prefix + cost_of cost back

  -- what leads to a also leads to b, with m more beside it
  abbrev Moves : List Sym → List Sym → ℕ → Type 0
  Moves a b m = (l : List Sym) (n k : ℕ) → k ≤ n + m → Around l a n → Around l b k

  to_first : (a b : List Sym) (v : List ℕ) → Yields P b v → Moves (a ++ b) a (cost_of cost v)
  to_first a b v tree l n k le c = record {
    before = c.before;
    after = b ++ c.after;
    prefix = c.prefix;
    back = v ++ c.back;
    leads = subst (λ x. Derives P l (c.before ++ x)) (append_assoc a b c.after) c.leads;
    first = c.first;
    second = trees_join P tree c.second;
    enough = let e = c.enough in omega (arith, le, e, sum_by-append cost v c.back);
  }

  to_second : (a b : List Sym) (u : List ℕ) → Yields P a u → Moves (a ++ b) b (cost_of cost u)
  to_second a b u tree l n k le c = record {
    before = c.before ++ a;
    after = c.after;
    prefix = c.prefix ++ u;
    back = c.back;
    leads = subst (Derives P l) (ap (λ x. c.before ++ x) (append_assoc a b c.after) ∙ sym (append_assoc c.before a (b ++ c.after))) c.leads;
    first = trees_join P c.first tree;
    second = c.second;
    enough = let e = c.enough in omega (arith, le, e, sum_by-append cost c.prefix u);
  }

  into : (r : ℕ) (symbols : List Sym) → P r symbols → Moves (Rule r ∷ []) symbols 0
  into r symbols has l n k le c = record {
    before = c.before;
    after = c.after;
    prefix = c.prefix;
    back = c.back;
    leads = derives_trans P c.leads (derives_left P c.before (derives_right P c.after (derives_production P r symbols has)));
    first = c.first;
    second = c.second;
    enough = let e = c.enough in omega (arith, le, e);
  }

  here : (l : List Sym) → Around l l 0
  here l = record {
    before = [];
    after = [];
    prefix = [];
    back = [];
    leads = subst (Derives P l) (sym (append-nil l)) none;
    first = empty;
    second = empty;
    enough = omega arith;
  }

  -- the same from a rule, in one or more steps
  abbrev Leads : ℕ → List Sym → ℕ → Type 0
  Leads r a n = (l : List Sym) × P r l × Around l a n

  closes : (root x : ℕ) (w : List ℕ) → Around (Rule root ∷ []) (Rule x ∷ []) 0 → Leads x (Rule x ∷ []) 1 → Yields P (Rule x ∷ []) w
      → ReachesGrowingCycle P cost root
  closes root x w m (l, has, c) tree = (
    x,
    record {
      middle = l;
      u = c.before;
      v = c.after;
      word = c.prefix ++ c.back;
      first = step_production P x l has;
      around = c.leads;
      gives = derivation_from_trees P (trees_join P c.first c.second);
      grows = let e = c.enough in omega (arith, e, sum_by-append cost c.prefix c.back);
    },
    record {
      before = m.before;
      after = m.after;
      word = m.prefix ++ (w ++ m.back);
      derives = m.leads;
      gives = derivation_from_trees P (trees_join P m.first (trees_join P tree m.second));
    },
  )

abbrev bit : Bool → ℕ
bit b = cond b 1 0

bit_most : (b : Bool) → bit b ≤ 1
bit_most true = omega arith
bit_most false = omega arith

module _ (g : Grammar) (cost : ℕ → ℕ) (is : IsGrammar g) (root : ℕ) where
  -- what a list costs at most, if rules cost no more than k
  abbrev weight : ℕ → List Sym → ℕ
  weight k a = sum_by (weigh cost (λ r. k)) a

  -- what a rule costs at most, if fewer than n rules aren't marked and no cycle is found
  abbrev most : ℕ → ℕ
  most zero = 0
  most (suc n) = sum_by (λ (p : Production). weight (most n) p.symbols) g.productions

  weight_most : (r n : ℕ) (symbols : List Sym) → HasProduction g r symbols → weight (most n) symbols ≤ most (suc n)
  weight_most r n symbols has = subst (λ (p : Production). weight (most n) p.symbols ≤ most (suc n)) has.2
      (get_or-le-sum_by (λ (p : Production). weight (most n) p.symbols) g.productions has.0 (record { rule = r; symbols = symbols }) has.1)

  abbrev unmarked : (ℕ → Bool) → ℕ
  unmarked marked = missing 1 (λ r. bit (marked r)) g.rules

  -- the walk is at a, below marked rules, and fewer than n rules aren't marked
  record AreChosen (a : List Sym) (n : ℕ) : Type 0 where
    marked : ℕ → Bool
    leads : (r : ℕ) → marked r ≡ true → Leads (HasProduction g) cost r a 1
    above : Around (HasProduction g) cost (Rule root ∷ []) a 0
    room : unmarked marked < n

  abbrev moved : (a b : List Sym) (m n : ℕ) → Moves (HasProduction g) cost a b m → AreChosen a n → AreChosen b n
  moved a b m n move s = record {
    marked = s.marked;
    leads = λ r h. let t = s.leads r h in (t.0, t.1, move t.0 1 1 (omega arith) t.2);
    above = move (Rule root ∷ []) 0 0 (omega arith) s.above;
    room = s.room;
  }

  module _ (r : ℕ) (marked : ℕ → Bool) (new : marked r ≡ false) where
    abbrev mark_also : ℕ → Bool
    mark_also x = cond (eqb x r) true (marked x)

    no_less : (x : ℕ) (b : Bool) → bit (marked x) ≤ bit (cond b true (marked x))
    no_less x true = bit_most (marked x)
    no_less x false = omega arith

    fewer : r < g.rules → unmarked mark_also < unmarked marked
    fewer lt =
        let old : bit (marked r) ≡ 0 = ap bit new in
        let now : bit (mark_also r) ≡ 1 = ap (λ b. bit (cond b true (marked r))) (eq-eqb r r refl) in
        missing_less 1 (λ x. bit (marked x)) (λ x. bit (mark_also x)) (λ x. no_less x (eqb x r)) r (omega (arith, old, now)) (omega (arith, old)) g.rules lt

    leads_also : (a : List Sym) → ((x : ℕ) → marked x ≡ true → Leads (HasProduction g) cost x a 1) → Leads (HasProduction g) cost r a 1
        → (x : ℕ) (b : Bool) → eqb x r ≡ b → cond b true (marked x) ≡ true → Leads (HasProduction g) cost x a 1
    leads_also a leads t x true e h = subst (λ y. Leads (HasProduction g) cost y a 1) (sym (eqb-true x r e)) t
    leads_also a leads t x false e h = leads x h

  mark : (a : List Sym) (n r : ℕ) (s : AreChosen a (suc n)) → s.marked r ≡ false → Leads (HasProduction g) cost r a 1 → AreChosen a n
  mark a n r s new t = record {
    marked = mark_also r s.marked new;
    leads = λ x. leads_also r s.marked new a s.leads t x (eqb x r) refl;
    above = s.above;
    room = let room = s.room in omega (arith, room, fewer r s.marked new (owner g (record { rule = r; symbols = t.0 }) is t.1));
  }

  abbrev Found : Type 0
  Found = ReachesGrowingCycle (HasProduction g) cost root

  -- what the walk finds of a list in a production of r: a cycle; or that its rules cost less than r; or that nothing beside it costs, and
  -- it costs at most what r may
  abbrev Finds : List Sym → List ℕ → ℕ → ℕ → Type 0
  Finds a w n c = Found ⊎ ((cost_of cost w ≤ weight (most n) a) ⊎ ((c ≡ 0) × (cost_of cost w ≤ most (suc n))))

  abbrev Searched : List Sym → List ℕ → Type 0
  Searched a w = (n : ℕ) (s : AreChosen a (suc n)) (r c : ℕ) → s.marked r ≡ false → Leads (HasProduction g) cost r a c → Finds a w n c

  -- a rule is entered: it was marked, or bounds what its symbols cost
  enter : (x : ℕ) (symbols : List Sym) (u : List ℕ) → HasProduction g x symbols → Yields (HasProduction g) symbols u → Searched symbols u
      → (n : ℕ) → AreChosen (Rule x ∷ []) n → Found ⊎ (cost_of cost u ≤ most n)
  enter x symbols u has tree below zero s = let room = s.room in absurd (omega (arith, room))
  enter x symbols u has tree below (suc n) s = elim (cases_Bool (s.marked x)) [
    | inl old ↦ inl (closes (HasProduction g) cost root x u s.above (s.leads x old) (opened has tree empty (sym (append-nil u))))
    | inr new ↦ elim (below n (moved (Rule x ∷ []) symbols 0 (suc n) (into (HasProduction g) cost x symbols has) s) x 0 new (symbols, has, here (HasProduction g) cost symbols)) [
      | inl found ↦ inl found
      | inr (inl le) ↦ inr (omega (arith, le, weight_most x n symbols has))
      | inr (inr all) ↦ inr all.1
    ]
  ]

  -- skips the first symbol, which costs at most what it may
  past : (x : Sym) (a : List Sym) (u w : List ℕ) → Yields (HasProduction g) (x ∷ []) u → Searched a w → (n : ℕ) → cost_of cost u ≤ weigh cost (λ r. most n) x
      → (s : AreChosen (x ∷ a) (suc n)) (r c : ℕ) → s.marked r ≡ false → Leads (HasProduction g) cost r (x ∷ a) c → Finds (x ∷ a) (u ++ w) n c
  past x a u w tree rest n le s r c new t =
      let move : Moves (HasProduction g) cost (x ∷ a) a (cost_of cost u) = to_second (HasProduction g) cost (x ∷ []) a u tree in
      elim (rest n (moved (x ∷ a) a (cost_of cost u) (suc n) move s) r (c + cost_of cost u) new (t.0, t.1, move t.0 c (c + cost_of cost u) (omega arith) t.2)) [
        | inl found ↦ inl found
        | inr (inl k) ↦ inr (inl (omega (arith, le, k, sum_by-append cost u w, sum_by-cons (weigh cost (λ r. most n)) x a)))
        | inr (inr k) ↦ inr (inr (omega (arith, k.0), omega (arith, k.0, k.1, sum_by-append cost u w)))
      ]

  -- into the first rule: r is marked if anything beside it costs something
  through : (x : ℕ) (symbols a : List Sym) (u w : List ℕ) → HasProduction g x symbols → Yields (HasProduction g) symbols u → Searched symbols u
      → Yields (HasProduction g) a w → Searched a w → Searched (Rule x ∷ a) (u ++ w)
  through x symbols a u w has tree below later rest n s r c new t =
      let move : Moves (HasProduction g) cost (Rule x ∷ a) (Rule x ∷ []) (cost_of cost w) = to_first (HasProduction g) cost (Rule x ∷ []) a w later in
      let down : AreChosen (Rule x ∷ []) (suc n) = moved (Rule x ∷ a) (Rule x ∷ []) (cost_of cost w) (suc n) move s in
      elim (cases_eq (c + cost_of cost w) 0) [
        | inl alone ↦ elim (enter x symbols u has tree below (suc n) down) [
          | inl found ↦ inl found
          | inr le ↦ inr (inr (omega (arith, alone), omega (arith, alone, le, sum_by-append cost u w)))
        ]
        | inr more ↦ elim (enter x symbols u has tree below n (mark (Rule x ∷ []) n r down new (t.0, t.1, move t.0 c 1 (omega (arith, more)) t.2))) [
          | inl found ↦ inl found
          | inr le ↦ past (Rule x) a u w (opened has tree empty (sym (append-nil u))) rest n le s r c new t
        ]
      ]

  search_below : {a : List Sym} {w : List ℕ} → Yields (HasProduction g) a w → Searched a w
  search_below empty = λ n s r c new t. inr (inl (omega arith))
  search_below (token {t = x} {a = a} {w = w} h) = past_token x a w (search_below h)
    where
      past_token : (x : ℕ) (a : List Sym) (w : List ℕ) → Searched a w → Searched (Token x ∷ a) (x ∷ w)
      past_token x a w rest n = past (Token x) a (x ∷ []) w (token empty) rest n (omega arith)
  search_below (opened {r = x} {symbols = symbols} {a = a} {u = u} {w = w} has h k e) =
      subst (Searched (Rule x ∷ a)) (sym e) (through x symbols a u w has h (search_below h) k (search_below k))

  -- at first no rule is marked
  begin : AreChosen (Rule root ∷ []) (suc (unmarked (λ r. false)))
  begin = record { marked = λ r. false; leads = λ r h. absurd (cc); above = here (HasProduction g) cost (Rule root ∷ []); room = omega arith }

  finds_or_bounds : {w : List ℕ} → Yields (HasProduction g) (Rule root ∷ []) w → Found ⊎ (cost_of cost w ≤ most (suc (unmarked (λ r. false))))
  finds_or_bounds (opened {symbols = symbols} {u = u} has h empty e) = elim (enter root symbols u has h (search_below h) (suc (unmarked (λ r. false))) begin) [
    | inl found ↦ inl found
    | inr le ↦ inr (omega (arith, le, ap (cost_of cost) (e ∙ append-nil u)))
  ]

  unbounded_reaches : Unbounded (HasProduction g) cost root → Found
  unbounded_reaches more =
      let h = more (most (suc (unmarked (λ r. false)))) in
      elim (finds_or_bounds (trees_from_derivation (HasProduction g) (Rule root ∷ []) h.0 h.1)) [
        | inl found ↦ found
        | inr le ↦ let past = h.2 in absurd (omega (arith, le, past))
      ]

  -- so costs are unbounded exactly if the rule reaches a growing cycle
  pub unbounded_if_reaches : Unbounded (HasProduction g) cost root ↔ Found
  unbounded_if_reaches = (unbounded_reaches, λ h. cycle_unbounds (HasProduction g) cost root h.0 h.2 h.1)

-- so results that are true are `None` exactly if the rule reaches a growing cycle
pub are_settled : (g : Grammar) (cost : ℕ → ℕ) → IsGrammar g → (results : List (Result (Option ℕ) CostError)) → length results ≡ g.rules
    → ((r : ℕ) → r < g.rules → Means (HasProduction g) cost r (get_or results r (Err NoSentence))) → AreGreatestCosts g cost results
are_settled g cost is results rules means = record {
  rules = rules;
  means = means;
  cycles = λ r lt.
      let settled = exactly (HasProduction g) cost r (get_or results r (Err NoSentence)) (Ok None) (means r lt) in
      let reaches = unbounded_if_reaches g cost is r in
      (λ e. reaches.0 (settled.0 e), λ h. settled.1 (reaches.1 h));
}
