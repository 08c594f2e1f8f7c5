-- What the cost tables say of optimal productions, which derivations define.
use Rattle.std.proofs.Common.{◌≡◌, ℕ, ◌<◌, ◌≤◌, ◌⊎◌, inl, inr, List, [], ◌∷◌, ◌++◌, length, get_or, Option, Some, None, Result, Ok, Err, All, Contains, arith, refl, sym, ap, subst, ◌∙◌}
use Rattle.std.proofs.lemmas.Option.{none-some, same_Some}
use Rattle.std.proofs.lemmas.Bool.{cases_lt}
use Rattle.std.proofs.lemmas.List.{get_or_default, get_or_past}
use Rattle.lemmas.proofs.Elements.{within_from_get_or}
use Rattle.std.proofs.lemmas.List.Elements.{All-nil, All-cons, All-contains}
use Rattle.std.proofs.lemmas.List.Sums.{sum_by-append}
use Rattle.derivation.specs.Grammar.{Sym, Rule, Token, Production, IsGrammar, HasProduction}
use Rattle.derivation.specs.Sentence.{cost_of}
use Rattle.derivation.specs.Costs.{Least, Minimal}
use Rattle.derivation.proofs.Costs.{minimal_costs_least, least_is_one}
use Rattle.cfgtables.specs.Openings.{nth_production}
use Rattle.cfgtables.proofs.Located.{at_position}
use Rattle.derivation.specs.declared.errors.CostError.{CostError}
use Rattle.derivation.specs.declared.errors.CostError.TheVariants.{NoSentence, CostTooLarge}
use Rattle.derivation.specs.Sums.{sum_of, symbol_cost}
use Rattle.derivation.specs.CostLists.{rule_cost}
use Rattle.derivation.proofs.Sums.{plus_parts, plus_both}
use Rattle.derivation.proofs.Made.{cost_of-token}
use Rattle.cfgleast.specs.Generator.{CostTables, IsGenerator, cost_answer, token_cost}
use Rattle.cfgchoices.specs.Chains.{Along, here, next}
use Rattle.cfgchoices.specs.Chains as chains
use Rattle.cfgchoices.specs.Inner.SequenceKinds.{IsSequenceKind}
use Rattle.cfgchoices.specs.Kinds.{AreKinds, LeadsTo, IsBase, HasRulesAsTargets, IsChain, IsKind, IsOptimal, IsMinimal, ReachesBase}
use Rattle.cfgleast.specs.CutSums.{StopsAt}
use Rattle.cfgchoices.specs.Splits.{Split, done, itself, part}
use Rattle.cfgchoices.specs.declared.kinds.Kind.{Kind}
use Rattle.cfgchoices.specs.declared.kinds.Kind.TheVariants as kinds
use Rattle.cfgleast.specs.declared.partial.Partial.{Partial}
use Rattle.lemmas.proofs.Contained.{contains_cases, contains_none}
use Rattle.cfgleast.proofs.Gains.{part_at}
use Rattle.cfgleast.proofs.Generated.{answered_some, some_answered, reads_cost, reads_too_large, reads_none}
use Rattle.cfgchoices.proofs.Lengths.{IsPaid, productions_paid}
use Rattle.cfgchoices.proofs.Chains.{at_least, made_by_base_minimal, minimal_made_by_base, rule_nothing}

-- if a rule has no cost, the list has none
pub stops_none : (cost : ℕ → ℕ) (settled : ℕ → Option ℕ) (symbols : List Sym) (r n : ℕ) (x : Partial) → StopsAt cost settled symbols r x → sum_of (symbol_cost cost settled) symbols ≡ Some n → ⊥
stops_none cost settled symbols r n x stop e =
    let part = part_at (symbol_cost cost settled) symbols x.taken (Rule r) n stop.taken stop.symbol e in none-some _ (sym stop.unset ∙ part.is)

-- a rule and its production have one cost, whichever table gives it
pub one_cost : (x : CostTables) (r c d : ℕ) → cost_answer x r ≡ Some c → cost_answer x r ≡ Some d → c ≡ d
one_cost x r c d e f = same_Some _ _ (sym e ∙ f)

-- If a rule in a list costs as much as the list, nothing else in it costs anything.
module _ (x : CostTables) where
  abbrev costs : Sym → Option ℕ
  costs = symbol_cost (token_cost x) (rule_cost x.least)

  abbrev pub CostsNothing : Sym → Type 0
  CostsNothing s = costs s ≡ Some 0

  pub data LinksTo (q : ℕ) : List Sym → Type 0 where
    in_prefix : {a : List Sym} → All CostsNothing a → LinksTo q (Rule q ∷ a)
    further : {s : Sym} {a : List Sym} → CostsNothing s → LinksTo q a → LinksTo q (s ∷ a)

  none_costs : (a : List Sym) (m : ℕ) → sum_of costs a ≡ Some m → m ≤ 0 → All CostsNothing a
  none_costs [] m e none = All-nil CostsNothing
  none_costs (s ∷ a) m e none =
      let p = plus_parts (costs s) (sum_of costs a) m e in
      All-cons CostsNothing s a (p.first_is ∙ ap Some (omega (arith, p.whole, none))) (none_costs a p.second p.second_is (omega (arith, p.whole, none)))

  chains_sequence : (a : List Sym) (q c m : ℕ) → sum_of costs a ≡ Some m → m ≤ c → Contains a (Rule q) → rule_cost x.least q ≡ Some c → LinksTo q a
  chains_sequence [] q c m e small h k = absurd (contains_none (Rule q) h)
  chains_sequence (s ∷ a) q c m e small h k =
      let p = plus_parts (costs s) (sum_of costs a) m e in
      elim (contains_cases s (Rule q) a h) [
        | inl same ↦
            let first : c ≡ p.first = same_Some _ _ (sym k ∙ ap costs (sym same) ∙ p.first_is) in
            subst (λ t. LinksTo q (t ∷ a)) (sym same) (in_prefix (none_costs a p.second p.second_is (omega (arith, p.whole, small, first))))
        | inr after ↦
            let part = part_at costs a after.0 (Rule q) p.second after.1 after.2 p.second_is in
            let value : c ≡ part.value = same_Some _ _ (sym k ∙ part.is) in
            further (p.first_is ∙ ap Some (omega (arith, p.whole, small, value, part.within))) (chains_sequence a q c p.second p.second_is (omega (arith, p.whole, small)) after k)
      ]

  pub others_free : {q : ℕ} {a : List Sym} → LinksTo q a → (s : ℕ) → Contains a (Rule s) → (q ≡ s) ⊎ CostsNothing (Rule s)
  others_free {q} (in_prefix {a = a} free) s h = elim (contains_cases (Rule q) (Rule s) a h) [
    | inl same ↦ inl (cc)
    | inr after ↦ inr (All-contains CostsNothing a (Rule s) free after)
  ]
  others_free (further {s = y} {a = a} free links) s h = elim (contains_cases y (Rule s) a h) [
    | inl same ↦ inr (ap costs (sym same) ∙ free)
    | inr after ↦ others_free links s after
  ]

-- a production is optimal whatever is chosen
pub optimal_whatever : (x : CostTables) (choices : List (Option (ℕ × ℕ))) (p : ℕ) → IsOptimal x p
    → IsOptimal (record { grammar = x.grammar; costs = x.costs; least = x.least; choices = choices }) p
optimal_whatever x choices p t = record { index = t.index; cost = t.cost; positive = t.positive; rule = t.rule; is = t.is }

-- the kind that is read for a production
module _ {S : Type 0} (number : S → ℕ) (x : CostTables) where
  pub kind_read : (listed : List (Kind S)) (p i : ℕ) (kind : Kind S) → AreKinds number x listed → i ≡ p → p < length x.grammar.productions → kind ≡ get_or listed i kind → IsKind number x p kind
  kind_read listed p i kind are at within is =
      let there : p < length listed = subst (λ n. p < n) (sym are.all) within in
      subst (IsKind number x p) (get_or_default listed p kinds.Suboptimal kind there ∙ sym (subst (λ n. kind ≡ get_or listed n kind) at is)) (are.each p there)

-- what has a cost is a rule of the grammar
pub answered_within : (x : CostTables) (n : ℕ) → IsGenerator x n → (q c : ℕ) → cost_answer x q ≡ Some c → q < x.grammar.rules
answered_within x n is q c e =
    let known = (answered_some (rule_cost x.least q) c e).0 in
    subst (λ m. q < m) is.settled.chosen.costs (within_from_get_or x.least q None (λ none. let never : None ≡ Some c = sym none ∙ known in cc))

module _ (x : CostTables) (n : ℕ) (is : IsGenerator x n) (grammar : IsGrammar x.grammar) where
  abbrev P : ℕ → List Sym → Type 0
  P = HasProduction x.grammar

  abbrev cost : ℕ → ℕ
  cost = token_cost x

  abbrev sums : Sym → Option ℕ
  sums = symbol_cost (token_cost x) (rule_cost x.least)

  abbrev Cut : List Sym → List ℕ → Type 0
  Cut = Split (Minimal P cost)

  pub paid : (r : ℕ) (symbols : List Sym) → P r symbols → All (IsPaid cost) symbols
  paid = productions_paid x.grammar x.costs grammar is.tokens is.positive

  pub least_of : (r c : ℕ) → cost_answer x r ≡ Some c → Least P cost r c
  least_of r c e = let k = answered_some (rule_cost x.least r) c e in (reads_cost x n is r c k.0 k.1).least

  pub answer_of : (r c : ℕ) → Least P cost r c → c ≤ 65535 → cost_answer x r ≡ Some c
  answer_of r c l small = go (rule_cost x.least r) refl
    where
      go : (o : Option ℕ) → rule_cost x.least r ≡ o → cost_answer x r ≡ Some c
      go None e = let no : ◌≡◌ {A = Result ℕ CostError} (Err NoSentence) (Ok c) = (reads_none x n is r e).found c l small in absurd (cc)
      go (Some d) e = elim (cases_lt 65535 d) [
        | inl too_large ↦ let no : ◌≡◌ {A = Result ℕ CostError} (Err CostTooLarge) (Ok c) = (reads_too_large x n is r d e too_large).found c l small in absurd (cc)
        | inr within ↦
            let same : ◌≡◌ {A = Result ℕ CostError} (Ok d) (Ok c) = (reads_cost x n is r d e within).found c l small in
            let one : d ≡ c = cc in
            some_answered (rule_cost x.least r) c (e ∙ ap Some one) small
      ]

  -- a list that has a cost has minimal sentences of that cost
  pub cut_of_sum : (a : List Sym) (m : ℕ) → sum_of sums a ≡ Some m → m ≤ 65535 → (w : List ℕ) × Cut a w × (cost_of cost w ≡ m)
  cut_of_sum [] m e small = let is : 0 ≡ m = cc in ([], done, is)
  cut_of_sum (Token t ∷ a) m e small =
      let p = plus_parts (Some (cost t)) (sum_of sums a) m e in
      let first : cost t ≡ p.first = same_Some _ _ p.first_is in
      let (w, cut, costs) = cut_of_sum a p.second p.second_is (omega (arith, p.whole, small)) in
      let both = cost_of-token cost t w in
      (t ∷ w, itself cut, omega (arith, both, costs, first, p.whole))
  cut_of_sum (Rule r ∷ a) m e small =
      let p = plus_parts (rule_cost x.least r) (sum_of sums a) m e in
      let least = (reads_cost x n is r p.first p.first_is (omega (arith, p.whole, small))).least in
      let (u, s, costs) = least.0 in
      let (w, cut, rest) = cut_of_sum a p.second p.second_is (omega (arith, p.whole, small)) in
      let both = sum_by-append cost u w in
      (u ++ w, part (s, λ v t. subst (λ k. k ≤ cost_of cost v) (sym costs) (least.1 v t)) cut refl, omega (arith, both, costs, rest, p.whole))

  pub sum_of_cut : {a : List Sym} {w : List ℕ} → Cut a w → cost_of cost w ≤ 65535 → sum_of sums a ≡ Some (cost_of cost w)
  sum_of_cut done small = refl
  sum_of_cut (itself {t = t} {a = a} {w = w} s) small =
      let both = cost_of-token cost t w in
      plus_both (Some (cost t)) (sum_of sums a) (cost t) (cost_of cost w) refl (sum_of_cut s (omega (arith, both, small))) ∙ ap Some (sym both)
  sum_of_cut (part {r = r} {a = a} {u = u} {w = w} m s e) small =
      let both = ap (cost_of cost) e ∙ sum_by-append cost u w in
      let known = answer_of r (cost_of cost u) (minimal_costs_least P cost r u m) (omega (arith, both, small)) in
      plus_both (rule_cost x.least r) (sum_of sums a) (cost_of cost u) (cost_of cost w) (answered_some (rule_cost x.least r) (cost_of cost u) known).0
      (sum_of_cut s (omega (arith, both, small))) ∙ ap Some (sym both)

  -- an optimal production costs that by the tables too
  pub optimal_sum : (p : ℕ) (optimal : IsOptimal x p) → sum_of sums (nth_production x.grammar p).symbols ≡ Some optimal.cost
  optimal_sum p optimal =
      let small = (answered_some (rule_cost x.least (nth_production x.grammar p).rule) optimal.cost optimal.rule).1 in
      let costs = optimal.is.is in
      sum_of_cut optimal.is.parts (omega (arith, costs, small)) ∙ ap Some costs

  pub chains_target : (p q : ℕ) → IsChain x p q → LinksTo x q (nth_production x.grammar p).symbols
  chains_target p q target =
      let c = target.optimal.cost in
      chains_sequence x (nth_production x.grammar p).symbols q c c (optimal_sum p target.optimal) (omega arith) target.among (answered_some (rule_cost x.least q) c target.same).0

  -- a production leads to at most one rule
  pub one_target : (p q r : ℕ) → IsChain x p q → IsChain x p r → q ≡ r
  one_target p q r h k = elim (others_free x (chains_target p q h) r k.among) [
    | inl same ↦ same
    | inr free ↦
        let none : 0 ≡ k.optimal.cost = same_Some _ _ (sym free ∙ (answered_some (rule_cost x.least r) k.optimal.cost k.same).0) in
        absurd (omega (arith, none, k.optimal.positive))
  ]

  -- an optimal production, with its number
  pub record Located (r : ℕ) (symbols : List Sym) (c : ℕ) : Type 0 where
    pub index : ℕ
    pub production : nth_production x.grammar index ≡ record { rule = r; symbols = symbols }
    pub optimal : IsOptimal x index
    pub costs : optimal.cost ≡ c

  pub optimal_located : (r : ℕ) (symbols : List Sym) (c : ℕ) → chains.IsOptimal P cost r symbols c → 0 < c → c ≤ 65535 → Located r symbols c
  optimal_located r symbols c optimal some small =
      let has = optimal.has in
      let same = get_or_default x.grammar.productions has.0 (record { rule = 0; symbols = [] }) (record { rule = r; symbols = symbols }) has.1 ∙ has.2 in
      record {
        index = has.0;
        production = same;
        optimal = record {
          index = has.1;
          cost = c;
          positive = some;
          rule = ap (λ (p : Production). cost_answer x p.rule) same ∙ answer_of r c optimal.least small;
          is = subst (λ (p : Production). chains.IsOptimal P cost p.rule p.symbols c) (sym same) optimal;
        };
        costs = refl;
      }

  target_reported : (a b : ℕ) → LeadsTo x a b → chains.LeadsTo P cost a b
  target_reported a b h =
      let p = h.index in
      let optimal = h.target.optimal in
      subst (λ r. chains.LeadsTo P cost r b) h.owner (record {
        symbols = (nth_production x.grammar p).symbols;
        least = optimal.cost;
        optimal = optimal.is;
        among = h.target.among;
        same = least_of b optimal.cost h.target.same;
      })

  -- a base production leads to no rule
  pub base_leads_nowhere : (p q : ℕ) → IsBase x p → IsChain x p q → ⊥
  base_leads_nowhere p q base chain =
      let least = base.is in
      let less = least.less q chain.optimal.cost chain.among (least_of q chain.optimal.cost chain.same) in
      let same = least_is_one P cost (nth_production x.grammar p).rule least.least chain.optimal.cost least.optimal.least chain.optimal.is.least in
      omega (arith, less, same)

  along_reported : {a b : ℕ} → Along (LeadsTo x) a b → Along (chains.LeadsTo P cost) a b
  along_reported here = here
  along_reported (next {a = a} {b = b} h k) = next (target_reported a b h) (along_reported k)

  -- what a base production that the rule reaches makes of minimal sentences is a minimal sentence of the rule
  pub base_makes : (r p : ℕ) (w : List ℕ) → ReachesBase x r p → Cut (nth_production x.grammar p).symbols w → IsMinimal x r w
  base_makes r p w reaches cut = made_by_base_minimal P cost paid r w (record {
    owner = (nth_production x.grammar p).rule;
    symbols = (nth_production x.grammar p).symbols;
    reaches = record { leads = along_reported reaches.leads; base = reaches.base.is };
    parts = cut;
  })

  -- each rule in such a production costs less
  pub base_less : (r p c s d : ℕ) → ReachesBase x r p → cost_answer x r ≡ Some c → Contains (nth_production x.grammar p).symbols (Rule s) → cost_answer x s ≡ Some d → d < c
  base_less r p c s d reaches e h k =
      let base = reaches.base.is in
      let less = base.less s d h (least_of s d k) in
      let same = least_along (along_reported reaches.leads) base.least base.optimal.least in
      let one = least_is_one P cost r c base.least (least_of r c e) same in
      omega (arith, less, one)
    where
      least_along : {a b : ℕ} → Along (chains.LeadsTo P cost) a b → (c : ℕ) → Least P cost b c → Least P cost a c
      least_along here c l = l
      least_along (next {a = a} {b = b} h k) c l =
          let same = least_is_one P cost b c h.least (least_along k c l) h.same in
          subst (Least P cost a) (sym same) h.optimal.least

  -- a rule in such a production has a cost
  pub base_costs : (p s : ℕ) → IsBase x p → Contains (nth_production x.grammar p).symbols (Rule s) → (d : ℕ) × (cost_answer x s ≡ Some d)
  base_costs p s base h =
      let optimal = base.optimal in
      let known = answered_some (rule_cost x.least (nth_production x.grammar p).rule) optimal.cost optimal.rule in
      let part = part_at sums (nth_production x.grammar p).symbols h.0 (Rule s) optimal.cost h.1 h.2 (optimal_sum p base.optimal) in
      (part.value, some_answered (rule_cost x.least s) part.value part.is (omega (arith, part.within, known.1)))

  -- a minimal sentence of a rule that costs something is made by a base production that the rule reaches
  pub record IsMade (r : ℕ) (w : List ℕ) : Type 0 where
    pub index : ℕ
    pub reaches : ReachesBase x r index
    pub parts : Cut (nth_production x.grammar index).symbols w

  target_located : (a b c : ℕ) → chains.LeadsTo P cost a b → Least P cost a c → 0 < c → c ≤ 65535 → LeadsTo x a b
  target_located a b c h l some small =
      let one = least_is_one P cost a h.least c h.optimal.least l in
      let t = optimal_located a h.symbols h.least h.optimal (omega (arith, one, some)) (omega (arith, one, small)) in
      record {
        index = t.index;
        owner = ap (λ (p : Production). p.rule) t.production;
        target = record {
          optimal = t.optimal;
          among = subst (λ (p : Production). Contains p.symbols (Rule b)) (sym t.production) h.among;
          same = answer_of b t.optimal.cost (subst (Least P cost b) (sym t.costs) h.same) (omega (arith, t.costs, one, small));
        };
      }

  along_located : {a b : ℕ} (c : ℕ) → Along (chains.LeadsTo P cost) a b → Least P cost a c → 0 < c → c ≤ 65535 → Along (LeadsTo x) a b × Least P cost b c
  along_located c here l some small = (here, l)
  along_located c (next {a = a} {b = b} h k) l some small =
      let one = least_is_one P cost a h.least c h.optimal.least l in
      let rest = along_located c k (subst (Least P cost b) one h.same) some small in
      (next (target_located a b c h l some small) rest.0, rest.1)

  base_located : (r : ℕ) (symbols : List Sym) (c : ℕ) (base : chains.IsBase P cost r symbols) → Least P cost r c → 0 < c → c ≤ 65535
      → (p : ℕ) × (nth_production x.grammar p ≡ record { rule = r; symbols = symbols }) × IsBase x p
  base_located r symbols c base l some small =
      let one = least_is_one P cost r base.least c base.optimal.least l in
      let t = optimal_located r symbols base.least base.optimal (omega (arith, one, some)) (omega (arith, one, small)) in
      (t.index, t.production, record { optimal = t.optimal; is = subst (λ (p : Production). chains.IsBase P cost p.rule p.symbols) (sym t.production) base })

  pub minimal_made : (r c : ℕ) (w : List ℕ) → cost_answer x r ≡ Some c → 0 < c → IsMinimal x r w → IsMade r w
  minimal_made r c w e some m =
      let small = (answered_some (rule_cost x.least r) c e).1 in
      let down = minimal_made_by_base P cost paid r w m in
      let (along, least) = along_located c down.reaches.leads (least_of r c e) some small in
      let (p, same, base) = base_located down.owner down.symbols c down.reaches.base least some small in
      record {
        index = p;
        reaches = record { leads = subst (λ (q : Production). Along (LeadsTo x) r q.rule) (sym same) along; base = base };
        parts = subst (λ (q : Production). Cut q.symbols w) (sym same) down.parts;
      }

  -- the only minimal sentence of a rule that costs nothing is the empty one
  pub minimal_free : (r : ℕ) (w : List ℕ) → cost_answer x r ≡ Some 0 → IsMinimal x r w → w ≡ []
  minimal_free r w e m =
      let least = least_is_one P cost r 0 (cost_of cost w) (least_of r 0 e) (minimal_costs_least P cost r w m) in
      rule_nothing P cost paid r w m.0 (omega (arith, least))

  pub free_minimal : (r : ℕ) → cost_answer x r ≡ Some 0 → IsMinimal x r []
  free_minimal r e =
      let least = least_of r 0 e in
      let (w, s, costs) = least.0 in
      let none = rule_nothing P cost paid r w s (omega (arith, costs)) in
      subst (IsMinimal x r) none (s, λ v t. subst (λ k. k ≤ cost_of cost v) (sym costs) (least.1 v t))

  -- the symbols of a production determine its kind, if its rule has a cost to return that isn't 0
  module _ (p c : ℕ) (index : p < length x.grammar.productions) (rule : rule_cost x.least (nth_production x.grammar p).rule ≡ Some c)
      (some : 0 < c) (small : c ≤ 65535) where
    cost_is : (optimal : IsOptimal x p) → optimal.cost ≡ c
    cost_is optimal = same_Some _ _ (sym (answered_some (rule_cost x.least (nth_production x.grammar p).rule) optimal.cost optimal.rule).0 ∙ rule)

    optimal_now : sum_of sums (nth_production x.grammar p).symbols ≡ Some c → IsOptimal x p
    optimal_now e =
        let answer = some_answered (rule_cost x.least (nth_production x.grammar p).rule) c rule small in
        let (w, cut, costs) = cut_of_sum (nth_production x.grammar p).symbols c e small in record {
          index = index;
          cost = c;
          positive = some;
          rule = answer;
          is = record {
            has = at_position x.grammar p _ index refl refl;
            least = least_of (nth_production x.grammar p).rule c answer;
            word = w;
            parts = cut;
            is = costs;
          };
        }

    pub kind_reported : {S : Type 0} (number : S → ℕ) (kind : Kind S)
        → IsSequenceKind number (token_cost x) (rule_cost x.least) c (nth_production x.grammar p).symbols kind → IsKind number x p kind
    kind_reported number kinds.Suboptimal h = λ optimal. h (optimal_sum p optimal ∙ ap Some (cost_is optimal))
    kind_reported number kinds.Base h =
        let optimal = optimal_now h.0 in
        let costs = cost_is optimal in record {
          optimal = optimal;
          is = record {
            least = optimal.cost;
            optimal = optimal.is;
            less = λ q d among l.
                let low = at_least P cost q d optimal.is.parts among l in
                elim (cases_lt d optimal.cost) [
                  | inl lt ↦ lt
                  | inr ge ↦
                      let same : d ≡ c = omega (arith, ge, low, costs, optimal.is.is) in
                      absurd (h.1 q among (answered_some (rule_cost x.least q) c (answer_of q c (subst (Least P cost q) same l) small)).0)
                ];
          };
        }
    kind_reported number (kinds.Chain r) h = record {
      optimal = optimal_now h.0;
      among = h.1;
      same = some_answered (rule_cost x.least (number r.0)) c h.2 small ∙ ap Some (sym (cost_is (optimal_now h.0)));
    }

-- the rule that a chain production leads to is a rule of the grammar
pub targets_are_rules : {S : Type 0} (number : S → ℕ) (x : CostTables) (list : List (Kind S)) (n : ℕ) → IsGenerator x n
    → ((p : ℕ) → p < length list → IsKind number x p (get_or list p kinds.Suboptimal)) → HasRulesAsTargets number x.grammar list
targets_are_rules number x list n is each p target e = elim (cases_lt p (length list)) [
  | inl lt ↦ let h = subst (IsKind number x p) e (each p lt) in answered_within x n is (number target.0) h.optimal.cost h.same
  | inr past ↦ let no : kinds.Suboptimal ≡ kinds.Chain target = sym (get_or_past list p kinds.Suboptimal past) ∙ e in absurd (cc)
]
