use Rattle.std.proofs.Common.{◌≡◌, ◌-◌, ◌+◌, ◌<◌, ◌≤◌, ◌++◌, [], ◌∷◌, None, Some, length, map, take, refl, sym, ap, subst, arith, ◌∙◌}
use Rattle.std.proofs.lemmas.List.{length-map, map-append}
use Rattle.std.proofs.lemmas.List.Elements.{All-get_or}
use Rattle.cfgindex.specs.declared.idxnewtype.Symbol.TheVariants as symbols
use Rattle.cfgtables.specs.Openings.{nth_production}
use Rattle.cfgtables.specs.NumberedSymbols.{sym_of}
use Rattle.derivation.specs.Grammar.{Grammar, Rule}
use Rattle.cfgleast.specs.Certificate.{choice_of, rule_choice}
use Rattle.cfgleast.specs.Generator.{CostTables, cost_answer, tables_of, token_cost}
use Rattle.cfgcosts.specs.Inner.Walk.{HasStopped, HasWalked}
use Rattle.cfgchoices.proofs.Pending.{last_shown}
use Rattle.cfgcosts.proofs.Walking.{IsOnTheWay, choice_at, after_free, after_opened, after_token, begins, chosen_next, countable, finished, on_err, popped, rule_within, stopped}
use Rattle.cfgcosts.proofs.Weights.{lighter_opened, popped_lighter, weigh}
use Rattle.cfgcosts.proofs.generator.SentenceGenerator.walk.Given.{Over}
use Rattle.cfgcosts.proofs.generator.SentenceGenerator.walk.Goals.{In-Rule, In-Some-index}
use Rattle.cfgcosts.proofs.generator.SentenceGenerator.walk.Goals as goal

abbrev tables : (g : Over) (c : In-Rule g) → CostTables
tables g c = tables_of g.S.Storage.number (g.T.Tables.grammar c.self.inside.tables.now) c.self.inside.costs.items c.self.inside.settled.least.items c.self.inside.firsts.items

way : (g : Over) (c : In-Rule g) → IsOnTheWay (tables g c) (g.S.Storage.number c.args.rule.0) (g.O.Opener.has_opened c.loop-symbol.source)
    (map (sym_of g.S.Storage.number) c.pop.new.self.items ++ Rule (g.S.Storage.number c.in-Rule.rule.0) ∷ []) (map (λ t. g.S.Storage.number t.0) c.loop-symbol.sentence.items)
way g c = popped g.S.Storage.number _ _ _ _ _ c.in-Some.ensures.items c.in-Rule.is c.loop-symbol.invariant.way

choice : (g : Over) (c : In-Some-index g) → rule_choice (map (choice_of g.S.Storage.number) c.self.inside.firsts.items) (g.S.Storage.number c.in-Rule.rule.0) ≡ Some (g.S.Storage.number c.in-Some-index.p.0, c.in-Some-index.field-0-1)
choice g c =
    let x = tables_of g.S.Storage.number (g.T.Tables.grammar c.self.inside.tables.now) c.self.inside.costs.items c.self.inside.settled.least.items c.self.inside.firsts.items in
    choice_at x _ _ _ _ g.S.Storage.number c.self.inside.firsts.items _ c.from.result c.index.result.now _ refl c.from.ensures c.index.ensures c.in-Some-index.is
    (popped g.S.Storage.number x _ _ _ _ c.in-Some.ensures.items c.in-Rule.is c.loop-symbol.invariant.way)

pub loop-symbol-init : goal.loop-symbol-init
loop-symbol-init g c =
    let number = g.S.Storage.number in
    let r = number c.args.rule.0 in
    let x = tables_of number (g.T.Tables.grammar c.self.inside.tables.now) c.self.inside.costs.items c.self.inside.settled.least.items c.self.inside.firsts.items in
    record {
      same = c.requires.same ∙ sym (ap (λ (y : CostTables). y.grammar) c.self.view_is);
      way = begins x r _ c.requires.cost.0 c.self.invariant.3 c.invariant_holds.ensures.content c.self.invariant.4 (subst (λ (y : CostTables). r < y.grammar.rules) (sym c.self.view_is) c.requires.rule)
          (subst (λ (y : CostTables). cost_answer y r ≡ Some c.requires.cost.0) (sym c.self.view_is) c.requires.cost.1) c.requires.fresh _ _
          (ap (map (sym_of number)) (c.in_ok-push.ensures.items ∙ ap (λ l. l ++ symbols.Rule c.args.rule ∷ []) c.new-pending.ensures.items))
          (ap (map (λ t. number t.0)) c.new-sentence.ensures.items);
    }

pub loop-symbol-preserved-in-Continue-branch-2 : goal.loop-symbol-preserved-in-Continue-branch-2
loop-symbol-preserved-in-Continue-branch-2 g c =
    let number = g.S.Storage.number in
    let way = popped number _ _ _ _ _ c.in-Some.ensures.items c.in-Token.is c.loop-symbol.invariant.way in
    record {
      same = c.loop-symbol.invariant.same;
      way = subst (IsOnTheWay _ _ _ _) (sym (ap (map (λ t. number t.0)) c.in_ok-push-in-Token.ensures.items ∙ map-append (λ t. number t.0) c.loop-symbol.sentence.items (c.in-Token.token ∷ [])))
          (after_token _ _ _ _ _ (number c.in-Token.token.0) way);
    }

pub loop-symbol-smaller-in-Continue-branch-2 : goal.loop-symbol-smaller-in-Continue-branch-2
loop-symbol-smaller-in-Continue-branch-2 g c =
    let number = g.S.Storage.number in
    let x = tables_of number (g.T.Tables.grammar c.self.inside.tables.now) c.self.inside.costs.items c.self.inside.settled.least.items c.self.inside.firsts.items in
    popped_lighter x (g.S.Storage.MAX + 1) (omega arith) number c.loop-symbol.pending.items c.pop.new.self.items c.in-Some.symbol c.in-Some.ensures.items

pub loop-symbol-smaller : goal.loop-symbol-smaller
loop-symbol-smaller g c =
    let number = g.S.Storage.number in
    let x = tables_of number (g.T.Tables.grammar c.self.inside.tables.now) c.self.inside.costs.items c.self.inside.settled.least.items c.self.inside.firsts.items in
    popped_lighter x (g.S.Storage.MAX + 1) (omega arith) number c.loop-symbol.pending.items c.pop.new.self.items c.in-Some.symbol c.in-Some.ensures.items

pub index-requires : goal.index-requires
index-requires g c =
    let now = (goal.at.index-requires g c).In-Rule in
    let len = length-map c.self.inside.firsts.items (choice_of g.S.Storage.number) in
    omega (arith, rule_within _ _ _ _ _ _ (way g now), c.loop-symbol.invariant.way.goal.walks.listed, len, c.from.ensures, c.self.inside.firsts.ok.0)

pub loop-symbol-preserved : goal.loop-symbol-preserved
loop-symbol-preserved g c =
    let at = (goal.at.loop-symbol-preserved g c).In-Rule in
    let now = way g at in
    let choice = choice_at (tables g at) _ _ _ _ g.S.Storage.number c.self.inside.firsts.items _ c.from.result c.index.result.now None refl c.from.ensures c.index.ensures c.in_default-index.is now in
    record { same = c.loop-symbol.invariant.same; way = after_free (tables g at) _ _ _ _ _ choice now }

pub open_onto-requires-clause-index : goal.open_onto-requires-clause-index
open_onto-requires-clause-index g c =
    let at = goal.at.open_onto-requires-clause-index g c in
    subst (λ (h : Grammar). g.S.Storage.number c.in-Some-index.p.0 < length h.productions) (sym c.loop-symbol.invariant.same)
    (chosen_next (tables g at.In-Rule) _ _ _ _ _ _ _ (choice g at.In-Some-index) (way g at.In-Rule)).opens.index

pub open_onto-requires-clause-countable : goal.open_onto-requires-clause-countable
open_onto-requires-clause-countable g c =
    let cost = c.requires.cost.0 in
    let answer = subst (λ (y : CostTables). cost_answer y (g.S.Storage.number c.args.rule.0) ≡ Some cost) (sym c.self.view_is) c.requires.cost.1 in
    countable _ _ _ _ _ c.loop-symbol.invariant.way cost answer (omega (arith, c.invariant_holds.ensures.rules, c.invariant_holds.ensures.limit))

pub loop-symbol-preserved-in-Continue-branch-3 : goal.loop-symbol-preserved-in-Continue-branch-3
loop-symbol-preserved-in-Continue-branch-3 g c =
    let at = goal.at.loop-symbol-preserved-in-Continue-branch-3 g c in
    let rest = map (sym_of g.S.Storage.number) c.pop.new.self.items in
    let pending = c.in_ok-open_onto-in-Rule.ensures.symbols ∙ ap (λ (h : Grammar). rest ++ (nth_production h (g.S.Storage.number c.in-Some-index.p.0)).symbols) c.loop-symbol.invariant.same in
    record {
      same = c.open_onto.ensures.grammar ∙ c.loop-symbol.invariant.same;
      way = after_opened (tables g at.In-Rule) _ _ _ _ _ _ _ (choice g at.In-Some-index) (way g at.In-Rule) _ c.open_onto.ensures.opened _ pending;
    }

pub loop-symbol-smaller-in-Continue-branch-3 : goal.loop-symbol-smaller-in-Continue-branch-3
loop-symbol-smaller-in-Continue-branch-3 g c =
    let at = goal.at.loop-symbol-smaller-in-Continue-branch-3 g c in
    let number = g.S.Storage.number in
    let x = tables g at.In-Rule in
    let p = number c.in-Some-index.p.0 in
    let rest = map (sym_of number) c.pop.new.self.items in
    let many = g.S.Storage.MAX + 1 in
    let o = (chosen_next (tables g at.In-Rule) _ _ _ _ _ _ _ (choice g at.In-Some-index) (way g at.In-Rule)).opens in
    let fits = All-get_or (λ p. length p.symbols ≤ g.S.Storage.MAX) x.grammar.productions p (record { rule = 0; symbols = [] }) o.index c.invariant_holds.ensures.fits in
    let now = ap (weigh x many) (c.in_ok-open_onto-in-Rule.ensures.symbols ∙ ap (λ (h : Grammar). rest ++ (nth_production h p).symbols) c.loop-symbol.invariant.same) in
    let before = ap (weigh x many) (last_shown number c.loop-symbol.pending.items c.pop.new.self.items _ _ c.in-Some.ensures.items c.in-Rule.is) in
    let less = lighter_opened x many (omega arith) c.self.invariant.3 rest _ p c.in-Some-index.field-0-1 (choice g at.In-Some-index) (omega (arith, fits)) in
    omega (arith, now, before, less)

pub returns-in_err-push-in-Token-clause-stopped : goal.returns-in_err-push-in-Token-clause-stopped
returns-in_err-push-in-Token-clause-stopped g c =
    on_err _ (subst (λ (y : CostTables). HasStopped y.grammar (token_cost y) (g.S.Storage.number c.args.rule.0) (g.O.Opener.has_opened c.loop-symbol.source)) c.self.view_is
    (stopped _ _ _ _ _ c.loop-symbol.invariant.way))

pub returns-in_err-open_onto-in-Rule-clause-stopped : goal.returns-in_err-open_onto-in-Rule-clause-stopped
returns-in_err-open_onto-in-Rule-clause-stopped g c =
    let at = goal.at.returns-in_err-open_onto-in-Rule-clause-stopped g c in
    on_err _ (subst (λ (y : CostTables). HasStopped y.grammar (token_cost y) (g.S.Storage.number c.args.rule.0) (g.O.Opener.has_opened c.open_onto.new.source)) c.self.view_is
    (stopped _ _ _ _ _ (after_opened (tables g at.In-Rule) _ _ _ _ _ _ _ (choice g at.In-Some-index) (way g at.In-Rule) _ c.open_onto.ensures.opened _ refl)))

pub returns-clause-walked : goal.returns-clause-walked
returns-clause-walked g c =
    let number = g.S.Storage.number in
    let rest : c.pop.new.self.items ≡ [] = c.in_default.ensures.rest ∙ ap (λ n. take (n - 1) c.loop-symbol.pending.items) c.in_default.ensures.cases.0 in
    let none = ap (map (sym_of number)) (c.in_default.ensures.items ∙ ap (λ l. l ++ []) rest) in
    subst (λ (y : CostTables). HasWalked y.grammar (token_cost y) (number c.args.rule.0) (g.O.Opener.has_opened c.loop-symbol.source) (map (λ t. number t.0) c.reverse.new.self.items)) c.self.view_is
    (finished _ _ _ (λ t. number t.0) c.loop-symbol.sentence.items c.reverse.new.self.items _ c.reverse.ensures.items none c.loop-symbol.invariant.way)
