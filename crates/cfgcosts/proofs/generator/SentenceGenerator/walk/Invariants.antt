use Rattle.std.proofs.Common.{◌≡◌, ◌+◌, map}
use Rattle.cfgtables.specs.NumberedSymbols.{sym_of}
use Rattle.cfgleast.specs.Generator.{tables_of}
use Rattle.cfgcosts.proofs.Walking.{IsOnTheWay}
use Rattle.cfgcosts.proofs.Weights.{weigh}
use Rattle.cfgcosts.proofs.generator.SentenceGenerator.walk.Given as goal

abbrev pub invariant-loop-symbol : goal.invariant-loop-symbol
invariant-loop-symbol g l =
    let number = g.S.Storage.number in
    let x = tables_of number (g.T.Tables.grammar l.self-inside.tables.now) l.self-inside.costs.items l.self-inside.settled.least.items l.self-inside.firsts.items in
    record {
      same : g.O.Opener.grammar l.source ≡ x.grammar;
      way : IsOnTheWay x (number l.fn.rule.0) (g.O.Opener.has_opened l.source) (map (sym_of number) l.pending.items) (map (λ t. number t.0) l.sentence.items);
    }

abbrev pub decreases-loop-symbol : goal.decreases-loop-symbol
decreases-loop-symbol g l =
    let number = g.S.Storage.number in
    let x = l.self-inside in
    weigh (tables_of number (g.T.Tables.grammar x.tables.now) x.costs.items x.settled.least.items x.firsts.items) (g.S.Storage.MAX + 1) (map (sym_of number) l.pending.items)
