use Rattle.std.proofs.Common.{map}
use Rattle.cfgrammar.specs.Numbered.{core}
use Rattle.generator_tools.proofs.Entries.{IsFound}
use Rattle.generator_tools.proofs.ll1.decide.Given as goal

-- of the productions before the next one, only this is an entry
abbrev pub invariant-loop-pidx : goal.invariant-loop-pidx
invariant-loop-pidx g l =
    IsFound (core l.grammar) (g.S.Storage.number l.fn.rule.0) (g.S.Storage.number l.token.0)
    (map (λ p. g.S.Storage.number p.0) l.pidx-items) g.S.Storage.number l.pidx-index l.used
