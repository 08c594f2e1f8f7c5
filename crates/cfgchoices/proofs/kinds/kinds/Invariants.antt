use Rattle.std.proofs.Common.{◌≡◌, ℕ, ◌<◌, length, get_or}
use Rattle.cfgleast.specs.Generator.{tables_of}
use Rattle.cfgchoices.specs.Kinds.{IsKind}
use Rattle.cfgchoices.specs.declared.kinds.Kind.TheVariants.{Suboptimal}
use Rattle.cfgchoices.proofs.kinds.kinds.Given as goal

abbrev pub invariant-loop-number : goal.invariant-loop-number
invariant-loop-number g l = record {
  len : length l.kinds.items ≡ l.number;
  each : (p : ℕ) → p < length l.kinds.items → IsKind g.S.Storage.number (tables_of g.S.Storage.number (g.T.Tables.grammar l.tables) l.costs l.settled.least.items l.settled.choices.items)
      p (get_or l.kinds.items p Suboptimal);
}
