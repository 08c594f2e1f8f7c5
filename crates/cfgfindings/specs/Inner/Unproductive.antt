-- Whether a rule is unproductive, as the code knows it.
use Rattle.std.specs.Prelude.{ℕ, Bool, MatchBool}
use Rattle.cfgrammar.specs.Grammar.{HasProduction}
use Rattle.cfgrammar.specs.Productive.{Productive, Unproductive}
use Rattle.cfgrammar.specs.Numbered.{Numbered, core}

-- what is known of a rule: `true` says that it is unproductive, and `false` that it is productive
abbrev pub UnproductiveOrNot : Numbered → ℕ → Bool → Type 0
UnproductiveOrNot g r unproductive = MatchBool unproductive (Unproductive (HasProduction (core g)) r) (Productive (HasProduction (core g)) r)
