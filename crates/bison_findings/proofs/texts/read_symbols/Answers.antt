use Rattle.std.proofs.Common.{◌≡◌, ◌<◌, ◌≤◌, List, cond, length, map, nat_lt, ◌∙◌, sym, ap, subst, take}
use Rattle.std.proofs.lemmas.Bool.{lt-ltb}
use Rattle.std.proofs.lemmas.List.{length-map, take-map}
use Rattle.bison_findings.proofs.texts.read_symbols.Goals as goal

module _ {X Y : Type 0} (shown : X → Y) (own other : List X) where
  other_longer : length own < length other → (symbols others : List Y) → map shown own ≡ symbols → map shown other ≡ others
      → map shown other ≡ cond (nat_lt (length symbols) (length others)) others symbols
  other_longer less symbols others is other_is = other_is ∙ ap (λ b. cond b others symbols) (sym (lt-ltb (length symbols) (length others)
      (subst (λ n. length symbols < n) (sym (length-map other shown) ∙ ap length other_is) (subst (λ n. n < length other) (sym (length-map own shown) ∙ ap length is) less))))

pub returns-then-own-other-clause-symbols : goal.returns-then-own-other-clause-symbols
returns-then-own-other-clause-symbols c = other_longer _ c.symbols_of-own.result.now (take c.args.clash.other.read c.symbols_of.result.now) c.if-own-other.true _ _ c.symbols_of-own.ensures.symbols
    (sym (take-map _ c.args.clash.other.read c.symbols_of.result.now) ∙ ap (take c.args.clash.other.read) c.symbols_of.ensures.symbols)
