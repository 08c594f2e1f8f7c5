use Rattle.std.proofs.Common.{◌≡◌, Some, List, ℕ, map, ap, sym, ◌∙◌}
use Rattle.std.specs.Prelude.{option_map}
use Rattle.std.specs.Borrow.{Bor}
use Rattle.cfgnear.specs.Nearest.{nearest}
use Rattle.cfglint_shell.proofs.usage.push_choice.Goals as goal

pub returns-in-Some : goal.returns-in-Some
returns-in-Some c =
    let found : Some c.in-Some.near.now ≡ nearest c.args.name.now (map (λ name. name.now) c.args.names.now) =
    ap (option_map (λ (name : Bor (List ℕ)). name.now)) (sym c.in-Some.is) ∙ c.in_ok-near.ensures.nearest in
    rw (sym found) c.write.ensures.bytes
