use Rattle.std.proofs.Common.{◌≡◌, ℕ, List, option_map, position, take}
use Rattle.std.specs.HashMap.{get_by}
use Rattle.std.specs.Str.{bytes_eq}
use Rattle.cfgnumbers.specs.TablesView.{names}
use Rattle.cfgnumbers.proofs.names.put_names.Given as goal

abbrev pub invariant-loop-index : goal.invariant-loop-index
invariant-loop-index g l = (name : List ℕ)
    → option_map (λ x. g.S.Storage.number x.0) (get_by (λ key. bytes_eq name key.now) l.map) ≡ position (bytes_eq name) (take l.index (names l.rows.entries))
