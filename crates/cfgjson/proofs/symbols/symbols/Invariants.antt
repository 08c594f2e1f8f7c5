use Rattle.std.proofs.Common.{◌≡◌, map, take}
use Rattle.serde_json.specs.Data.{string}
use Rattle.serde_json.specs.View.{view}
use Rattle.cfgjson.specs.Objects.{text_at}
use Rattle.cfgjson.proofs.symbols.symbols.Given as goal

abbrev pub invariant-loop-span : goal.invariant-loop-span
invariant-loop-span l = map view l.symbols.items ≡ map string (map (text_at l.text) (take l.span-index l.spans))
