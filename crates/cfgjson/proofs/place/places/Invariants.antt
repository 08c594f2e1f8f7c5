use Rattle.std.proofs.Common.{◌≡◌, map, take}
use Rattle.serde_json.specs.View.{view}
use Rattle.cfgjson.specs.Objects.{place_of}
use Rattle.cfgjson.proofs.place.places.Given as goal

abbrev pub invariant-loop-span : goal.invariant-loop-span
invariant-loop-span l = map view l.places.items ≡ map (place_of l.positions) (take l.span-index l.spans)
