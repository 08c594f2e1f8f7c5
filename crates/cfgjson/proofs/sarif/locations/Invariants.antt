use Rattle.std.proofs.Common.{◌≡◌, map, take}
use Rattle.serde_json.specs.View.{view}
use Rattle.cfgjson.specs.Sarif.{location_of}
use Rattle.cfgjson.proofs.sarif.locations.Given as goal

abbrev pub invariant-loop-span : goal.invariant-loop-span
invariant-loop-span l = map view l.places.items ≡ map (location_of l.uri l.positions) (take l.span-index l.spans)
