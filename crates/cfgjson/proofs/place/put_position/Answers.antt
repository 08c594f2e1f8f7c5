use Rattle.std.proofs.Common.{rules}
use Rattle.serde_json.specs.declared.value.Value.{the_lemmas}
use Rattle.cfgjson.proofs.Places.{position-boundary, position-none}
use Rattle.cfgjson.proofs.place.put_position.Goals as goal

pub returns-in_ok-put_count-in-Some : goal.returns-in_ok-put_count-in-Some
returns-in_ok-put_count-in-Some c = rw (position-boundary c.args.positions.now c.args.byte c.in-Some.ensures.0) (search rules)

pub returns-in_ok-put-in-None : goal.returns-in_ok-put-in-None
returns-in_ok-put-in-None c = rw (position-none c.args.positions.now c.args.byte c.in-None.ensures) (search (rules, the_lemmas))
