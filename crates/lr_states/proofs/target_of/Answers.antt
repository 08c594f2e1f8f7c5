use Rattle.std.proofs.Common.{Some, None, refl}
use Rattle.std.proofs.lemmas.Option.{slice_get_within}
use Rattle.lr_states.proofs.Places.{place_cases, state_placed}
use Rattle.lr_states.proofs.target_of.Goals as goal

pub bounds-targets-place : goal.bounds-targets-place
bounds-targets-place c =
    let (target, at, same) = place_cases c.args.targets.now c.args.node (Some c.in-Some.place) c.in-Some.ensures c.in-Some.place refl in
    slice_get_within c.args.targets.now c.in-Some.place target at

pub returns-in-Some : goal.returns-in-Some
returns-in-Some c = state_placed c.args.targets.now c.requires c.args.node (Some c.in-Some.place) _ c.in-Some.ensures

pub returns-in-None : goal.returns-in-None
returns-in-None c = state_placed c.args.targets.now c.requires c.args.node None (record { symbol = 0; state = 0 }) c.in-None.ensures
