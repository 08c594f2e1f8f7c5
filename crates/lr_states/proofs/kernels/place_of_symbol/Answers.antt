use Rattle.std.proofs.Common.{◌≡◌, ◌<◌, arith, get_or, length, ltb, rules}
use Rattle.std.proofs.lemmas.List.Sorted.{IsPartitionPoint-from_clause}
use Rattle.lr_states.specs.declared.kernels.Target.{Target}
use Rattle.lr_states.proofs.Targets.{targets_parted}
use Rattle.lr_states.proofs.Places.{rule_found, rule_missing}
use Rattle.lr_states.proofs.kernels.place_of_symbol.Goals as goal
use Rattle.lr_states.proofs.kernels.place_of_symbol.Goals.{else-place-targets-via-then-place-targets+else-targets-place, else-place-targets-via-else-place-targets}

abbrev nothing : Target
nothing = record { symbol = 0; state = 0 }

pub returns-then-targets-place : goal.returns-then-targets-place
returns-then-targets-place c = rule_found c.args.targets.now c.requires c.args.symbol c.partition_point-place.result nothing c.if-place-targets.true c.if-targets-place.true

pub returns-else-place-targets : goal.returns-else-place-targets
returns-else-place-targets c =
    let all = c.args.targets.now in
    let place = c.partition_point-place.result in
    let point = IsPartitionPoint-from_clause (λ (target : Target). ltb target.symbol c.args.symbol) _ _ c.partition_point-place.ensures.partitioned (targets_parted all c.requires c.args.symbol)
    (λ a r q k. search rules) in
    let none : place < length all → (get_or all place nothing).symbol ≡ c.args.symbol → ⊥ = elim c.else-place-targets.branch [
      | else-place-targets-via-then-place-targets+else-targets-place w ↦ λ within. w.if-targets-place.false
      | else-place-targets-via-else-place-targets w ↦ λ within same. let past = w.if-place-targets.false in omega (arith, within, past)
    ] in
    rule_missing all c.requires c.args.symbol place point nothing none
