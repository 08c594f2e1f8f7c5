use Rattle.std.proofs.Common.{inr, ◌≡◌, ◌++◌, ◌∙◌, subst}
use Rattle.cfgsink.specs.Sinks.{AppendsOrFaults}
use Rattle.cfgtool.specs.Endings.{line_of, ending_with}
use Rattle.cfgsink.proofs.Prefixes.{prefix_of_first, whole_or_faults, then_or_faults}
use Rattle.cfgtool.proofs.faults.print.Goals as goal

pub returns-in_err-write_whole-2 : goal.returns-in_err-write_whole-2
returns-in_err-write_whole-2 g c =
    let first = c.in_ok-write_whole.ensures in
    let second = c.in_err-write_whole-2.ensures in
    let back = c.line.result.2.now in
    let line : c.as_bytes.result.now ++ (c.as_bytes-2.result.now ++ back) ≡ line_of (ending_with c.args.fault.now) =
    (λ i. c.as_bytes.ensures.value i ++ (c.as_bytes-2.ensures.value i ++ back)) ∙ c.line.ensures in
    subst (AppendsOrFaults _ _ _ _) line
    (then_or_faults _ _ _ _ _ _ _ (c.as_bytes-2.result.now ++ back) first.ok first.ok_faults (inr (second.err_faults, prefix_of_first _ _ _ back second.err)))

pub returns : goal.returns
returns g c =
    let first = c.in_ok-write_whole.ensures in
    let second = c.in_ok-write_whole-2.ensures in
    let third = c.write_whole-3.ensures in
    let line : c.as_bytes.result.now ++ (c.as_bytes-2.result.now ++ c.as_bytes-3.result.now) ≡ line_of (ending_with c.args.fault.now) =
    (λ i. c.as_bytes.ensures.value i ++ (c.as_bytes-2.ensures.value i ++ c.as_bytes-3.ensures.value i)) ∙ c.line.ensures in
    subst (AppendsOrFaults _ _ _ _) line
    (then_or_faults _ _ _ _ _ _ _ _ first.ok first.ok_faults
    (then_or_faults _ _ _ _ _ _ _ _ second.ok second.ok_faults
    (whole_or_faults c.write_whole-3.result _ _ _ _ _ third.ok third.ok_faults third.err third.err_faults)))
