use Rattle.std.proofs.Common.{[], ◌∷◌, ◌++◌, map, refl, ap, ◌∙◌}
use Rattle.bison_tree.proofs.Steps.{stepped}
use Rattle.bison_errors.specs.Errors.{fault_error}
use Rattle.bison_errors.proofs.text_errors.push_faults.Goals as goal

pub loop-fault-preserved : goal.loop-fault-preserved
loop-fault-preserved c =
    stepped (map fault_error) (λ fault. fault_error fault ∷ []) (λ x xs. refl)
    c.args.faults.now c.loop-fault.fault-index _ c.loop-fault-test.true
    c.loop-fault.errors.items c.push.new.errors.items _
    (c.in_ok-push.ensures ∙ ap (λ error. c.loop-fault.errors.items ++ error ∷ []) c.at.ensures)
    c.loop-fault.invariant
