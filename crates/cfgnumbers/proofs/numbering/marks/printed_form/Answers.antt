use Rattle.std.proofs.Common.{Some, None, ◌∙◌}
use Rattle.cfgast.specs.TreeView.{syntax}
use Rattle.cfgnumbers.proofs.Marks.{printed_found}
use Rattle.cfgnumbers.proofs.numbering.marks.printed_form.Goals as goal

pub returns-in_ok-clone-in-Some : goal.returns-in_ok-clone-in-Some
returns-in_ok-clone-in-Some c =
    c.in_ok-clone-in-Some.ensures.cases
    ∙ printed_found (syntax c.args.ast.now) c.args.name.now c.epp.result.now.entries c.epp.ensures (Some c.in-Some.field-0.now) c.in-Some.ensures.value

pub returns-in-None : goal.returns-in-None
returns-in-None c = printed_found (syntax c.args.ast.now) c.args.name.now c.epp.result.now.entries c.epp.ensures None c.in-None.ensures.value
