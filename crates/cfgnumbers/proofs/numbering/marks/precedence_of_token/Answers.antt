use Rattle.std.proofs.Common.{Some, None}
use Rattle.cfgast.specs.TreeView.{syntax}
use Rattle.cfgnumbers.proofs.Marks.{precedence_found}
use Rattle.cfgnumbers.proofs.numbering.marks.precedence_of_token.Goals as goal

pub returns-in-Some : goal.returns-in-Some
returns-in-Some c = precedence_found (syntax c.args.ast.now) c.args.name.now c.precs.result.now.entries c.precs.ensures (Some c.in-Some.field-0.now) c.in-Some.ensures.value

pub returns-in-None : goal.returns-in-None
returns-in-None c = precedence_found (syntax c.args.ast.now) c.args.name.now c.precs.result.now.entries c.precs.ensures None c.in-None.ensures.value
