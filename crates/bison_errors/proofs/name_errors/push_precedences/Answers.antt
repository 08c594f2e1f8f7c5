use Rattle.std.proofs.Common.{rules}
use Rattle.cfgitems.specs.SyntaxView.{occurrence_view}
use Rattle.cfgast.specs.TreeView.{syntax}
use Rattle.bison_errors.specs.Errors.{precedence_error}
use Rattle.bison_errors.proofs.Steps.{kept_more}
use Rattle.bison_errors.proofs.name_errors.push_precedences.Goals.{in-Some+in_ok-push, in_default}
use Rattle.bison_errors.proofs.name_errors.push_precedences.Goals as goal

pub loop-occurrence-preserved : goal.loop-occurrence-preserved
loop-occurrence-preserved c =
    kept_more occurrence_view (precedence_error (syntax c.args.ast.now)) c.occurrences-occurrence-items.result.now
    c.loop-occurrence.occurrence-index c.occurrence-item.result c.loop-occurrence-test.true c.occurrence-item.is
    c.loop-occurrence.errors.items c.match-precedence_error.errors.items _
    (elim c.match-precedence_error.branch [ in-Some+in_ok-push w ↦ search rules | in_default w ↦ search rules ])
    c.loop-occurrence.invariant
