use Rattle.std.proofs.Common.{subst, sym}
use Rattle.cfgitems.specs.Syntax.{EachSpan}
use Rattle.cfgnumbers.specs.Numberable.{IsNumberable}
use Rattle.cfgwords.specs.TextSpans.{IsPiece, IsWithin}
use Rattle.cfgrammar.proofs.BisonFiles.{errors_at, numberable}
use Rattle.cfgrammar.proofs.BisonSpans.{tree_at}
use Rattle.cfgrammar.proofs.bison.file.read.Goals as goal

pub invariant_of-result : goal.invariant_of-result
invariant_of-result c = λ none.
    let says = c.in_ok-read.ensures in
    subst IsNumberable (sym says.ast) (numberable c.args.text.now c.in_ok-read.field-0.errors.items says.errors none)

pub returns-clause-offsets : goal.returns-clause-offsets
returns-clause-offsets c =
    let text = c.args.text.now in
    subst (EachSpan (IsPiece text) (IsWithin text)) (sym c.in_ok-read.ensures.ast) (tree_at text c.utf8.text)

pub returns-clause-error_offsets : goal.returns-clause-error_offsets
returns-clause-error_offsets c =
    errors_at c.args.text.now c.in_ok-read.field-0.errors.items c.in_ok-read.ensures.errors c.utf8.text
