use Rattle.std.proofs.Common.{sym, subst}
use Rattle.cfgrammar.specs.TextSpans.{IsPiece, IsWithin}
use Rattle.cfgrammar.specs.Syntax.{EachSpan}
use Rattle.cfgprogram.proofs.driver.finish_valid.Goals as goal

pub tree-requires : goal.tree-requires
tree-requires g c = subst (EachSpan (IsPiece c.args.text.now) (IsWithin c.args.text.now)) (sym c.ast.ensures.value) c.requires.spans.syntax
