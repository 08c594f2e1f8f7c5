-- What callers see of an `ASTWithValidityInfo`.
use Rattle.std.specs.Prelude.{List}
use Rattle.cfgitems.specs.Syntax.{Syntax}
use Rattle.cfgerrors.specs.Errors.{GrammarError}
use Rattle.cfgkinds.specs.declared.kind.YaccKind.{YaccKind}

pub record Parsed : Type 0 where
  pub kind : YaccKind
  pub syntax : Syntax
  pub errors : List GrammarError
