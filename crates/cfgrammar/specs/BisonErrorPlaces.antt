-- Where errors are: an error's span is a piece of the text, and so is the other place if there is one.
use Rattle.std.specs.Prelude.{ℕ, List, IfSome}
use Rattle.cfgwords.specs.TextSpans.{IsPiece}
use Rattle.bison_errors.specs.declared.error.Error.{Error}

pub record IsErrorAt (text : List ℕ) (error : Error) : Type 0 where
  pub piece : IsPiece text error.span
  pub beside : IfSome error.other (IsPiece text)
