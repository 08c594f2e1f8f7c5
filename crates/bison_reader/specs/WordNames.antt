-- What the names of identifiers begin with.
use Rattle.std.specs.Prelude.{◌≡◌, ⊤, true}
use Rattle.constructs.specs.Pieces.{starts}
use Rattle.bison_words.specs.declared.class.Class.TheVariants.{NameByte}
use Rattle.bison_words.specs.Bytes.{holds}
use Rattle.bison_words.specs.Words.{Lexeme, Identifier}

-- a letter, a digit, `_`, `.` or `-`
abbrev pub BeginsAsName : Lexeme → Type 0
BeginsAsName (Identifier name) = starts (holds NameByte) name ≡ true
BeginsAsName _ = ⊤
