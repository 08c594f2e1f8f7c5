-- Which of two words a string is.
use Rattle.std.specs.Prelude.{ℕ, Bool, true, false, List}
use Rattle.bison_words.specs.Words.{Lexeme, String, Translatable}

abbrev pub string_lexeme : Bool → List ℕ → Lexeme
string_lexeme true = Translatable
string_lexeme false = String
