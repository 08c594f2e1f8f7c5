-- Which of two words braces are.
use Rattle.std.specs.Prelude.{ℕ, Bool, true, false, List}
use Rattle.bison_words.specs.Words.{Lexeme, Predicate}
use Rattle.bison_words.specs.Code.{code_lexeme}

abbrev pub braces_lexeme : ℕ → Bool → List ℕ → List ℕ → Lexeme
braces_lexeme len true = λ opened rest. Predicate
braces_lexeme len false = code_lexeme len
