-- What `{}` prints of an error, in bytes.
use Rattle.std.specs.Prelude.{ℕ, List, codes}
use Rattle.bison_words.specs.declared.words.WordFaultKind.{WordFaultKind}
use Rattle.bison_words.specs.declared.words.WordFaultKind.TheVariants as faults
use Rattle.bison_reader.specs.declared.item.Expected.{Expected}
use Rattle.bison_reader.specs.declared.item.Expected.TheVariants as expected
use Rattle.bison_errors.specs.declared.error.ErrorKind.{ErrorKind}
use Rattle.bison_errors.specs.declared.error.ErrorKind.TheVariants as kinds

-- of a fault in a word
abbrev pub fault_text : WordFaultKind → List ℕ
fault_text faults.IllegalCharacters = codes "Illegal characters"
fault_text faults.IllegalIdentifier = codes "Illegal identifier"
fault_text faults.IllegalInteger = codes "Illegal integer"
fault_text faults.IllegalEscape = codes "Illegal escape"
fault_text faults.IllegalName = codes "Illegal name in brackets"
fault_text faults.EmptyLiteral = codes "Empty character literal"
fault_text faults.LongLiteral = codes "Character literal of more than one character"
fault_text faults.UnknownDirective = codes "Unknown directive"
fault_text faults.IncompleteComment = codes "Incomplete comment"
fault_text faults.IncompleteLiteral = codes "Incomplete character literal"
fault_text faults.IncompleteString = codes "Incomplete string"
fault_text faults.IncompleteTag = codes "Incomplete tag"
fault_text faults.IncompleteName = codes "Incomplete name in brackets"
fault_text faults.IncompleteCode = codes "Incomplete code"
fault_text faults.IncompletePrologue = codes "Incomplete prologue"

-- of a word that can't be here: what may be
abbrev pub expected_text : Expected → List ℕ
expected_text expected.Declaration = codes "Expected a declaration or '%%'"
expected_text expected.Rule = codes "Expected a rule or a declaration"
expected_text expected.Part = codes "Expected a part of a production or its end"
expected_text expected.TokenName = codes "Expected the name of a token"
expected_text expected.Symbol = codes "Expected a symbol"
expected_text expected.SymbolOrTag = codes "Expected a symbol or a tag"
expected_text expected.Identifier = codes "Expected an identifier"
expected_text expected.Number = codes "Expected a number"
expected_text expected.String = codes "Expected a string"
expected_text expected.Code = codes "Expected code in braces"
expected_text expected.Tag = codes "Expected a tag"
expected_text expected.Colon = codes "Expected ':'"
expected_text expected.Semicolon = codes "Expected ';'"

abbrev pub error_text : ErrorKind → List ℕ
error_text (kinds.Word fault) = fault_text fault
error_text (kinds.Unexpected expected) = expected_text expected
error_text kinds.RepeatedInProduction = codes "A production has one %prec, one %empty and one %dprec at most"
error_text kinds.IllegalPriority = codes "%dprec has to be at least 1"
error_text kinds.NonEmptyProduction = codes "%empty used in non-empty production"
error_text kinds.NotForRules = codes "%nterm has names of rules only"
error_text kinds.SeveralStarts = codes "More than one start rule"
error_text kinds.RuleIsToken = codes "The rule's name is that of a token"
error_text kinds.DuplicatePrecedence = codes "Token has multiple precedences specified"
error_text kinds.UnknownSymbol = codes "Unknown symbol: neither a token nor a rule"
error_text kinds.InvalidStart = codes "The start isn't a rule"
error_text kinds.NoRule = codes "There is no rule"
