-- The word of each kind of error, which names it in reports. A word is never used again for another kind, since people search for it,
-- and scripts depend on it.
use Rattle.std.specs.Prelude.{ℕ, List, codes}
use Rattle.bison_words.specs.declared.words.WordFaultKind.{WordFaultKind}
use Rattle.bison_words.specs.declared.words.WordFaultKind.TheVariants as faults
use Rattle.bison_errors.specs.declared.error.ErrorKind.{ErrorKind}
use Rattle.bison_errors.specs.declared.error.ErrorKind.TheVariants as kinds

-- of a fault in a word
abbrev pub fault_word : WordFaultKind → List ℕ
fault_word faults.IllegalCharacters = codes "illegal-characters"
fault_word faults.IllegalIdentifier = codes "illegal-identifier"
fault_word faults.IllegalInteger = codes "illegal-integer"
fault_word faults.IllegalEscape = codes "illegal-escape"
fault_word faults.IllegalName = codes "illegal-bracketed-name"
fault_word faults.EmptyLiteral = codes "empty-literal"
fault_word faults.LongLiteral = codes "long-literal"
fault_word faults.UnknownDirective = codes "unknown-directive"
fault_word faults.IncompleteComment = codes "incomplete-comment"
fault_word faults.IncompleteLiteral = codes "incomplete-literal"
fault_word faults.IncompleteString = codes "incomplete-string"
fault_word faults.IncompleteTag = codes "incomplete-tag"
fault_word faults.IncompleteName = codes "incomplete-bracketed-name"
fault_word faults.IncompleteCode = codes "incomplete-code"
fault_word faults.IncompletePrologue = codes "incomplete-prologue"

abbrev pub error_word : ErrorKind → List ℕ
error_word (kinds.Word fault) = fault_word fault
error_word (kinds.Unexpected expected) = codes "unexpected-word"
error_word kinds.RepeatedInProduction = codes "repeated-in-production"
error_word kinds.IllegalPriority = codes "illegal-priority"
error_word kinds.NonEmptyProduction = codes "non-empty-production"
error_word kinds.NotForRules = codes "not-for-rules"
error_word kinds.SeveralStarts = codes "several-starts"
error_word kinds.RuleIsToken = codes "rule-is-token"
error_word kinds.DuplicatePrecedence = codes "duplicate-precedence"
error_word kinds.UnknownSymbol = codes "undeclared-symbol"
error_word kinds.InvalidStart = codes "invalid-start-rule"
error_word kinds.NoRule = codes "no-rules"
