-- What `{}` prints of an error and of a fault, in bytes.
use Rattle.std.specs.Prelude.{ℕ, List, ◌++◌, codes, encode_utf8}
use Rattle.std.specs.List.{join_by}
use Rattle.cfgerrors.specs.HeaderTexts.{kind_text}
use Rattle.cfgerrors.specs.Errors as kinds
use Rattle.cfgerrors.specs.Errors.{ErrorKind}
use Rattle.cfgerrors.specs.declared.error.YaccFault.{YaccFault}
use Rattle.cfgerrors.specs.declared.error.YaccFault.TheVariants.{Errors, OutOfMemory}

unfoldable pub error_text : ErrorKind → List ℕ
error_text kinds.IllegalInteger = codes "Illegal integer"
error_text kinds.IllegalName = codes "Illegal name"
error_text kinds.IllegalString = codes "Illegal string"
error_text kinds.IncompleteRule = codes "Incomplete rule"
error_text kinds.IncompleteComment = codes "Incomplete comment"
error_text kinds.IncompleteAction = codes "Incomplete action"
error_text kinds.MissingColon = codes "Missing ':'"
error_text kinds.MissingRightArrow = codes "Missing '->'"
error_text kinds.MismatchedBrace = codes "Mismatched brace"
error_text kinds.NonEmptyProduction = codes "%empty used in non-empty production"
error_text kinds.PrematureEnd = codes "File ends prematurely"
error_text kinds.ProductionNotTerminated = codes "Production not terminated correctly"
error_text kinds.ProgramsNotSupported = codes "Programs not currently supported"
error_text kinds.UnknownDeclaration = codes "Unknown declaration"
error_text kinds.PrecNotFollowedByToken = codes "%prec not followed by token name"
error_text kinds.DuplicatePrecedence = codes "Token has multiple precedences specified"
error_text kinds.DuplicateAvoidInsertDeclaration = codes "Duplicated %avoid_insert declaration"
error_text kinds.DuplicateImplicitTokensDeclaration = codes "Duplicated %implicit_tokens declaration"
error_text kinds.DuplicateExpectDeclaration = codes "Duplicated %expect declaration"
error_text kinds.DuplicateExpectRRDeclaration = codes "Duplicate %expect-rr declaration"
error_text kinds.DuplicateStartDeclaration = codes "Duplicated %start declaration"
error_text kinds.DuplicateActiontypeDeclaration = codes "Duplicate %actiontype declaration"
error_text kinds.DuplicateEPP = codes "Duplicate %epp declaration for this token"
error_text kinds.ReachedEOL = codes "Reached end of line without finding expected content"
error_text kinds.InvalidString = codes "Invalid string"
error_text kinds.NoStartRule = codes "No start rule specified"
error_text kinds.UnknownSymbol = codes "Unknown symbol, expected a rule or token"
error_text (kinds.InvalidStartRule name) = codes "Start rule '" ++ (name ++ codes "' does not appear in grammar")
error_text (kinds.UnknownRuleRef name) = codes "Unknown reference to rule '" ++ (name ++ codes "'")
error_text (kinds.UnknownToken name) = codes "Unknown token '" ++ (name ++ codes "'")
error_text (kinds.NoPrecForToken name) = codes "Token '" ++ (name ++ codes "' used in %prec has no precedence attached")
error_text (kinds.UnknownEPP name) = codes "Token '" ++ (name ++ codes "' in %epp declaration is not referenced in the grammar")
error_text (kinds.ExpectedInput character) = codes "Expected input '" ++ (encode_utf8 character ++ codes "'")
error_text kinds.InvalidYaccKind = codes "Invalid yacc kind"
error_text (kinds.Header kind spanskind) = codes "Error in '%grmtools' " ++ kind_text kind
error_text kinds.StorageTooSmall = codes "Index type too small for this grammar"

-- the text of each error, in order, with a line end between two of them
abbrev pub fault_text : YaccFault → List ℕ
fault_text (Errors errors) = join_by (λ error. error_text error.kind) (codes "\n") errors.items
fault_text OutOfMemory = codes "out of memory"
