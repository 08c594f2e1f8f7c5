-- The word of each kind of error: it is in the error's line, and JSON's `kind`. A word is never used again for another kind, since
-- people search for it, and scripts depend on it.
use Rattle.std.specs.Prelude.{ℕ, Bool, true, false, List, codes}
use Rattle.cfgrammar.specs.Errors.{ErrorKind, IllegalInteger, IllegalName, IllegalString, IncompleteRule, IncompleteComment, IncompleteAction, MissingColon, MissingRightArrow, MismatchedBrace, NonEmptyProduction, PrematureEnd, ProductionNotTerminated, ProgramsNotSupported, UnknownDeclaration, PrecNotFollowedByToken, DuplicatePrecedence, DuplicateAvoidInsertDeclaration, DuplicateImplicitTokensDeclaration, DuplicateExpectDeclaration, DuplicateExpectRRDeclaration, DuplicateStartDeclaration, DuplicateActiontypeDeclaration, DuplicateEPP, ReachedEOL, InvalidString, NoStartRule, UnknownSymbol, InvalidStartRule, UnknownRuleRef, UnknownToken, NoPrecForToken, UnknownEPP, ExpectedInput, InvalidYaccKind, Header, StorageTooSmall}
use Rattle.cfgrammar.specs.HeaderErrors.{ShownErrorKind}
use Rattle.cfgrammar.specs.HeaderErrors as section

-- of an error in a section
abbrev pub section_word : ShownErrorKind → List ℕ
section_word section.MissingGrmtoolsSection = codes "missing-section"
section_word section.IllegalName = codes "section-illegal-name"
section_word (section.ExpectedToken character) = codes "section-expected-token"
section_word (section.UnexpectedToken character hint) = codes "section-unexpected-token"
section_word section.DuplicateEntry = codes "section-duplicate-entry"
section_word (section.InvalidEntry what) = codes "section-invalid-entry"
section_word (section.ConversionError expected cause) = codes "section-conversion"

abbrev pub error_word : ErrorKind → List ℕ
error_word IllegalInteger = codes "illegal-integer"
error_word IllegalName = codes "illegal-name"
error_word IllegalString = codes "illegal-string"
error_word IncompleteRule = codes "incomplete-rule"
error_word IncompleteComment = codes "incomplete-comment"
error_word IncompleteAction = codes "incomplete-action"
error_word MissingColon = codes "missing-colon"
error_word MissingRightArrow = codes "missing-right-arrow"
error_word MismatchedBrace = codes "mismatched-brace"
error_word NonEmptyProduction = codes "non-empty-production"
error_word PrematureEnd = codes "premature-end"
error_word ProductionNotTerminated = codes "production-not-terminated"
error_word ProgramsNotSupported = codes "programs-not-supported"
error_word UnknownDeclaration = codes "unknown-declaration"
error_word PrecNotFollowedByToken = codes "prec-without-token"
error_word DuplicatePrecedence = codes "duplicate-precedence"
error_word DuplicateAvoidInsertDeclaration = codes "duplicate-avoid-insert"
error_word DuplicateImplicitTokensDeclaration = codes "duplicate-implicit-tokens"
error_word DuplicateExpectDeclaration = codes "duplicate-expect"
error_word DuplicateExpectRRDeclaration = codes "duplicate-expect-rr"
error_word DuplicateStartDeclaration = codes "duplicate-start"
error_word DuplicateActiontypeDeclaration = codes "duplicate-actiontype"
error_word DuplicateEPP = codes "duplicate-epp"
error_word ReachedEOL = codes "reached-eol"
error_word InvalidString = codes "invalid-string"
error_word NoStartRule = codes "no-start-rule"
error_word UnknownSymbol = codes "unknown-symbol"
error_word (InvalidStartRule name) = codes "invalid-start-rule"
error_word (UnknownRuleRef name) = codes "unknown-rule"
error_word (UnknownToken name) = codes "unknown-token"
error_word (NoPrecForToken name) = codes "no-precedence"
error_word (UnknownEPP name) = codes "unknown-epp"
error_word (ExpectedInput character) = codes "expected-input"
error_word InvalidYaccKind = codes "invalid-yacc-kind"
error_word (Header kind spanskind) = section_word kind
error_word StorageTooSmall = codes "storage-too-small"

-- whether the spans of an error of this kind are names of symbols: those that the file doesn't have
abbrev pub has_symbols_of : ErrorKind → Bool
has_symbols_of (InvalidStartRule name) = true
has_symbols_of (UnknownRuleRef name) = true
has_symbols_of (UnknownToken name) = true
has_symbols_of (UnknownEPP name) = true
has_symbols_of _ = false
