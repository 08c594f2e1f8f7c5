-- An error as plain data: what callers see of a `YaccGrammarError`.
use Rattle.std.specs.Prelude.{◌≡◌, ◌↔◌, ℕ, Bool, true, false, ◌&&◌, List, [], ◌∷◌, string_bytes}
use Rattle.std.specs.Cmp.{IsEquivalence, both_ways}
use Rattle.std.proofs.Common.{refl, sym, ap}
use Rattle.std.proofs.lemmas.Bool.{true≢false}
use Rattle.std.proofs.lemmas.Cmp.{and_equiv, on_equiv}
use mathlib.Core.Bool.{decide, decide_iff}
use mathlib.Core.List.{List-discrete}
use native.Mathlib.Decide.{ℕ_discrete}
use Rattle.cfgbase.specs.declared.span.Span.{Span}
use Rattle.cfgbase.specs.declared.span.SpansKind.{SpansKind}
use Rattle.cfgbase.specs.declared.span.SpansKind.TheVariants.{DuplicationError, Error}
use Rattle.cfgbase.specs.Spans.{same_spans, same_spans-equivalence}
use Rattle.cfgerrors.specs.HeaderErrors.{ShownErrorKind, ShownError, error_kind_view, kinds_decided as section_kinds_decided, spanskind_of as header_spanskind}
use Rattle.cfgerrors.specs.declared.error.YaccGrammarErrorKind.{YaccGrammarErrorKind}
use Rattle.cfgerrors.specs.declared.error.YaccGrammarErrorKind.TheVariants as rust

-- what is wrong: the kinds of the code, with names as their bytes, and with what a kind for a section shows
pub data ErrorKind : Type 0 where
  IllegalInteger IllegalName IllegalString IncompleteRule IncompleteComment IncompleteAction : ErrorKind
  MissingColon MissingRightArrow MismatchedBrace NonEmptyProduction PrematureEnd ProductionNotTerminated : ErrorKind
  ProgramsNotSupported UnknownDeclaration PrecNotFollowedByToken DuplicatePrecedence : ErrorKind
  DuplicateAvoidInsertDeclaration DuplicateImplicitTokensDeclaration DuplicateExpectDeclaration : ErrorKind
  DuplicateExpectRRDeclaration DuplicateStartDeclaration DuplicateActiontypeDeclaration DuplicateEPP : ErrorKind
  ReachedEOL InvalidString NoStartRule UnknownSymbol InvalidYaccKind StorageTooSmall : ErrorKind
  InvalidStartRule UnknownRuleRef UnknownToken NoPrecForToken UnknownEPP : List ℕ → ErrorKind
  ExpectedInput : ℕ → ErrorKind
  Header : ShownErrorKind → SpansKind → ErrorKind
  deriving Discrete as ErrorKind-discrete

-- what is wrong, and where
pub record GrammarError : Type 0 where
  pub kind : ErrorKind
  pub spans : List Span

-- an error at one span
abbrev pub error_at : ErrorKind → Span → GrammarError
error_at kind span = record { kind = kind; spans = span ∷ [] }

-- a kind of the code, without the memory that holds its name
abbrev pub kind_view : YaccGrammarErrorKind → ErrorKind
kind_view rust.IllegalInteger = IllegalInteger
kind_view rust.IllegalName = IllegalName
kind_view rust.IllegalString = IllegalString
kind_view rust.IncompleteRule = IncompleteRule
kind_view rust.IncompleteComment = IncompleteComment
kind_view rust.IncompleteAction = IncompleteAction
kind_view rust.MissingColon = MissingColon
kind_view rust.MissingRightArrow = MissingRightArrow
kind_view rust.MismatchedBrace = MismatchedBrace
kind_view rust.NonEmptyProduction = NonEmptyProduction
kind_view rust.PrematureEnd = PrematureEnd
kind_view rust.ProductionNotTerminated = ProductionNotTerminated
kind_view rust.ProgramsNotSupported = ProgramsNotSupported
kind_view rust.UnknownDeclaration = UnknownDeclaration
kind_view rust.PrecNotFollowedByToken = PrecNotFollowedByToken
kind_view rust.DuplicatePrecedence = DuplicatePrecedence
kind_view rust.DuplicateAvoidInsertDeclaration = DuplicateAvoidInsertDeclaration
kind_view rust.DuplicateImplicitTokensDeclaration = DuplicateImplicitTokensDeclaration
kind_view rust.DuplicateExpectDeclaration = DuplicateExpectDeclaration
kind_view rust.DuplicateExpectRRDeclaration = DuplicateExpectRRDeclaration
kind_view rust.DuplicateStartDeclaration = DuplicateStartDeclaration
kind_view rust.DuplicateActiontypeDeclaration = DuplicateActiontypeDeclaration
kind_view rust.DuplicateEPP = DuplicateEPP
kind_view rust.ReachedEOL = ReachedEOL
kind_view rust.InvalidString = InvalidString
kind_view rust.NoStartRule = NoStartRule
kind_view rust.UnknownSymbol = UnknownSymbol
kind_view (rust.InvalidStartRule name) = InvalidStartRule (string_bytes name)
kind_view (rust.UnknownRuleRef name) = UnknownRuleRef (string_bytes name)
kind_view (rust.UnknownToken name) = UnknownToken (string_bytes name)
kind_view (rust.NoPrecForToken name) = NoPrecForToken (string_bytes name)
kind_view (rust.UnknownEPP name) = UnknownEPP (string_bytes name)
kind_view (rust.ExpectedInput character) = ExpectedInput character
kind_view rust.InvalidYaccKind = InvalidYaccKind
kind_view (rust.Header kind spanskind) = Header (error_kind_view kind) spanskind
kind_view rust.StorageTooSmall = StorageTooSmall

-- an error in a section, as an error of the whole file
abbrev pub header_error : ShownError Span → GrammarError
header_error error = record { kind = Header error.kind (header_spanskind error.kind); spans = error.locations }

-- what the spans of an error mean
abbrev pub spanskind_of : ErrorKind → SpansKind
spanskind_of DuplicatePrecedence = DuplicationError
spanskind_of DuplicateAvoidInsertDeclaration = DuplicationError
spanskind_of DuplicateImplicitTokensDeclaration = DuplicationError
spanskind_of DuplicateExpectDeclaration = DuplicationError
spanskind_of DuplicateExpectRRDeclaration = DuplicationError
spanskind_of DuplicateStartDeclaration = DuplicationError
spanskind_of DuplicateActiontypeDeclaration = DuplicationError
spanskind_of DuplicateEPP = DuplicationError
spanskind_of (Header kind spanskind) = spanskind
spanskind_of _ = Error

is_error : SpansKind → Bool
is_error DuplicationError = false
is_error Error = true

spanskinds_decided : Discrete SpansKind
unfolding is_error
spanskinds_decided DuplicationError DuplicationError = yes refl
spanskinds_decided Error Error = yes refl
spanskinds_decided DuplicationError Error = no (λ e. true≢false (ap is_error (sym e)))
spanskinds_decided Error DuplicationError = no (λ e. true≢false (ap is_error e))

-- whether two kinds are the same
pub kinds_decided : Discrete ErrorKind
kinds_decided = ErrorKind-discrete (List-discrete ℕ_discrete) ℕ_discrete section_kinds_decided spanskinds_decided

-- `==` of two kinds
abbrev pub same_kind : ErrorKind → ErrorKind → Bool
same_kind a b = decide (kinds_decided a b)

-- it holds exactly for kinds that are the same
pub same_kind_iff : (a b : ErrorKind) → (same_kind a b ≡ true) ↔ (a ≡ b)
same_kind_iff a b = decide_iff (kinds_decided a b)

pub same_kind-equivalence : IsEquivalence same_kind
same_kind-equivalence = record {
  refl = λ a. (same_kind_iff a a).1 refl;
  symm = λ a b. both_ways (same_kind a b) (same_kind b a) (λ h. (same_kind_iff b a).1 (sym ((same_kind_iff a b).0 h))) (λ h. (same_kind_iff a b).1 (sym ((same_kind_iff b a).0 h)));
  congr = λ a b c h. ap (λ kind. same_kind kind c) ((same_kind_iff a b).0 h);
}

-- `==` of two errors
abbrev pub same_error : GrammarError → GrammarError → Bool
same_error a b = same_kind a.kind b.kind && same_spans a.spans b.spans

pub same_error-equivalence : IsEquivalence same_error
same_error-equivalence =
    and_equiv (on_equiv (λ e. e.kind) same_kind-equivalence) (on_equiv (λ e. e.spans) same_spans-equivalence)
