-- `==` distinguishes two errors exactly if callers see them differ.
use Rattle.std.proofs.Common.{◌≡◌, ◌↔◌, ◌∙◌, refl, ap, sym, IsTrue, true, ℕ, List, String, Global, string_bytes, string_eq, ◌==◌, ◌&&◌, rules, eqb-true, eq-eqb}
use Rattle.std.specs.Bool.{one_answer}
use Rattle.std.proofs.lemmas.Bool.{and_from, and_parts, false≢true}
use lib.Pointwise.{bytes_decides}
use Rattle.lemmas.proofs.Variants.{shows_same}
use Rattle.cfgbase.specs.declared.span.Span.{Span}
use Rattle.cfgbase.specs.declared.span.SpansKind.{SpansKind}
use Rattle.cfgbase.specs.declared.span.SpansKind.TheVariants.{DuplicationError, Error}
use Rattle.cfgbase.specs.contracts.span.SpansKindPartialEq.TheImpl.{ghosts as spanskinds}
use Rattle.cfgbase.specs.Spans.{same_spans}
use Rattle.cfgbase.proofs.SpanLemmas.{same_spans_iff}
use Rattle.cfgerrors.specs.declared.header.HeaderErrorKind.{HeaderErrorKind}
use Rattle.cfgerrors.specs.contracts.header.HeaderErrorKindPartialEq.TheImpl.{ghosts as header_kinds}
use Rattle.cfgerrors.specs.HeaderErrors.{error_kind_view}
use Rattle.cfgerrors.proofs.HeaderErrorLemmas.{error_kind_view-eq, eq-error_kind_view}
use Rattle.cfgerrors.specs.declared.error.YaccGrammarErrorKind.{YaccGrammarErrorKind}
use Rattle.cfgerrors.specs.declared.error.YaccGrammarErrorKind.TheVariants as rust
use Rattle.cfgerrors.specs.contracts.error.YaccGrammarErrorKindPartialEq.TheImpl.{ghosts as kinds}
use Rattle.cfgerrors.specs.contracts.error.YaccGrammarErrorKindClone.TheImpl.{ghosts as clones}
use Rattle.cfgerrors.specs.contracts.error.YaccGrammarErrorKind.{enum}
use Rattle.cfgerrors.specs.Errors.{ErrorKind, InvalidStartRule, UnknownRuleRef, UnknownToken, NoPrecForToken, UnknownEPP, ExpectedInput, Header, GrammarError, kind_view, same_error, same_kind, same_kind_iff}

same_spanskind : (a b : SpansKind) → spanskinds.eq a b ≡ true → a ≡ b
same_spanskind DuplicationError DuplicationError h = refl
same_spanskind Error Error h = refl
same_spanskind a b h = absurd (false≢true h)

spanskind_itself : (a : SpansKind) → spanskinds.eq a a ≡ true
spanskind_itself DuplicationError = refl
spanskind_itself Error = refl

-- if the derived `==` finds two kinds the same, so do callers
kind_view-eq : (x y : YaccGrammarErrorKind) → kinds.eq x y ≡ true → kind_view x ≡ kind_view y
kind_view-eq x y h =
    sym (ap kind_view (enum.eta x))
    ∙ shows_same enum.parts _ (λ c. kind_view (enum.make c))
    (same InvalidStartRule, (same UnknownRuleRef, (same UnknownToken, (same NoPrecForToken, (same UnknownEPP, (expected, (in_section, tt)))))))
    (enum.as_values x) (enum.as_values y) h
    ∙ ap kind_view (enum.eta y)
  where
    same : (kind : List ℕ → ErrorKind) (a b : String Global × Unit {0}) → string_eq a.0 b.0 ≡ true → kind (string_bytes a.0) ≡ kind (string_bytes b.0)
    same kind a b h = ap kind ((bytes_decides (string_bytes a.0) (string_bytes b.0)).0 h)

    expected : (a b : ℕ × Unit {0}) → (a.0 == b.0) ≡ true → ExpectedInput a.0 ≡ ExpectedInput b.0
    expected a b h = ap ExpectedInput (eqb-true a.0 b.0 h)

    in_section : (a b : HeaderErrorKind × (SpansKind × Unit {0})) → (header_kinds.eq a.0 b.0 && spanskinds.eq a.1.0 b.1.0) ≡ true
        → Header (error_kind_view a.0) a.1.0 ≡ Header (error_kind_view b.0) b.1.0
    in_section a b h =
        let both = and_parts (header_kinds.eq a.0 b.0) (spanskinds.eq a.1.0 b.1.0) h in
        λ i. Header (error_kind_view-eq a.0 b.0 both.0 i) (same_spanskind a.1.0 b.1.0 both.1 i)

-- names with the same bytes
same_name : (x y : String Global) → string_bytes x ≡ string_bytes y → string_eq x y ≡ true
same_name x y e = (bytes_decides (string_bytes x) (string_bytes y)).1 e

-- and if callers see the same, so does it
eq-kind_view : (x y : YaccGrammarErrorKind) → kind_view x ≡ kind_view y → kinds.eq x y ≡ true
eq-kind_view rust.IllegalInteger rust.IllegalInteger e = refl
eq-kind_view rust.IllegalName rust.IllegalName e = refl
eq-kind_view rust.IllegalString rust.IllegalString e = refl
eq-kind_view rust.IncompleteRule rust.IncompleteRule e = refl
eq-kind_view rust.IncompleteComment rust.IncompleteComment e = refl
eq-kind_view rust.IncompleteAction rust.IncompleteAction e = refl
eq-kind_view rust.MissingColon rust.MissingColon e = refl
eq-kind_view rust.MissingRightArrow rust.MissingRightArrow e = refl
eq-kind_view rust.MismatchedBrace rust.MismatchedBrace e = refl
eq-kind_view rust.NonEmptyProduction rust.NonEmptyProduction e = refl
eq-kind_view rust.PrematureEnd rust.PrematureEnd e = refl
eq-kind_view rust.ProductionNotTerminated rust.ProductionNotTerminated e = refl
eq-kind_view rust.ProgramsNotSupported rust.ProgramsNotSupported e = refl
eq-kind_view rust.UnknownDeclaration rust.UnknownDeclaration e = refl
eq-kind_view rust.PrecNotFollowedByToken rust.PrecNotFollowedByToken e = refl
eq-kind_view rust.DuplicatePrecedence rust.DuplicatePrecedence e = refl
eq-kind_view rust.DuplicateAvoidInsertDeclaration rust.DuplicateAvoidInsertDeclaration e = refl
eq-kind_view rust.DuplicateImplicitTokensDeclaration rust.DuplicateImplicitTokensDeclaration e = refl
eq-kind_view rust.DuplicateExpectDeclaration rust.DuplicateExpectDeclaration e = refl
eq-kind_view rust.DuplicateExpectRRDeclaration rust.DuplicateExpectRRDeclaration e = refl
eq-kind_view rust.DuplicateStartDeclaration rust.DuplicateStartDeclaration e = refl
eq-kind_view rust.DuplicateActiontypeDeclaration rust.DuplicateActiontypeDeclaration e = refl
eq-kind_view rust.DuplicateEPP rust.DuplicateEPP e = refl
eq-kind_view rust.ReachedEOL rust.ReachedEOL e = refl
eq-kind_view rust.InvalidString rust.InvalidString e = refl
eq-kind_view rust.NoStartRule rust.NoStartRule e = refl
eq-kind_view rust.UnknownSymbol rust.UnknownSymbol e = refl
eq-kind_view rust.InvalidYaccKind rust.InvalidYaccKind e = refl
eq-kind_view rust.StorageTooSmall rust.StorageTooSmall e = refl
eq-kind_view (rust.InvalidStartRule x) (rust.InvalidStartRule y) e = same_name x y cc
eq-kind_view (rust.UnknownRuleRef x) (rust.UnknownRuleRef y) e = same_name x y cc
eq-kind_view (rust.UnknownToken x) (rust.UnknownToken y) e = same_name x y cc
eq-kind_view (rust.NoPrecForToken x) (rust.NoPrecForToken y) e = same_name x y cc
eq-kind_view (rust.UnknownEPP x) (rust.UnknownEPP y) e = same_name x y cc
eq-kind_view (rust.ExpectedInput x) (rust.ExpectedInput y) e = eq-eqb x y cc
eq-kind_view (rust.Header kind spanskind) (rust.Header other holds) e =
    let same : spanskind ≡ holds = cc in
    and_from _ _ (eq-error_kind_view kind other cc) (rw (← same) (spanskind_itself spanskind))
eq-kind_view x y e = let no : ⊥ = cc in absurd no

-- the derived `==` of kinds compares what callers see of them
pub eq_kind_view : (x y : YaccGrammarErrorKind) → kinds.eq x y ≡ same_kind (kind_view x) (kind_view y)
eq_kind_view x y = one_answer (kinds.eq x y) (same_kind (kind_view x) (kind_view y)) (kind_view-eq x y, eq-kind_view x y) (same_kind_iff (kind_view x) (kind_view y))

pub kind_view_iff : (x y : YaccGrammarErrorKind) → IsTrue (kinds.eq x y) ↔ (kind_view x ≡ kind_view y)
kind_view_iff x y = (kind_view-eq x y, eq-kind_view x y)

-- a clone shows what its source does
pub clone_kind_view : (x y : YaccGrammarErrorKind) → clones.is_clone x y → kind_view y ≡ kind_view x
clone_kind_view x y h = search rules

module _ (x y : YaccGrammarErrorKind) (first second : List Span) where
  abbrev left : GrammarError
  left = record { kind = kind_view x; spans = first }

  abbrev right : GrammarError
  right = record { kind = kind_view y; spans = second }

  same_error-true : same_error left right ≡ true → left ≡ right
  same_error-true h =
      let both = and_parts (same_kind left.kind right.kind) (same_spans first second) h in
      let kind = (same_kind_iff left.kind right.kind).0 both.0 in
      let spans = (same_spans_iff first second).0 both.1 in
      λ i. record { kind = kind i; spans = spans i }

  pub same_error_iff : IsTrue (same_error left right) ↔ (left ≡ right)
  same_error_iff = (same_error-true, λ e. and_from _ _ ((same_kind_iff left.kind right.kind).1 (ap (λ (error : GrammarError). error.kind) e)) ((same_spans_iff first second).1 (ap (λ (error : GrammarError). error.spans) e)))
