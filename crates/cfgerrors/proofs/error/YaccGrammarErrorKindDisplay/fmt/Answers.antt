use Rattle.std.proofs.Common.{◌≡◌, ◌∙◌, ◌++◌, ℕ, List, Bor, codes, refl, sym, ap}
use Rattle.std.proofs.Output.{has_written_append, has_written_of_eq, has_written_styled_append, has_written_styled_of_eq}
use Rattle.cfgerrors.specs.declared.error.YaccGrammarErrorKind.{YaccGrammarErrorKind}
use Rattle.cfgerrors.specs.Errors.{kind_view}
use Rattle.cfgerrors.specs.ErrorTexts.{error_text}
use Rattle.cfgerrors.proofs.error.YaccGrammarErrorKindDisplay.fmt.Goals as goal
use Rattle.cfgerrors.proofs.error.YaccGrammarErrorKindDisplay.fmt.Goals.{in-IllegalInteger, in-IllegalName, in-IllegalString, in-IncompleteRule, in-IncompleteComment, in-IncompleteAction, in-MissingColon, in-MissingRightArrow, in-MismatchedBrace, in-NonEmptyProduction, in-PrematureEnd, in-ProductionNotTerminated, in-ProgramsNotSupported, in-UnknownDeclaration, in-PrecNotFollowedByToken, in-DuplicatePrecedence, in-DuplicateAvoidInsertDeclaration, in-DuplicateImplicitTokensDeclaration, in-DuplicateExpectDeclaration, in-DuplicateExpectRRDeclaration, in-DuplicateStartDeclaration, in-DuplicateActiontypeDeclaration, in-DuplicateEPP, in-ReachedEOL, in-InvalidString, in-NoStartRule, in-UnknownSymbol, in-InvalidYaccKind, in-StorageTooSmall}

pub returns-in-Header-clause-styled : goal.returns-in-Header-clause-styled
unfolding error_text
returns-in-Header-clause-styled g c = λ flush ok.
    let before = c.in_ok-write_str-in-Header.ensures.styled flush refl in
    let kind = c.fmt.ensures.styled before.flush ok in
    has_written_styled_of_eq _ _ _ _ _ (sym (ap (λ kind. error_text (kind_view kind)) c.in-Header.is))
    (has_written_styled_append _ _ _ _ _ _ before kind)

pub returns-in-Header-clause-writes : goal.returns-in-Header-clause-writes
unfolding error_text
returns-in-Header-clause-writes g c = λ plain ok.
    let before = c.in_ok-write_str-in-Header.ensures.writes plain refl in
    let kind = c.fmt.ensures.writes before.plain ok in
    has_written_of_eq _ _ _ _ _ (sym (ap (λ kind. error_text (kind_view kind)) c.in-Header.is))
    (has_written_append _ _ _ _ _ _ before kind)

named_is : (before after shown name : List ℕ) (kind one : YaccGrammarErrorKind) → shown ≡ name → kind ≡ one → before ++ (name ++ after) ≡ error_text (kind_view one)
    → before ++ (shown ++ after) ≡ error_text (kind_view kind)
named_is before after shown name kind one is found reported = ap (λ n. before ++ (n ++ after)) is ∙ reported ∙ sym (ap (λ k. error_text (kind_view k)) found)

pub returns-in-InvalidStartRule : goal.returns-in-InvalidStartRule
unfolding error_text
returns-in-InvalidStartRule g c =
    let text = named_is (codes "Start rule '") (codes "' does not appear in grammar") _ _ _ _ c.deref.ensures c.in-InvalidStartRule.is refl in
    record {
      writes = λ plain ok. has_written_of_eq _ _ _ _ _ text (c.write_parts.ensures.plain plain ok);
      styled = λ flush ok. has_written_styled_of_eq _ _ _ _ _ text (c.write_parts.ensures.styled flush ok);
    }

pub returns-in-UnknownRuleRef : goal.returns-in-UnknownRuleRef
unfolding error_text
returns-in-UnknownRuleRef g c =
    let text = named_is (codes "Unknown reference to rule '") (codes "'") _ _ _ _ c.deref-in-UnknownRuleRef.ensures c.in-UnknownRuleRef.is refl in
    record {
      writes = λ plain ok. has_written_of_eq _ _ _ _ _ text (c.write_parts-in-UnknownRuleRef.ensures.plain plain ok);
      styled = λ flush ok. has_written_styled_of_eq _ _ _ _ _ text (c.write_parts-in-UnknownRuleRef.ensures.styled flush ok);
    }

pub returns-in-UnknownToken : goal.returns-in-UnknownToken
unfolding error_text
returns-in-UnknownToken g c =
    let text = named_is (codes "Unknown token '") (codes "'") _ _ _ _ c.deref-in-UnknownToken.ensures c.in-UnknownToken.is refl in
    record {
      writes = λ plain ok. has_written_of_eq _ _ _ _ _ text (c.write_parts-in-UnknownToken.ensures.plain plain ok);
      styled = λ flush ok. has_written_styled_of_eq _ _ _ _ _ text (c.write_parts-in-UnknownToken.ensures.styled flush ok);
    }

pub returns-in-NoPrecForToken : goal.returns-in-NoPrecForToken
unfolding error_text
returns-in-NoPrecForToken g c =
    let text = named_is (codes "Token '") (codes "' used in %prec has no precedence attached") _ _ _ _ c.deref-in-NoPrecForToken.ensures c.in-NoPrecForToken.is refl in
    record {
      writes = λ plain ok. has_written_of_eq _ _ _ _ _ text (c.write_parts-in-NoPrecForToken.ensures.plain plain ok);
      styled = λ flush ok. has_written_styled_of_eq _ _ _ _ _ text (c.write_parts-in-NoPrecForToken.ensures.styled flush ok);
    }

pub returns-in-UnknownEPP : goal.returns-in-UnknownEPP
unfolding error_text
returns-in-UnknownEPP g c =
    let text = named_is (codes "Token '") (codes "' in %epp declaration is not referenced in the grammar") _ _ _ _ c.deref-in-UnknownEPP.ensures c.in-UnknownEPP.is refl in
    record {
      writes = λ plain ok. has_written_of_eq _ _ _ _ _ text (c.write_parts-in-UnknownEPP.ensures.plain plain ok);
      styled = λ flush ok. has_written_styled_of_eq _ _ _ _ _ text (c.write_parts-in-UnknownEPP.ensures.styled flush ok);
    }

text_is : (text shown : Bor (List ℕ)) (kind one : YaccGrammarErrorKind) → text ≡ shown → kind ≡ one → shown.now ≡ error_text (kind_view one) → text.now ≡ error_text (kind_view kind)
text_is text shown kind one is found reported = ap (λ (t : Bor (List ℕ)). t.now) is ∙ reported ∙ sym (ap (λ k. error_text (kind_view k)) found)

pub returns : goal.returns
unfolding error_text
returns g c =
    let text : c.match-self.text.now ≡ error_text (kind_view c.args.self.now) = elim c.match-self.branch [
      | in-IllegalInteger w ↦ text_is _ _ _ _ w.text-is w.in-IllegalInteger.is refl
      | in-IllegalName w ↦ text_is _ _ _ _ w.text-is w.in-IllegalName.is refl
      | in-IllegalString w ↦ text_is _ _ _ _ w.text-is w.in-IllegalString.is refl
      | in-IncompleteRule w ↦ text_is _ _ _ _ w.text-is w.in-IncompleteRule.is refl
      | in-IncompleteComment w ↦ text_is _ _ _ _ w.text-is w.in-IncompleteComment.is refl
      | in-IncompleteAction w ↦ text_is _ _ _ _ w.text-is w.in-IncompleteAction.is refl
      | in-MissingColon w ↦ text_is _ _ _ _ w.text-is w.in-MissingColon.is refl
      | in-MissingRightArrow w ↦ text_is _ _ _ _ w.text-is w.in-MissingRightArrow.is refl
      | in-MismatchedBrace w ↦ text_is _ _ _ _ w.text-is w.in-MismatchedBrace.is refl
      | in-NonEmptyProduction w ↦ text_is _ _ _ _ w.text-is w.in-NonEmptyProduction.is refl
      | in-PrematureEnd w ↦ text_is _ _ _ _ w.text-is w.in-PrematureEnd.is refl
      | in-ProductionNotTerminated w ↦ text_is _ _ _ _ w.text-is w.in-ProductionNotTerminated.is refl
      | in-ProgramsNotSupported w ↦ text_is _ _ _ _ w.text-is w.in-ProgramsNotSupported.is refl
      | in-UnknownDeclaration w ↦ text_is _ _ _ _ w.text-is w.in-UnknownDeclaration.is refl
      | in-PrecNotFollowedByToken w ↦ text_is _ _ _ _ w.text-is w.in-PrecNotFollowedByToken.is refl
      | in-DuplicatePrecedence w ↦ text_is _ _ _ _ w.text-is w.in-DuplicatePrecedence.is refl
      | in-DuplicateAvoidInsertDeclaration w ↦ text_is _ _ _ _ w.text-is w.in-DuplicateAvoidInsertDeclaration.is refl
      | in-DuplicateImplicitTokensDeclaration w ↦ text_is _ _ _ _ w.text-is w.in-DuplicateImplicitTokensDeclaration.is refl
      | in-DuplicateExpectDeclaration w ↦ text_is _ _ _ _ w.text-is w.in-DuplicateExpectDeclaration.is refl
      | in-DuplicateExpectRRDeclaration w ↦ text_is _ _ _ _ w.text-is w.in-DuplicateExpectRRDeclaration.is refl
      | in-DuplicateStartDeclaration w ↦ text_is _ _ _ _ w.text-is w.in-DuplicateStartDeclaration.is refl
      | in-DuplicateActiontypeDeclaration w ↦ text_is _ _ _ _ w.text-is w.in-DuplicateActiontypeDeclaration.is refl
      | in-DuplicateEPP w ↦ text_is _ _ _ _ w.text-is w.in-DuplicateEPP.is refl
      | in-ReachedEOL w ↦ text_is _ _ _ _ w.text-is w.in-ReachedEOL.is refl
      | in-InvalidString w ↦ text_is _ _ _ _ w.text-is w.in-InvalidString.is refl
      | in-NoStartRule w ↦ text_is _ _ _ _ w.text-is w.in-NoStartRule.is refl
      | in-UnknownSymbol w ↦ text_is _ _ _ _ w.text-is w.in-UnknownSymbol.is refl
      | in-InvalidYaccKind w ↦ text_is _ _ _ _ w.text-is w.in-InvalidYaccKind.is refl
      | in-StorageTooSmall w ↦ text_is _ _ _ _ w.text-is w.in-StorageTooSmall.is refl
    ] in
    record {
      writes = λ plain ok. has_written_of_eq _ _ _ _ _ text (c.write_str-2.ensures.writes plain ok);
      styled = λ flush ok. has_written_styled_of_eq _ _ _ _ _ text (c.write_str-2.ensures.styled flush ok);
    }
