use Rattle.std.proofs.Common.{◌≡◌, ◌∙◌, ℕ, List, Some, drop, take, refl, sym, ap, subst}
use Rattle.std.specs.List.{slice_get}
use Rattle.std.specs.Str.{IsCharBoundary}
use Rattle.cfgbase.specs.declared.span.Span.{Span}
use Rattle.cfgrender.proofs.Reported.{is_offset_true}
use Rattle.cfgerrors.specs.Errors.{ErrorKind}
use Rattle.cfghints.specs.Hints.{after, hint_at, note}
use Rattle.cfghints.proofs.hint.hint_for.Goals as goal

at_boundary : (text : List ℕ) (kind : ErrorKind) (span : Span) → IsCharBoundary text span.start
    → hint_at text kind (Some span) ≡ note kind (take span.start text) (drop span.start text) (after text span)
at_boundary text kind span boundary = rw (is_offset_true text span.start boundary) refl

pub returns : goal.returns
returns c =
    let text = c.args.text.now in
    let kind = c.args.error.now.kind in
    let span = c.in_ok-span.span.now in
    let boundary = subst (IsCharBoundary text) c.start.ensures (c.if-not-is_char_boundary.ensures.test.0 refl) in
    let is : c.note.result ≡ note kind (take span.start text) (drop span.start text) (after text span) =
    rw (c.kind.ensures, c.split_at.ensures.front, c.split_at.ensures.back, c.start-2.ensures, c.after.ensures) at c.note.ensures in
    is ∙ sym (at_boundary text kind span boundary) ∙ ap (hint_at text kind) (c.in_ok-span.ensures.value ∙ ap (λ l. slice_get l 0) c.spans.ensures)
