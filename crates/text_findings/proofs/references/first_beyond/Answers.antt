use Rattle.std.proofs.Common.{◌≡◌, Some, None, get_or, unwrap_or, ap, sym, ◌∙◌, arith}
use Rattle.text_findings.specs.References.{after}
use Rattle.text_findings.proofs.ReferenceSteps.{none_more, none_within, place_after}
use Rattle.text_findings.proofs.references.first_beyond.Goals as goal
use Rattle.text_findings.proofs.references.first_beyond.Goals.{in-Some+else-limit-number, in_default}

pub loop-offset-preserved : goal.loop-offset-preserved
loop-offset-preserved c =
    let code = c.args.code.now in
    let i = c.loop-offset.offset in
    record {
      place = c.after-place.ensures ∙ ap (λ place. after place (get_or code i 0)) c.loop-offset.invariant.place ∙ sym (place_after code i c.loop-offset-test.true);
      none = none_more code c.args.limit i (λ number is beyond. elim c.match-reference_at.branch [
        | in-Some+else-limit-number w ↦
            let same : Some w.in-Some.number ≡ Some number = sym w.in-Some.is ∙ c.reference_at.ensures ∙ is in
            omega (arith, beyond, w.if-limit-number.false, ap (λ found. unwrap_or found 0) same)
        | in_default w ↦ let no : None ≡ Some number = sym w.in_default.is ∙ c.reference_at.ensures ∙ is in cc
      ]) c.loop-offset.invariant.none;
    }

pub returns : goal.returns
returns c =
    none_within c.args.code.now c.args.limit c.loop-offset.offset (let past = c.loop-offset-test.false in omega (arith, past)) c.loop-offset.invariant.none
