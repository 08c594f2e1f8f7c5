use Rattle.std.proofs.Common.{◌≤◌, ◌+◌, ◌∷◌, [], length, arith, ap, refl, sym, map-id, ◌∙◌}
use Rattle.std.proofs.lemmas.Grind.{common_steps, fold-append}
use Rattle.std.proofs.lemmas.Iterator.{YieldsList-from_chars}
use Rattle.std.proofs.lemmas.Iterator.Consumers.{YieldsList-end}
use Rattle.std.proofs.lemmas.List.{length-append}
use Rattle.std.proofs.lemmas.Str.{len_utf8_bounds, length-encode}
use Rattle.std.specs.Prelude.{encode_utf8}
use Rattle.cfgrender.specs.Render.{after_character, display_width}
use Rattle.cfgrender.proofs.column_unit.display_width.Goals as goal

pub loop-c-init : goal.loop-c-init
loop-c-init c = record { value = refl; small = grind (arith, common_steps) }

pub loop-c-preserved : goal.loop-c-preserved
loop-c-preserved c =
    let steps = c.in-Some.ensures.steps.0 in
    let character = c.in-Some.c in
    let rest = c.next.new.self.rest.now in
    let fewer : length rest + 1 ≤ length c.loop-c.c-iterator.rest.now =
    omega (arith, ap length steps, length-append (encode_utf8 character) rest, length-encode character, (len_utf8_bounds character).0) in
    record {
      value = c.after_character-width.ensures.value ∙ ap (λ width. after_character width character) c.loop-c.invariant.value
          ∙ sym (fold-append after_character 0 c.loop-c.yielded (character ∷ []));
      small = omega (arith, c.after_character-width.ensures.small, c.loop-c.invariant.small, fewer);
    }

pub returns-clause-value : goal.returns-clause-value
returns-clause-value c =
    let end = YieldsList-end (YieldsList-from_chars c.args.line.now c.utf8.line cc) c.loop-c.yielded _ c.loop-c.yielded_by _ _ c.in-None.is c.next.ensures.steps in
    c.loop-c.invariant.value ∙ ap display_width (sym (map-id c.loop-c.yielded) ∙ end.0)
