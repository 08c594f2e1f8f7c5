use Rattle.std.proofs.Common.{sym, ap, ◌∙◌, map-id}
use Rattle.std.proofs.Output.{has_written_of_eq}
use Rattle.std.proofs.lemmas.Iterator.{YieldsList-from_chars}
use Rattle.std.proofs.lemmas.Iterator.Consumers.{YieldsList-end}
use Rattle.std.specs.List.{flat_map}
use Rattle.std.specs.Str.{encode_utf8_all}
use Rattle.cfgrender.specs.Visible.{shown_as}
use Rattle.cfgrender.proofs.Shown.{visible_each, visible_whole}
use Rattle.cfgrender.proofs.visible.write_visible.Goals as goal

pub returns-then-not-has_escapes : goal.returns-then-not-has_escapes
returns-then-not-has_escapes g c =
    rw (sym (visible_whole c.args.text.now c.utf8.text (sym c.if-not-has_escapes.ensures))) c.write_str.ensures.writes

pub returns : goal.returns
returns g c =
    λ plain _.
    let end = YieldsList-end (YieldsList-from_chars c.args.text.now c.utf8.text cc) c.loop-c.yielded _ c.loop-c.yielded_by _ _ c.in-None.is c.next.ensures.steps in
    has_written_of_eq _ _ _ _ _ (ap (flat_map (λ c. encode_utf8_all (shown_as c))) (sym (map-id c.loop-c.yielded) ∙ end.0) ∙ visible_each c.args.text.now)
    (c.loop-c.invariant plain)
