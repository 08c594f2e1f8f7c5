use Rattle.std.proofs.Common.{[], ◌∷◌, ◌++◌, Option, Vec, Global, ap, ◌∙◌}
use Rattle.std.specs.Option.{option_map_or}
use Rattle.cfgbase.specs.declared.span.Span.{Span}
use Rattle.std.proofs.lemmas.Map.Text.{btree_map_updates_str}
use Rattle.cfgsection.proofs.SectionRepeats.{items_or, put_back}
use Rattle.cfgsection.proofs.section.errors.note.Goals as goal

pub returns-clause-offsets : goal.returns-clause-offsets
returns-clause-offsets c =
    let spans = c.push.new.self in
    put_back c.args.offsets.now c.remove.new.self c.insert.new.self c.args.key.now c.args.span spans
    (btree_map_updates_str c.args.key.now c.args.offsets.now c.remove.new.self _ c.remove.ensures.updates)
    (btree_map_updates_str c.args.key.now c.remove.new.self c.insert.new.self _ c.in_ok-insert.ensures.updates)
    (c.in_ok-push.ensures.items ∙ ap (λ xs. xs ++ c.args.span ∷ []) (ap (λ (v : Vec Span Global). v.items) c.unwrap_or-spans.ensures
    ∙ items_or c.remove.result c.new.result c.new.ensures.items
    ∙ ap (λ (o : Option (Vec Span Global)). option_map_or (λ (spans : Vec Span Global). spans.items) o []) c.remove.ensures.value))
