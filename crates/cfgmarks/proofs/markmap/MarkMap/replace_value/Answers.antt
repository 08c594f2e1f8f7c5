use Rattle.std.proofs.Common.{sym, ap, ◌∙◌}
use Rattle.std.specs.Option.{option_copied_mut}
use Rattle.std.specs.BTreeMap.{is_at}
use Rattle.std.specs.Map as map
use Rattle.cfgmarks.specs.Marks.{marks, set_value}
use Rattle.cfgmarks.proofs.MarkEntries.{changed_by_write}
use Rattle.cfgmarks.proofs.markmap.MarkMap.replace_value.Goals as goal

pub returns-clause-map : goal.returns-clause-map
returns-clause-map g c =
    let x = c.in_ok-get_mut.field-0.now in
    let cmp = g.K.Ord.cmp in
    changed_by_write cmp g.met.K.Ord.total (marks c.args.self.now) c.args.key.now x (set_value c.args.value) _ c.get_mut.ensures.ordered
    (sym c.get_mut.ensures.value ∙ ap option_copied_mut c.in_ok-get_mut.was)
    ((c.get_mut.follows.holds _).0 ∙ ap (λ v. map.set_value (is_at (cmp c.args.key.now)) c.args.self.now.contents.entries (record x { value = v })) c.replace.ensures.after)
