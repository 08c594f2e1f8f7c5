use Rattle.std.proofs.Common.{◌≡◌, true, false, map, sym, ap, ◌∙◌}
use Rattle.lemmas.specs.Lists.{pushed_unless}
use Rattle.cfgitems.specs.Building.{has_entry}
use Rattle.cfgitems.proofs.Views.{shown_entry, has_entry-entries, entries-new}
use Rattle.cfgitems.proofs.tables.put_entry.Goals as goal

pub returns-in_ok-insert : goal.returns-in_ok-insert
returns-in_ok-insert g c =
    let name = c.args.name.now in
    let old = c.args.entries.now in
    let known : c.contains_key.result ≡ has_entry name (map (shown_entry (λ v. v)) old.entries) = c.contains_key.ensures ∙ sym (has_entry-entries (λ v. v) name old.entries) in
    let new : has_entry name (map (shown_entry (λ v. v)) old.entries) ≡ false = cc in
    ap (map (shown_entry (λ v. v))) c.in_ok-insert.ensures.entries
    ∙ entries-new (λ v. v) name old c.in_ok-from_str.field-0 c.args.value c.in_ok-from_str.ensures.ok new
    ∙ ap (λ b. pushed_unless b (map (shown_entry (λ v. v)) old.entries) (name, c.args.value)) (sym new)

pub returns-else-not-contains_key : goal.returns-else-not-contains_key
returns-else-not-contains_key g c =
    let name = c.args.name.now in
    let old = c.args.entries.now in
    let known : c.contains_key.result ≡ has_entry name (map (shown_entry (λ v. v)) old.entries) = c.contains_key.ensures ∙ sym (has_entry-entries (λ v. v) name old.entries) in
    let there : has_entry name (map (shown_entry (λ v. v)) old.entries) ≡ true = cc in
    ap (λ b. pushed_unless b (map (shown_entry (λ v. v)) old.entries) (name, c.args.value)) (sym there)
