use Rattle.std.proofs.Common.{◌≡◌, None, unwrap_or, inr, sym, ap, ◌∙◌, rules}
use Rattle.lemmas.proofs.Entries.{lookup_congr}
use Rattle.cfgmarks.specs.Marks.{marks, entry_at, marks_at, unmarked}
use Rattle.cfgmarks.proofs.markmap.MarkMap.mark.Goals as goal

pub returns-clause-ok : goal.returns-clause-ok
returns-clause-ok g c =
    let cmp = g.K.Ord.cmp in
    let before = marks c.args.self.now in
    let copy = c.in_ok-copy.copy in
    let none : entry_at cmp before c.args.key.now ≡ None = search rules in
    let same_key = lookup_congr cmp g.met.K.Ord.total before.entries c.args.key.now copy (c.requires c.args.key.now copy c.in_ok-copy.ensures.cases) in
    let fresh : marks_at cmp before copy ≡ unmarked = ap (λ o. unwrap_or o unmarked) (sym same_key ∙ none) in
    let kept : marks c.mark_entry.new.self ≡ before = search rules in
    (copy, inr c.in_ok-copy.ensures.cases, search rules)
