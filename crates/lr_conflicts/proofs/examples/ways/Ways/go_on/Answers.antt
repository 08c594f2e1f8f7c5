use Rattle.std.proofs.Common.{OnOk, Some, subst, sym}
use Rattle.lr_conflicts.specs.Inner.Searches.{setting}
use Rattle.lr_conflicts.specs.Inner.Ways.{Finds, Leads}
use Rattle.lr_conflicts.proofs.examples.ways.Ways.go_on.Goals as goal

pub returns-in-Item : goal.returns-in-Item
returns-in-Item c =
    subst (λ n. OnOk c.go_on_item.result (Finds (setting c.args.self.now) (Some n) (Leads (setting c.args.self.now) n) c.args.found.now.entries c.go_on_item.new.found.entries))
    (sym c.in-Item.is) c.go_on_item.ensures

pub returns-in-Opened : goal.returns-in-Opened
returns-in-Opened c =
    subst (λ n. OnOk c.unfold.result (Finds (setting c.args.self.now) (Some n) (Leads (setting c.args.self.now) n) c.args.found.now.entries c.unfold.new.found.entries))
    (sym c.in-Opened.is) c.unfold.ensures
