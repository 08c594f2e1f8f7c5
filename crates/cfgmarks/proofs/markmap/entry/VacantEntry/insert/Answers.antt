use Rattle.std.proofs.Common.{is_ok, refl, ap, ◌∙◌}
use Rattle.cfgmarks.specs.Marks.{set_value}
use Rattle.cfgmarks.proofs.markmap.entry.VacantEntry.insert.Goals as goal

pub returns-in-Ok-put : goal.returns-in-Ok-put
returns-in-Ok-put g c = (
  (refl, λ w _. c.put.follows.holds w (ap is_ok c.in-Ok-put.is) ∙ c.in-Ok.ensures.map (set_value w), tt),
  record { writes_back = tt; value = c.in-Ok-put.ensures.value; handed_back = tt; absent = tt },
)
