use Rattle.std.proofs.Common.{sym, ap, ◌∙◌}
use Rattle.cfgitems.specs.Building.{has_entry}
use Rattle.cfgitems.proofs.Views.{has_entry-entries}
use Rattle.cfgvalidation.proofs.validation.has_precedence.Goals as goal

pub returns : goal.returns
returns c =
    c.contains_key.ensures ∙ sym (has_entry-entries (λ v. v) c.args.name.now c.precs.result.now.entries)
    ∙ ap (has_entry c.args.name.now) c.precs.ensures
