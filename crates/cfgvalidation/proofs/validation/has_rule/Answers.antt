use Rattle.std.proofs.Common.{is_some, bytes_eq, sym, ap, ◌∙◌}
use Rattle.lemmas.proofs.Lookups.{found-lookup}
use Rattle.lemmas.proofs.Options.{is_some-option_map}
use Rattle.cfgast.specs.TreeView.{syntax}
use Rattle.cfgvalidation.proofs.validation.has_rule.Goals as goal

pub returns : goal.returns
returns c =
    c.is_some.ensures ∙ sym (is_some-option_map _ c.get_rule.result) ∙ ap is_some c.get_rule.ensures
    ∙ found-lookup (bytes_eq c.args.name.now) (syntax c.args.ast.now).rules
