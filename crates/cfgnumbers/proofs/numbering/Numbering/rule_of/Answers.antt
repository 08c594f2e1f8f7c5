use Rattle.std.proofs.Common.{◌+◌, sym, ap, ◌∙◌, is_some}
use Rattle.std.proofs.lemmas.Option.{same_Some}
use Rattle.cfgnumbers.specs.Numbered.{rules_before}
use Rattle.cfgnumbers.specs.TablesView.{file_of, implicit_in}
use Rattle.cfgnumbers.proofs.Lookups.{rule_index}
use Rattle.cfgnumbers.proofs.numbering.Numbering.rule_of.Goals as goal

pub unwrap-requires : goal.unwrap-requires
unwrap-requires g c = ap is_some (c.get_index_of.ensures.index ∙ rule_index c.args.name.now (file_of c.args.self.now) c.rules.result.now.entries c.rules.ensures c.requires.known)

pub returns : goal.returns
returns g c =
    c.rule_at.ensures
    ∙ ap (λ index. rules_before (implicit_in c.args.self.now) + index) (same_Some _ _ (sym c.unwrap.ensures ∙ c.get_index_of.ensures.index
    ∙ rule_index c.args.name.now (file_of c.args.self.now) c.rules.result.now.entries c.rules.ensures c.requires.known))
