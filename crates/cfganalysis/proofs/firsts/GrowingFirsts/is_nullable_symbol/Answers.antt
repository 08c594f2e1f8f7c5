use Rattle.std.proofs.Common.{◌≡◌, false, get_or, subst, sym, ap, ◌∙◌}
use Rattle.std.proofs.lemmas.Option.{unwrap_or-slice_get}
use Rattle.std.specs.Option.{unwrap_or}
use Rattle.cfgtables.specs.NumberedSymbols.{sym_of}
use Rattle.cfgsets.specs.FirstSets.{nullable_bit, is_nullable_symbol}
use Rattle.cfganalysis.proofs.firsts.GrowingFirsts.is_nullable_symbol.Goals as goal

pub returns-in-Rule : goal.returns-in-Rule
returns-in-Rule g c = subst (λ s. c.unwrap_or.result ≡ is_nullable_symbol c.args.self.now s) (sym (ap (sym_of g.S.Storage.number) c.in-Rule.is))
    (c.unwrap_or.ensures ∙ ap (λ o. unwrap_or o false) c.get.ensures ∙ unwrap_or-slice_get c.self.inside.nullable c.from.result false
    ∙ ap (λ x. get_or x.nullable c.from.result false) c.self.view_is ∙ ap (nullable_bit c.args.self.now) c.from.ensures)
