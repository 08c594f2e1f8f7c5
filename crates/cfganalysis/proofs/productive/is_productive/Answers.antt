use Rattle.std.proofs.Common.{◌≡◌, false, subst, sym, ap, ◌∙◌}
use Rattle.std.proofs.lemmas.Option.{unwrap_or-slice_get}
use Rattle.std.specs.Option.{unwrap_or}
use Rattle.cfgtables.specs.NumberedSymbols.{sym_of}
use Rattle.cfganalysis.specs.ProductiveRules.{is_productive, is_productive_symbol}
use Rattle.cfganalysis.proofs.productive.is_productive.Goals as goal

pub returns-in-Rule : goal.returns-in-Rule
returns-in-Rule g c = subst (λ s. c.unwrap_or.result ≡ is_productive_symbol c.args.productive.now s) (sym (ap (sym_of g.S.Storage.number) c.in-Rule.is))
    (c.unwrap_or.ensures ∙ ap (λ o. unwrap_or o false) c.get.ensures ∙ unwrap_or-slice_get c.args.productive.now c.from.result false
    ∙ ap (is_productive c.args.productive.now) c.from.ensures)
