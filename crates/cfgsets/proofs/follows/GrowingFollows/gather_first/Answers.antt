use Rattle.std.proofs.Common.{◌<◌, [], ◌∷◌, subst, sym, ap, ◌∙◌}
use Rattle.derivation.specs.Grammar.{IsSymbolOf}
use Rattle.cfgsets.specs.Table.{row_of}
use Rattle.cfgsets.specs.Inner.Joined.{joined}
use Rattle.cfgsets.specs.Inner.Lookaheads.{BeginsList, Gathers}
use Rattle.cfgtables.specs.NumberedSymbols.{sym_of}
use Rattle.cfgsets.proofs.Joins.{row_wide}
use Rattle.cfgsets.proofs.Gathering.{gathers_rule}
use Rattle.cfgsets.proofs.follows.GrowingFollows.gather_first.Goals as goal

pub returns-in-Rule : goal.returns-in-Rule
returns-in-Rule g c =
    let symbol = ap (sym_of g.S.Storage.number) c.in-Rule.is in
    let within : g.S.Storage.number c.in-Rule.rule.0 < c.requires.0.rules = subst (λ s. IsSymbolOf c.requires.0 s) symbol c.requires.3 in
    let fits = c.requires.1.firsts.table in
    subst (λ s. Gathers (BeginsList c.args.self.now (s ∷ [])) c.args.gathered.now c.or.new.self) (sym symbol)
    (gathers_rule c.args.self.now _ _ _ (c.requires.2 ∙ sym (row_wide _ _ _ fits _ within))
    (c.or.ensures.bits ∙ ap (joined c.args.gathered.now)
    (c.firsts.ensures ∙ ap (λ x. row_of x.firsts.firsts (g.S.Storage.number c.in-Rule.rule.0)) c.self.view_is)))
