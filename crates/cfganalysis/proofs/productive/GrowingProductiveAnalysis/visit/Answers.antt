use Rattle.std.proofs.Common.{◌<◌, ◌∙◌, true, map, slice_get, slice_set, sym, ap, subst, refl}
use Rattle.cfgtables.specs.NumberedSymbols.{sym_of}
use Rattle.cfgtables.proofs.Located.{owner}
use Rattle.cfganalysis.specs.ProductiveRules.{AreProductiveSymbols}
use Rattle.cfganalysis.proofs.ProductiveVisits.{takes_new, takes_none, takes_set}
use Rattle.cfganalysis.proofs.productive.GrowingProductiveAnalysis.visit.Goals as goal
use Rattle.cfganalysis.proofs.productive.GrowingProductiveAnalysis.visit.Goals.{then-set, else-set}

pub returns-then-not-are_productive-clause-takes : goal.returns-then-not-are_productive-clause-takes
returns-then-not-are_productive-clause-takes g c = takes_none _ c.args.self.now c.args.grown.now c.requires.3 _ refl (λ all. absurd (c.if-not-are_productive.ensures
    (subst (λ bits. AreProductiveSymbols bits (map (sym_of g.S.Storage.number) c.args.symbols.now)) (sym c.self.view_is) all)))

pub returns-clause-takes : goal.returns-clause-takes
returns-clause-takes g c =
    let rule = owner _ _ c.requires.1 c.requires.5 in
    let within = subst (λ n. g.S.Storage.number c.args.rule.0 < n) (sym c.requires.2.rules) rule in
    let among = subst (λ n. g.S.Storage.number c.args.rule.0 < n) (sym c.requires.4) rule in
    let all = subst (λ bits. AreProductiveSymbols bits (map (sym_of g.S.Storage.number) c.args.symbols.now)) c.self.view_is c.if-not-are_productive.ensures in
    let put = c.set.ensures.bits ∙ ap (λ l. slice_set l c.from.result true) c.self.view_is in
    let had = ap (λ l. slice_get l c.from.result) (sym c.self.view_is) in
    elim c.if-set.branch [
      | then-set w ↦ takes_new _ c.args.self.now c.args.grown.now c.requires.3 _ c.from.ensures within all _ put
          (had ∙ w.if-set.ensures.changed) among _ (w.grown-is ∙ w.put.ensures ∙ ap (λ n. slice_set c.args.grown.now n true) (w.from-then-set.ensures ∙ sym c.from.ensures))
      | else-set w ↦ takes_set _ c.args.self.now c.args.grown.now c.requires.3 _ c.from.ensures within all _ put
          (had ∙ w.if-set.ensures.changed) _ w.grown-is
    ]
