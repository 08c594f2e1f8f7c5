use Rattle.std.proofs.Common.{sym, ap, ◌∙◌}
use Rattle.cfgsets.specs.FirstSets.{is_nullable_symbol}
use Rattle.cfgtables.specs.NumberedSymbols.{sym_of}
use Rattle.cfgsets.proofs.Gathering.{steps_over, steps_through}
use Rattle.cfgsets.proofs.follows.GrowingFollows.lookahead_before.Goals as goal

pub returns-then-not-is_nullable_symbol : goal.returns-then-not-is_nullable_symbol
returns-then-not-is_nullable_symbol g c = steps_over _ _ _ _ _ _
    (ap (λ x. is_nullable_symbol x.firsts (sym_of g.S.Storage.number c.args.symbol)) (sym c.self.view_is) ∙ sym c.is_nullable_symbol.ensures
    ∙ c.if-not-is_nullable_symbol.true)

pub returns : goal.returns
returns g c = steps_through _ _ _ _ _ _ _ _
    (ap (λ x. is_nullable_symbol x.firsts (sym_of g.S.Storage.number c.args.symbol)) (sym c.self.view_is) ∙ sym c.is_nullable_symbol.ensures
    ∙ c.if-not-is_nullable_symbol.false)
    c.gather_lookahead.ensures.length c.gather_lookahead.ensures.tokens c.gather_first.ensures
