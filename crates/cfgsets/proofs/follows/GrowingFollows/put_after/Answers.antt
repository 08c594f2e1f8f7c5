use Rattle.std.proofs.Common.{◌≡◌, ◌<◌, length, arith, subst, sym, ap}
use Rattle.derivation.specs.Grammar.{Rule, IsSymbolOf}
use Rattle.cfgsets.specs.Inner.Lookaheads.{LookaheadHas, PutsAfter}
use Rattle.cfgtables.specs.NumberedSymbols.{sym_of}
use Rattle.cfgsets.proofs.FollowVisits.{rule_after}
use Rattle.cfgsets.proofs.follows.GrowingFollows.put_after.Goals as goal

pub returns-then-put_lookahead : goal.returns-then-put_lookahead
returns-then-put_lookahead g c =
    let symbol = ap (sym_of g.S.Storage.number) c.in-Rule.is in
    let within : g.S.Storage.number c.in-Rule.before.0 < c.requires.0.rules = subst (λ s. IsSymbolOf c.requires.0 s) symbol c.requires.4 in
    let lt : c.from.result < length c.args.grown.now = omega (arith, within, c.from.ensures, c.requires.2) in
    subst (λ s. PutsAfter (λ r t. (Rule r ≡ s)
    × LookaheadHas g.S.Storage.number c.args.self.now (g.S.Storage.number c.args.rule.0) c.args.gathered.now c.args.lookahead.now t)
    c.args.self.now c.put_lookahead.new.self c.args.grown.now c.put.new.self) (sym symbol)
    (rule_after _ _ _ _ _ _ c.put_lookahead.ensures _ _ c.if-put_lookahead.true c.from.ensures lt c.put.ensures)
