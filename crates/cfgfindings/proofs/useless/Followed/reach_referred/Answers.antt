use Rattle.std.proofs.Common.{◌≡◌, map, refl, sym, subst, true≢false}
use Rattle.std.proofs.lemmas.Result.{IfOk-weaker}
use Rattle.search.specs.Reachable.{FoundBy, Reaches}
use Rattle.cfgrammar.specs.Numbered.{Numbered}
use Rattle.cfgrammar.specs.NumberedSymbols.{sym_of}
use Rattle.cfgfindings.specs.Inner.Reached.{IsNodeOf}
use Rattle.cfgfindings.proofs.Read.{production_seen, symbols_read}
use Rattle.cfgfindings.proofs.Reached.{held_if_followed, referred_unless_followed}
use Rattle.cfgfindings.proofs.useless.Followed.reach_referred.Goals as goal

pub returns-then-not-contains : goal.returns-then-not-contains
returns-then-not-contains c = referred_unless_followed c.args.self.now.unproductive.now c.args.self.now.only_usable c.args.production.0
    (λ followed. true≢false (sym (c.if-not-contains.ensures.1 followed))) c.args.search.now

pub returns : goal.returns
returns c =
    let g = c.args.self.now.unproductive.now in
    let h = c.grammar-grammar.result.now in
    let view : h ≡ g = c.grammar-grammar.ensures in
    let p = c.args.production.0 in
    let symbols = map (sym_of (λ s. s)) c.prod.result.now in
    let read = symbols_read g p c.requires.within symbols (production_seen g h view p p refl symbols (λ production. production.symbols) c.prod.ensures.value) in
    IfOk-weaker c.reach_symbols.result _ _
    (λ _ w. held_if_followed g c.args.self.now.only_usable p symbols read (c.if-not-contains.ensures.0 refl) _ _
    (subst (λ (n : Numbered). Reaches (FoundBy (IsNodeOf n) symbols) c.args.search.now c.reach_symbols.new.search) view w))
    c.reach_symbols.ensures
