use Rattle.std.proofs.Common.{◌++◌, map, subst, sym, ◌∙◌, true≢false}
use Rattle.cfgrammar.specs.NumberedSymbols.{sym_of}
use Rattle.lr_states.proofs.Bits.{bit_read}
use Rattle.lr_conflicts.specs.Inner.Searches.{setting}
use Rattle.lr_conflicts.specs.Inner.Ways.{ByShown, IsOpen, UnfoldsWith}
use Rattle.lr_conflicts.proofs.Found.{finds_as, finds_none}
use Rattle.lr_conflicts.proofs.Shown.{unfolded_shown}
use Rattle.lr_conflicts.proofs.examples.ways.Ways.unfold_by.Goals as goal

pub show-requires-clause-opened : goal.show-requires-clause-opened
show-requires-clause-opened c =
    let w = setting c.args.self.now in
    let g = w.grammar in
    let p = c.args.production in
    let read = bit_read c.args.self.now.used.now p c.get.result c.unwrap_or.result c.get.ensures c.unwrap_or.ensures in
    let used = (c.requires.ready.used p).0 (sym read ∙ c.if-unwrap_or.true) in
    λ prefix after h. subst (λ l. IsOpen w c.args.at.place c.args.at.rule prefix (l ++ after)) (sym c.symbols_of-symbols.ensures.symbols)
    (unfolded_shown w c.args.at.place c.args.at.rule c.args.at.first p prefix after used c.requires.owner h.0)

pub returns-in_ok-show : goal.returns-in_ok-show
returns-in_ok-show c =
    let w = setting c.args.self.now in
    let q = c.args.at.place in
    let rule = c.args.at.rule in
    let p = c.args.production in
    let list = map (sym_of (λ s. s)) c.symbols_of-symbols.result.now in
    finds_as w (ByShown w q rule list) (UnfoldsWith w q rule p) _ _
    (λ n h. subst (λ l. ByShown w q rule l n) (sym c.symbols_of-symbols.ensures.symbols) h.1) c.in_ok-show.ensures.found

pub returns-else-unwrap_or : goal.returns-else-unwrap_or
returns-else-unwrap_or c =
    let w = setting c.args.self.now in
    let p = c.args.production in
    let read = bit_read c.args.self.now.used.now p c.get.result c.unwrap_or.result c.get.ensures c.unwrap_or.ensures in
    finds_none w (UnfoldsWith w c.args.at.place c.args.at.rule p) _
    (λ n h. true≢false (sym ((c.requires.ready.used p).1 h.0) ∙ sym read ∙ c.if-unwrap_or.false))
