use Rattle.std.proofs.Common.{◌++◌, map, reverse, ap, ◌∙◌}
use Rattle.cfgtables.specs.NumberedSymbols.{sym_of}
use Rattle.std.proofs.lemmas.List.{reverse-reverse}
use Rattle.cfgchoices.proofs.Pending.{map_reverse}
use Rattle.cfgchoices.proofs.first.optimal.OptimalTables.pending.Goals as goal

pub returns : goal.returns
returns g c =
    let number = g.S.Storage.number in
    ap (λ l. reverse (map (sym_of number) l)) (c.in_ok-push_turned.ensures ∙ ap (λ l. l ++ reverse c.symbols.result.now) c.new-pending.ensures.items)
    ∙ ap reverse (map_reverse (sym_of number) c.symbols.result.now) ∙ reverse-reverse (map (sym_of number) c.symbols.result.now) ∙ c.symbols.ensures
