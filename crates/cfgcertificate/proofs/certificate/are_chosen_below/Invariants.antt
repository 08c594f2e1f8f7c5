use Rattle.std.proofs.Common.{map, take, All}
use Rattle.cfgtables.specs.NumberedSymbols.{sym_of}
use Rattle.cfgleast.specs.Certificate.{IsChosenBelow, choice_of}
use Rattle.cfgcertificate.proofs.certificate.are_chosen_below.Given as goal

abbrev pub invariant-loop-symbol : goal.invariant-loop-symbol
invariant-loop-symbol g l = All (IsChosenBelow (map (choice_of g.S.Storage.number) l.choices) l.number)
    (take l.symbol-index (map (sym_of g.S.Storage.number) l.symbols))
