use Rattle.std.proofs.Common.{◌≤◌, length}
use Rattle.std.proofs.lemmas.List.Elements.{All-map}
use Rattle.cfgnumbers.specs.Numbered.{production_core}
use Rattle.cfgyacc.proofs.grammar.analysed.YaccGrammarTables.rules_len.Goals as goal

pub returns-clause-content : goal.returns-clause-content
returns-clause-content g c = c.invariant_holds.ensures.whole.grammar

pub returns-clause-fits : goal.returns-clause-fits
returns-clause-fits g c = All-map (λ p. length p.symbols ≤ g.S.Storage.MAX) production_core c.args.self.now.productions c.invariant_holds.ensures.counted.symbols
