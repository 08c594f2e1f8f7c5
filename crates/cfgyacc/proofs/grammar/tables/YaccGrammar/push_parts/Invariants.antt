use Rattle.std.proofs.Common.{◌≡◌, ◌++◌, codes, map, take, string_bytes}
use Rattle.std.specs.List.{concat}
use Rattle.cfgnumbers.specs.Accessors.{sym_text}
use Rattle.cfgtables.specs.NumberedSymbols.{sym_of}
use Rattle.cfgyacc.proofs.grammar.tables.YaccGrammar.push_parts.Given as goal

abbrev pub invariant-loop-symbol : goal.invariant-loop-symbol
invariant-loop-symbol g l = string_bytes l.text ≡ ((string_bytes l.fn.text ++ l.rule) ++ codes ":") ++ concat (map (sym_text l.self) (map (sym_of g.S.Storage.number) (take l.symbol-index l.symbols)))
