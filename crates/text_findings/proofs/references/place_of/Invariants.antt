use Rattle.std.proofs.Common.{◌≡◌, ◌+◌, drop, map}
use Rattle.cfgrammar.specs.SyntaxView.{symbol_view}
use Rattle.text_findings.specs.References.{place_of}
use Rattle.text_findings.proofs.references.place_of.Given as goal

-- none of the symbols so far is it
abbrev pub invariant-loop-index : goal.invariant-loop-index
invariant-loop-index l = l.index + place_of l.name (map symbol_view (drop l.index l.symbols)) ≡ place_of l.name (map symbol_view l.symbols)
