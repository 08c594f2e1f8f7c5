use Rattle.std.proofs.Common.{◌≡◌, drop, map}
use Rattle.cfgrammar.specs.SyntaxView.{production_view}
use Rattle.text_findings.specs.References.{count_before}
use Rattle.text_findings.proofs.references.count_before.Given as goal

-- none of the productions so far has it
abbrev pub invariant-loop-production : goal.invariant-loop-production
invariant-loop-production l =
    count_before l.name (map production_view (drop l.production-index l.productions)) ≡ count_before l.name (map production_view l.productions)
