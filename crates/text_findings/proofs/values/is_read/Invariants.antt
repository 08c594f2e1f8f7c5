use Rattle.std.proofs.Common.{◌≡◌, drop, map}
use Rattle.cfgrammar.specs.SyntaxView.{production_view}
use Rattle.text_findings.specs.Values.{is_read}
use Rattle.text_findings.proofs.values.is_read.Given as goal

-- none of the productions so far reads it, or has the rule
abbrev pub invariant-loop-production : goal.invariant-loop-production
invariant-loop-production l =
    is_read l.name l.value (map production_view (drop l.production-index l.productions)) ≡ is_read l.name l.value (map production_view l.productions)
