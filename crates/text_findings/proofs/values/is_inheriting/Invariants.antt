use Rattle.std.proofs.Common.{◌≡◌, drop, map}
use Rattle.std.specs.List.{list_any}
use Rattle.cfgrammar.specs.SyntaxView.{production_view}
use Rattle.text_findings.specs.Values.{inherits}
use Rattle.text_findings.proofs.values.is_inheriting.Given as goal

-- none of the productions so far does
abbrev pub invariant-loop-production : goal.invariant-loop-production
invariant-loop-production l =
    list_any inherits (map production_view (drop l.production-index l.productions)) ≡ list_any inherits (map production_view l.productions)
