use Rattle.std.proofs.Common.{◌≡◌, drop, map}
use Rattle.std.specs.List.{list_any}
use Rattle.cfgrammar.specs.SyntaxView.{production_view}
use Rattle.text_findings.specs.Empty.{says_empty}
use Rattle.text_findings.proofs.empty.is_said.Given as goal

-- none of the productions so far says so
abbrev pub invariant-loop-production : goal.invariant-loop-production
invariant-loop-production l =
    list_any (says_empty l.text) (map production_view (drop l.production-index l.productions)) ≡ list_any (says_empty l.text) (map production_view l.productions)
