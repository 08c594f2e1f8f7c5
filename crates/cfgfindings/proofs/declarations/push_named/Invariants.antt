use Rattle.std.proofs.Common.{◌≡◌, ◌++◌, map, take}
use Rattle.cfgrammar.specs.SyntaxView.{named_view}
use Rattle.cfgfindings.specs.Shown.{at_word}
use Rattle.cfgfindings.proofs.declarations.push_named.Given as goal

-- the findings for the names so far
abbrev pub invariant-loop-name : goal.invariant-loop-name
invariant-loop-name l = l.all.items ≡ l.initial.all.items ++ map (at_word l.kind l.before l.after) (map named_view (take l.name-index l.named))
