use Rattle.std.proofs.Common.{◌≡◌, map, take}
use Rattle.cfglint.specs.Allowed.{allowed_in}
use Rattle.cfglint.proofs.allowed.allowed_lines.Given as goal

-- what the lines so far allow
abbrev pub invariant-loop-line : goal.invariant-loop-line
invariant-loop-line l = map (λ line. line.now) l.allowed.items ≡ map allowed_in (map (λ line. line.now) (take l.line-index l.lines))
