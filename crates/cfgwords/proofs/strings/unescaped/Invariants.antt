use Rattle.std.proofs.Common.{◌≡◌, ◌++◌, length}
use denote.Text.{Utf8}
use denote.Shadow.{shadow}
use Rattle.std.specs.String.{string_bytes}
use Rattle.cfgwords.specs.Strings.{unescaped}
use Rattle.cfgwords.proofs.strings.unescaped.Given as goal

-- what is gathered and the rest, both without backslashes, make up the whole
abbrev pub invariant-loop-prefix : goal.invariant-loop-prefix
invariant-loop-prefix l = shadow (Utf8 l.rest) × (string_bytes l.value ++ unescaped l.rest ≡ unescaped l.text)

abbrev pub decreases-loop-prefix : goal.decreases-loop-prefix
decreases-loop-prefix l = length l.rest
