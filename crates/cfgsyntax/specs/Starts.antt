-- What was parsed, with another start, or why it isn't given one.
use Rattle.std.specs.Prelude.{◌≡◌, ℕ, List, true, false}
use Rattle.cfgwords.specs.FileWords.{Word}
use Rattle.cfgitems.specs.Building.{has_rule}
use Rattle.cfgitems.specs.Syntax.{Syntax}
use Rattle.cfgast.specs.Writing.{started_at}
use Rattle.cfgerrors.specs.Errors.{InvalidStartRule}
use Rattle.cfgsyntax.specs.Parsed.{Parsed}
use Rattle.cfgfaults.specs.declared.start.StartFault.{StartFault}
use Rattle.cfgfaults.specs.declared.start.StartFault.TheVariants as faults

-- the same kind and the same errors
abbrev pub restarted : Parsed → Word → Parsed
restarted parsed word = record parsed { syntax = started_at parsed.syntax word }

-- Memory can run out only if the name is a rule's.
abbrev pub IsStartFault : Syntax → List ℕ → StartFault → Type 0
IsStartFault s name (faults.Modification error) = (error ≡ InvalidStartRule name) × (has_rule name s.rules ≡ false)
IsStartFault s name faults.OutOfMemory = has_rule name s.rules ≡ true
