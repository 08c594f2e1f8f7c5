-- The levels of findings in a file, by what it is read as.
use Rattle.finding_kinds.specs.declared.finding_kind.FindingKind.TheVariants.{NeedlessExpectUnused, RepeatedAlias, StrayComma}
use Rattle.finding_kinds.specs.declared.levels.Level.TheVariants.{Allow}
use Rattle.finding_kinds.specs.declared.levels.Levels.{Levels}
use Rattle.finding_kinds.specs.FindingKinds.{with_level}

-- In a Bison file only the tokens that are the end of the text are expected to be unused, and they may be used.
abbrev pub bison_levels : Levels → Levels
bison_levels levels = with_level levels NeedlessExpectUnused Allow

-- In a file of another kind a string in a list of `%token` is a token, and a comma is no blank.
abbrev pub yacc_levels : Levels → Levels
yacc_levels levels = with_level (with_level levels RepeatedAlias Allow) StrayComma Allow
