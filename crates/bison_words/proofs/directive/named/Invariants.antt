use Rattle.std.proofs.Common.{◌≡◌, drop, map}
use Rattle.bison_words.specs.Directives.{named}
use Rattle.bison_words.specs.Inner.Directives.{shown_row}
use Rattle.bison_words.proofs.directive.named.Given as goal

-- none of the rows so far has the name
abbrev pub invariant-loop-spelling : goal.invariant-loop-spelling
invariant-loop-spelling l = named (map shown_row (drop l.spelling-index l.table)) l.name ≡ named (map shown_row l.table) l.name
