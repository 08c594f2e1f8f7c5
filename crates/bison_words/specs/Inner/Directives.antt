-- A row of the code's table of directives.
use Rattle.std.specs.Prelude.{ℕ, List}
use denote.Ref.{Bor}
use Rattle.bison_words.specs.declared.directive.Directive.{Directive}

abbrev pub shown_row : Bor (List ℕ) × Directive → List ℕ × Directive
shown_row row = (row.0.now, row.1)
