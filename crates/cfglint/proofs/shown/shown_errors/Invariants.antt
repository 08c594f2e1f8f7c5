use Rattle.std.proofs.Common.{◌≡◌, map, not, option_map, take}
use Rattle.std.specs.List.{filter}
use Rattle.cfgrammar.specs.Errors.{GrammarError}
use Rattle.cfgrammar.specs.TreeView.{syntax}
use Rattle.cfglint.specs.ShownErrors.{is_of_validation, placed}
use Rattle.cfglint.proofs.shown.shown_errors.Given as goal

-- those of the errors so far
abbrev pub invariant-loop-error : goal.invariant-loop-error
invariant-loop-error l = l.shown.items
    ≡ map (placed l.text (option_map (λ ast. syntax ast.now) l.ast)) (filter (λ (error : GrammarError). not (is_of_validation error.kind)) (take l.error-index l.errors))
