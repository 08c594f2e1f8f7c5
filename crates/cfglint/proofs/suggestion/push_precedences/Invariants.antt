use Rattle.std.proofs.Common.{◌≡◌, ◌++◌, map}
use Rattle.cfgrammar.specs.Syntax.{entry_name}
use Rattle.cfgrammar.specs.SyntaxView.{precedence_entry}
use Rattle.cfgrammar.specs.TreeView.{syntax}
use Rattle.cfglint.proofs.suggestion.push_precedences.Given as goal

-- the names so far, and those of the rest
abbrev pub invariant-loop-name : goal.invariant-loop-name
invariant-loop-name l =
    map (λ name. name.now) l.names.items ++ map entry_name (map precedence_entry l.name-iterator)
    ≡ map (λ name. name.now) l.fn.names.items ++ map entry_name (syntax l.ast).tables.precedences
