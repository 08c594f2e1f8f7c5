use Rattle.std.proofs.Common.{◌≡◌, ◌++◌, map}
use Rattle.cfgrammar.specs.SyntaxView.{rule_entry}
use Rattle.cfgrammar.specs.TreeView.{syntax}
use Rattle.cfglint.proofs.suggestion.push_rules.Given as goal

-- the names so far, and those of the rest
abbrev pub invariant-loop-name : goal.invariant-loop-name
invariant-loop-name l =
    map (λ name. name.now) l.names.items ++ map (λ rule. rule.0) (map rule_entry l.name-iterator)
    ≡ map (λ name. name.now) l.fn.names.items ++ map (λ rule. rule.0) (syntax l.ast).rules
