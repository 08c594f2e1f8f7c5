use Rattle.std.proofs.Common.{◌≡◌, ◌++◌, length, map}
use Rattle.cfgnumbers.specs.Numbered.{added_rules, file_rule}
use Rattle.cfgnumbers.specs.TablesView.{file_of, implicit_in, rule_view}
use Rattle.cfgnumbers.proofs.RowLemmas.{rule_seen}
use Rattle.cfgnumbers.proofs.numbering.Numbering.put_rules.Given as goal

abbrev pub invariant-loop-name : goal.invariant-loop-name
invariant-loop-name g l =
    map (rule_view g.S.Storage.number) l.rows.entries
    ≡ added_rules (implicit_in l.self) (length (file_of l.self).productions) ++ map file_rule (map rule_seen l.yielded)
