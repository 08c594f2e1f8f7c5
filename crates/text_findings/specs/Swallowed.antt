-- Rules whose type goes on to that of the next rule.
--
-- In a file of the kind Grmtools a rule is `Name -> Type: ..`. Without the `:` after it the type goes on to the next `:` of the text, over the
-- rule's productions and the next rule's head.
use Rattle.std.specs.Prelude.{◌≡◌, ℕ, Bool, false, ◌==◌, List, [], ◌∷◌, ◌++◌, codes, not, drop, slice_get, Option, None, Some, if◌then◌else◌}
use Rattle.std.specs.List.{list_any, slice_split}
use Rattle.std.specs.Option.{option_and_then, option_map_or}
use Rattle.cfgrammar.specs.Pieces.{split_first}
use Rattle.cfgrammar.specs.Span.{Span}
use Rattle.cfgrammar.specs.Syntax.{Rule, Syntax}
use Rattle.finding_kinds.specs.declared.finding_kind.FindingKind.TheVariants.{SwallowedRule}
use Rattle.text_findings.specs.Finding.{ShownFinding}

abbrev pub is_semicolon : ℕ → Bool
is_semicolon byte = byte == 59

abbrev pub is_closing_bracket : ℕ → Bool
is_closing_bracket byte = byte == 93

-- whether a text has a `->`, and no `]` before the first one
abbrev pub has_open_arrow : List ℕ → Bool
has_open_arrow text = option_map_or (λ parts. not (list_any is_closing_bracket parts.0)) (split_first (codes "->") text) false

-- Whether a type goes on to the next rule's: after one of its `;`s comes a `->`, without a `]` or another `;` between the two. In types of
-- Rust a `;` is only in arrays, and a `]` follows it: `fn([u8; 4]) -> u8`.
abbrev pub goes_on : List ℕ → Bool
goes_on type = list_any has_open_arrow (drop 1 (slice_split is_semicolon type))

-- that the type of the rule with this name goes on
abbrev pub swallowed_rule : List ℕ → Span → ShownFinding
swallowed_rule name span = record {
  kind = SwallowedRule;
  spans = span ∷ [];
  text = codes "The type of rule '" ++ (name ++ codes "' goes on over a ';' and a '->': a ':' may be missing after the type");
  hint = None;
}

-- the finding about a rule under its name, if its type goes on
abbrev pub swallowed : List ℕ × Rule → Option ShownFinding
swallowed entry = if option_map_or goes_on entry.1.action_type false then Some (swallowed_rule entry.0 entry.1.name.span) else None

-- the type of the n-th rule goes on
abbrev pub ReportsSwallowed : Syntax → ℕ → Option ShownFinding → Type 0
ReportsSwallowed s n found = found ≡ option_and_then swallowed (slice_get s.rules n)
