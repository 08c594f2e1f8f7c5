-- Values of actions inside of productions that no later action reads: `$$ = 1` in an action that is the third part, and nowhere `$3`.
use Rattle.std.specs.Prelude.{◌≡◌, ℕ, Bool, false, ◌==◌, ◌||◌, ◌&&◌, ◌+◌, List, [], ◌∷◌, ◌++◌, codes, drop, length, min, nat_le, nat_lt, not, slice_get, Option, None, Some, if◌then◌else◌}
use Rattle.std.specs.Fmt.{digits}
use Rattle.std.specs.List.{list_any}
use Rattle.std.specs.Option.{option_and_then, option_map_or}
use Rattle.cfgrammar.specs.Span.{Span}
use Rattle.cfgrammar.specs.Syntax.{Production, Syntax}
use Rattle.finding_kinds.specs.declared.finding_kind.FindingKind.TheVariants.{UnreadValue}
use Rattle.text_findings.specs.Empty.{is_action_name, rule_name_at}
use Rattle.text_findings.specs.Finding.{ShownFinding}
use Rattle.text_findings.specs.References.{after, count_before, is_code, number_of, place_of, without_tag}
use Rattle.text_findings.specs.declared.references.Place.{Place}
use Rattle.text_findings.specs.declared.references.Place.TheVariants.{Code}
use Rattle.text_findings.specs.declared.values.Value.{Value}
use Rattle.text_findings.specs.declared.values.Value.TheVariants.{Inherited, Own, Symbol}

-- whether code begins with a name, maybe in brackets
abbrev pub begins_name : List ℕ → Bool
begins_name [] = false
begins_name (byte ∷ code) =
    (nat_le 65 byte && nat_le byte 90) || ((nat_le 97 byte && nat_le byte 122) || (byte == 95 || byte == 91))

-- Whether what follows a `$` refers to a value: `$` to the action's own one, the number of a symbol to that of the symbol, and 0 or a
-- negative number to one from before the production. A name may refer to any symbol.
abbrev pub begins_with : ℕ → List ℕ → Bool
begins_with byte [] = false
begins_with byte (first ∷ code) = first == byte

abbrev pub is_number : ℕ → List ℕ → Bool
is_number number code = option_map_or (λ other. other == number) (number_of code) false

abbrev pub is_of : Value → List ℕ → Bool
is_of Own code = begins_with 36 code
is_of Inherited code = begins_with 45 code || is_number 0 code
is_of (Symbol number) code = begins_name code || is_number number code

-- whether code that goes on at this place refers to a value outside of comments and quotes
abbrev pub refers : Value → Place → List ℕ → Bool
refers value place [] = false
refers value place (byte ∷ code) =
    (is_code place && ((byte == 36) && is_of value (without_tag code))) || refers value (after place byte) code

-- whether an action does
abbrev pub action_refers : Value → Option (List ℕ × Span) → Bool
action_refers value action = option_map_or (λ (code : List ℕ × Span). refers value Code code.0) action false

-- whether the productions up to the first one that has the rule with this name have an action that refers to the value
abbrev pub is_read : List ℕ → Value → List Production → Bool
is_read name value [] = false
is_read name value (production ∷ rest) = action_refers value production.action
    || (not (nat_lt (place_of name production.symbols) (length production.symbols)) && is_read name value rest)

-- which symbol the n-th production's rule is, from 1, in the production that has it
abbrev pub symbol_number : Syntax → ℕ → List ℕ → ℕ
symbol_number s n name = min (count_before name (drop n s.productions) + 1) 18446744073709551615

-- that the value of an action, which is the symbol with this number, isn't read
abbrev pub unread_value : ℕ → Span → ShownFinding
unread_value number span = record {
  kind = UnreadValue;
  spans = span ∷ [];
  text = codes "Unread value '$$': no later action has '$" ++ (digits 10 false number ++ codes "'");
  hint = Some (codes "a '|' may be missing after this action");
}

-- whether the action of the n-th production, whose rule has this name, sets its value, and no later one in the production reads that
abbrev pub is_unread : Syntax → ℕ → List ℕ → Production → Bool
is_unread s n name production = is_action_name name && (action_refers Own production.action
    && not (is_read name (Symbol (symbol_number s n name)) (drop (n + 1) s.productions)))

abbrev pub unread_in : Syntax → ℕ → List ℕ → Production → Option ShownFinding
unread_in s n name production =
    if is_unread s n name production then Some (unread_value (symbol_number s n name) production.span) else None

-- whether the action of a production refers to a value from before it
abbrev pub inherits : Production → Bool
inherits production = action_refers Inherited production.action

abbrev pub unread_of : Syntax → ℕ → Production → Option ShownFinding
unread_of s n production = option_and_then (λ name. unread_in s n name production) (rule_name_at s n)

abbrev pub unread_at : Syntax → ℕ → Option ShownFinding
unread_at s n = option_and_then (unread_of s n) (slice_get s.productions n)

-- The n-th production is that of such an action, and no action of the file refers to a value from before its production: what that is can't
-- be seen.
abbrev pub ReportsUnreadValue : Syntax → ℕ → Option ShownFinding → Type 0
ReportsUnreadValue s n found = found ≡ (if list_any inherits s.productions then None else unread_at s n)
