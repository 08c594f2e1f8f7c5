-- Productions without symbols that don't say so, in any file, and in one where others do.
use Rattle.std.specs.Prelude.{◌≡◌, ℕ, Bool, false, ◌==◌, ◌&&◌, not, List, [], ◌∷◌, codes, drop, length, slice_get, Option, None, Some, option_map, if◌then◌else◌}
use Rattle.std.specs.List.{list_any, starts_with}
use Rattle.std.specs.Option.{option_and_then, option_map_or}
use Rattle.cfgrammar.specs.Syntax.{Production, Syntax}
use Rattle.finding_kinds.specs.declared.finding_kind.FindingKind.{FindingKind}
use Rattle.finding_kinds.specs.declared.finding_kind.FindingKind.TheVariants.{ImplicitEmpty, MissingEmpty}
use Rattle.text_findings.specs.Finding.{ShownFinding}

-- whether the text goes on with the word at this offset
abbrev pub begins_at : List ℕ → ℕ → List ℕ → Bool
begins_at text offset word = starts_with (λ a b. a == b) (drop offset text) word

-- Whether a production of the text has no symbols, and begins neither with `%empty` nor with `%prec`. If it begins with `%prec`, one sees
-- that it was meant to have no symbols.
abbrev pub is_implicitly_empty : List ℕ → Production → Bool
is_implicitly_empty text production =
    (length production.symbols == 0) && (not (begins_at text production.span.start (codes "%empty"))
    && not (begins_at text production.span.start (codes "%prec")))

-- whether it has none, and begins with `%empty`
abbrev pub says_empty : List ℕ → Production → Bool
says_empty text production = (length production.symbols == 0) && begins_at text production.span.start (codes "%empty")

-- the finding of this kind that it is implicitly empty, if that is true
abbrev pub implicitly_empty : FindingKind → List ℕ → List ℕ → Production → Option ShownFinding
implicitly_empty kind words text production = if is_implicitly_empty text production
    then Some (record { kind = kind; spans = production.span ∷ []; text = words; hint = None })
    else None

-- the name of the rule of the n-th production
abbrev pub rule_name_at : Syntax → ℕ → Option (List ℕ)
rule_name_at s n = option_and_then (λ rule. option_map (λ entry. entry.0) (slice_get s.rules rule)) (slice_get s.production_rules n)

-- whether a rule with this name is that of an action inside of a production: no name in a text begins so
abbrev pub is_action_name : List ℕ → Bool
is_action_name name = starts_with (λ a b. a == b) name (codes "$@")

abbrev pub is_of_action : Syntax → ℕ → Bool
is_of_action s n = option_map_or is_action_name (rule_name_at s n) false

-- such a finding about the n-th production
abbrev pub empty_finding : FindingKind → List ℕ → List ℕ → Syntax → ℕ → Option ShownFinding
empty_finding kind words text s n =
    if is_of_action s n then None else option_and_then (implicitly_empty kind words text) (slice_get s.productions n)

-- the n-th production of the text has no symbols, and doesn't say so
abbrev pub ReportsImplicitlyEmpty : List ℕ → Syntax → ℕ → Option ShownFinding → Type 0
ReportsImplicitlyEmpty text s n found = found ≡ empty_finding ImplicitEmpty (codes "Empty production without %empty") text s n

-- it doesn't say so, although a production does
abbrev pub ReportsMissingEmpty : List ℕ → Syntax → ℕ → Option ShownFinding → Type 0
ReportsMissingEmpty text s n found = found ≡ (if list_any (says_empty text) s.productions
    then empty_finding MissingEmpty (codes "Empty production without %empty, which another one has") text s n else None)
