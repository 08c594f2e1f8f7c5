-- The rule that the end of a text cuts: no `;` ends it.
use Rattle.std.specs.Prelude.{ℕ, ◌-◌, Bool, true, false, ◌==◌, ◌&&◌, if◌then◌else◌, List, [], length, drop, slice_get, Option, Some, None, is_some, codes}
use Rattle.std.specs.Option.{option_and_then, option_map_or}
use Rattle.constructs.specs.Pieces.{run, strip}
use Rattle.cfgwords.specs.Actions.{action_of}
use Rattle.cfgwords.specs.Bytes.{holds}
use Rattle.cfgwords.specs.declared.bytes.ByteClass.TheVariants as bytes
use Rattle.cfgrammar.specs.Errors.{ErrorKind, IncompleteRule}
use Rattle.cfgrammar.specs.Render.{is_offset}
use Rattle.cfgrammar.specs.Span.{Span}
use Rattle.cfgrammar.specs.Syntax.{Production, Rule, Syntax}

-- the rest of a text after white space, and after an action and the white space after it
abbrev pub after_blanks : List ℕ → List ℕ
after_blanks text = (run (holds bytes.Blank) text).1

abbrev pub after_action : List ℕ → List ℕ
after_action text = option_map_or (λ action. after_blanks action.1) (action_of text) []

-- the rest after a production, its action, if it has one, and white space
abbrev pub after_own_action : Option (List ℕ × Span) → List ℕ → List ℕ
after_own_action None text = text
after_own_action (Some action) text = after_action text

abbrev pub after_production : List ℕ → Production → List ℕ
after_production text production =
    if is_offset text production.span.end then after_own_action production.action (after_blanks (drop production.span.end text)) else []

-- whether a `|` follows a production directly, so that its rule has another one
abbrev pub goes_on : List ℕ → Production → Bool
goes_on text production = is_some (strip (codes "|") (after_production text production))

-- Whether a rule of these productions is open. It has none yet, or a `|` follows its last one, which is the last of all: otherwise another
-- rule may have been gone on with.
abbrev pub is_open : List ℕ → List Production → Rule → Bool
is_open text productions rule = option_map_or
    (λ index. option_map_or (λ production. (length productions - index == 1) && goes_on text production) (slice_get productions index) false)
    (slice_get rule.productions (length rule.productions - 1)) true

-- the name of the rule that no `;` ends: of the last rule, if it is open
abbrev pub open_rule : List ℕ → Syntax → Option Span
open_rule text syntax =
    option_and_then (λ (rule : List ℕ × Rule). if is_open text syntax.productions rule.1 then Some rule.1.name.span else None)
    (slice_get syntax.rules (length syntax.rules - 1))

-- the name of the rule that an error of this kind is about
abbrev pub cut_rule : List ℕ → Option Syntax → ErrorKind → Option Span
cut_rule text (Some syntax) IncompleteRule = open_rule text syntax
cut_rule text read kind = None
