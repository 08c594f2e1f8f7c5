-- What the note on an unknown name says: which name of the file is probably meant, or how the name would become known.
use Rattle.std.specs.Prelude.{ℕ, List, [], ◌++◌, codes, map, Option, Some, None, if◌then◌else◌, unwrap_or}
use Rattle.std.specs.List.{list_any}
use Rattle.std.specs.Option.{option_map, option_map_or}
use Rattle.std.specs.Str.{bytes_eq}
use Rattle.cfgnear.specs.Nearest.{nearest}
use Rattle.cfgrammar.specs.Errors.{ErrorKind, InvalidStartRule, NoPrecForToken, UnknownRuleRef, UnknownToken, UnknownEPP}
use Rattle.cfgrammar.specs.Syntax.{Syntax, entry_name}

-- names of a file: of its rules, and then of its tokens; and of the tokens that have a precedence
pub record Names : Type 0 where
  pub symbols : List (List ℕ)
  pub precedences : List (List ℕ)

-- in the file's order
abbrev pub names_of : Syntax → Names
names_of syntax = record {
  symbols = map (λ rule. rule.0) syntax.rules ++ syntax.tokens;
  precedences = map entry_name syntax.tables.precedences;
}

abbrev pub no_names : Names
no_names = record { symbols = []; precedences = [] }

abbrev pub question : List ℕ → List ℕ
question name = codes "did you mean '" ++ (name ++ codes "'?")

-- the question whether the nearest of these names is meant, if one is near
abbrev pub question_of : List (List ℕ) → List ℕ → Option (List ℕ)
question_of names name = option_map question (nearest name names)

-- the note on an unknown rule: other Yaccs take each name that has a precedence for a token
abbrev pub rule_note : Names → List ℕ → List ℕ
rule_note names name = if list_any (bytes_eq name) names.precedences
    then codes "%left, %right and %nonassoc declare no token: declare it by %token too"
    else unwrap_or (question_of names.symbols name) (codes "if it is a token, declare it by %token")

-- the note on a token without a precedence
abbrev pub precedence_note : Names → List ℕ → List ℕ
precedence_note names name = codes "no %left, %right or %nonassoc names it"
    ++ option_map_or (λ words. codes ": " ++ words) (question_of names.precedences name) []

-- the note on an error of this kind, if it has an unknown name
abbrev pub suggestion : Names → ErrorKind → Option (List ℕ)
suggestion names (InvalidStartRule name) = question_of names.symbols name
suggestion names (UnknownToken name) = question_of names.symbols name
suggestion names (UnknownEPP name) = question_of names.symbols name
suggestion names (UnknownRuleRef name) = Some (rule_note names name)
suggestion names (NoPrecForToken name) = Some (precedence_note names name)
suggestion names _ = None

-- of how many errors the unknown names are looked up
unfoldable pub most_suggestions : ℕ
most_suggestions = 20
