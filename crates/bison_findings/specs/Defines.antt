-- Misspelled variables of `%define` and values of theirs, in Bison's files.
use Rattle.std.specs.Prelude.{◌≡◌, ℕ, Bool, true, false, List, [], ◌∷◌, ◌++◌, codes, drop, Option, None, Some, option_map, if◌then◌else◌}
use Rattle.std.specs.List.{list_any}
use Rattle.std.specs.Option.{option_and_then}
use Rattle.std.specs.Str.{bytes_eq}
use Rattle.cfgrammar.specs.Span.{Span}
use Rattle.bison_words.specs.declared.directive.Directive.TheVariants.{Define}
use Rattle.bison_words.specs.Words.{Directed, Identifier, Lexeme, Word}
use Rattle.cfgnear.specs.Nearest.{nearest}
use Rattle.finding_kinds.specs.declared.finding_kind.FindingKind.TheVariants.{MisspelledDefine}
use Rattle.text_findings.specs.Finding.{ShownFinding}

-- the variables that Bison 3.8 knows
unfoldable pub variables : List (List ℕ)
variables = codes "api.filename.type" ∷ codes "api.header.include" ∷ codes "api.location.file" ∷ codes "api.location.include"
    ∷ codes "api.location.type" ∷ codes "api.namespace" ∷ codes "api.package" ∷ codes "api.parser.abstract" ∷ codes "api.parser.annotations"
    ∷ codes "api.parser.class" ∷ codes "api.parser.extends" ∷ codes "api.parser.final" ∷ codes "api.parser.implements"
    ∷ codes "api.parser.public" ∷ codes "api.parser.strictfp" ∷ codes "api.position.file" ∷ codes "api.position.type" ∷ codes "api.prefix"
    ∷ codes "api.pure" ∷ codes "api.push-pull" ∷ codes "api.symbol.prefix" ∷ codes "api.token.constructor" ∷ codes "api.token.prefix"
    ∷ codes "api.token.raw" ∷ codes "api.value.automove" ∷ codes "api.value.type" ∷ codes "api.value.union.name"
    ∷ codes "lr.default-reduction" ∷ codes "lr.default-reductions" ∷ codes "lr.keep-unreachable-state" ∷ codes "lr.keep-unreachable-states"
    ∷ codes "lr.type" ∷ codes "parse.assert" ∷ codes "parse.error" ∷ codes "parse.lac" ∷ codes "parse.lac.es-capacity-initial"
    ∷ codes "parse.lac.memory-trace" ∷ codes "parse.trace" ∷ []

-- the values of a variable, if they are words
unfoldable pub values_of : List ℕ → List (List ℕ)
values_of variable =
    if bytes_eq variable (codes "parse.error") then codes "custom" ∷ codes "detailed" ∷ codes "simple" ∷ codes "verbose" ∷ []
    else if bytes_eq variable (codes "parse.lac") then codes "none" ∷ codes "full" ∷ []
    else if bytes_eq variable (codes "lr.type") then codes "lalr" ∷ codes "ielr" ∷ codes "canonical-lr" ∷ []
    else if bytes_eq variable (codes "lr.default-reduction") then codes "most" ∷ codes "consistent" ∷ codes "accepting" ∷ []
    else if bytes_eq variable (codes "api.push-pull") then codes "pull" ∷ codes "push" ∷ codes "both" ∷ []
    else if bytes_eq variable (codes "api.value.type") then codes "union" ∷ codes "union-directive" ∷ codes "variant" ∷ []
    else []

-- that a word is none of those that may be here, but near to one
abbrev pub misspelled_word : List ℕ → Span → List ℕ → ShownFinding
misspelled_word word span other = record {
  kind = MisspelledDefine;
  spans = span ∷ [];
  text = codes "Misspelled %define: '" ++ (word ++ codes "' is unknown");
  hint = Some (codes "did you mean '" ++ (other ++ codes "'?"));
}

abbrev pub is_among : List (List ℕ) → List ℕ → Bool
is_among names word = list_any (bytes_eq word) names

-- the finding about a word, if it is none of these names, but near to one
abbrev pub misspelled_among : List (List ℕ) → List ℕ × Span → Option ShownFinding
misspelled_among names (word, span) = if is_among names word then None else option_map (misspelled_word word span) (nearest word names)

-- an identifier's name, and its span
abbrev pub identifier_in : Lexeme → Span → Option (List ℕ × Span)
identifier_in (Identifier name) span = Some (name, span)
identifier_in _ span = None

abbrev pub identifier_of : Word → Option (List ℕ × Span)
identifier_of word = identifier_in word.lexeme word.span

abbrev pub is_define_in : Lexeme → Bool
is_define_in (Directed Define) = true
is_define_in _ = false

abbrev pub is_define : Word → Bool
is_define word = is_define_in word.lexeme

-- the finding about the value of a variable with which the words begin
abbrev pub misspelled_value : List ℕ → List Word → Option ShownFinding
misspelled_value variable [] = None
misspelled_value variable (value ∷ rest) = option_and_then (misspelled_among (values_of variable)) (identifier_of value)

-- the finding about a variable, or if that is known, about its value in the words after it
abbrev pub misspelled_variable : List Word → List ℕ × Span → Option ShownFinding
misspelled_variable rest (name, span) = if is_among variables name then misspelled_value name rest else misspelled_among variables (name, span)

-- the finding about a `%define` with which the words begin
abbrev pub misspelled : List Word → Option ShownFinding
misspelled [] = None
misspelled (define ∷ []) = None
misspelled (define ∷ variable ∷ rest) = if is_define define then option_and_then (misspelled_variable rest) (identifier_of variable) else None

-- the n-th word is a `%define` with a misspelled variable or value
abbrev pub ReportsMisspelledDefine : List Word → ℕ → Option ShownFinding → Type 0
ReportsMisspelledDefine words n found = found ≡ misspelled (drop n words)
