-- The lines that list differences between the names in a text and the tokens of a grammar.
use Rattle.std.specs.Prelude.{ℕ, ◌==◌, not, List, [], ◌++◌, length, slice_get, slice_index_or, codes}
use Rattle.std.specs.List.{filter, flat_map}
use Rattle.std.specs.Option.{option_map_or}
use Rattle.std.specs.Str.Lines.{lines}
use Rattle.cfgrammar.specs.Numbered.{Numbered, NumberedToken}
use Rattle.lexcheck.specs.LexerNames.{missing_tokens, unknown_positions}
use Rattle.cfgrammar.specs.TokenNames.{token_names}
use Rattle.cfgtool.specs.TokenSets.{quoted}

-- The names that a text lists: its nonempty lines. Lines are separated by LFs, and a line that is ended by an LF drops a CR right before
-- that LF; what comes after the last LF keeps its CR.
abbrev pub names_in : List ℕ → List (List ℕ)
names_in text = filter (λ line. not (length line == 0)) (lines text)

-- `unknown "NAME"`
abbrev pub unknown_line : List ℕ → List ℕ
unknown_line name = codes "unknown" ++ (quoted name ++ codes "\n")

-- `missing "NAME"`; the end token has no name, and no line
abbrev pub missing_line : NumberedToken → List ℕ
missing_line token = option_map_or (λ name. codes "missing" ++ (quoted name ++ codes "\n")) token.name []

abbrev pub unknown_line_at : List (List ℕ) → ℕ → List ℕ
unknown_line_at names position = unknown_line (slice_index_or names position [])

abbrev pub missing_line_of : Numbered → ℕ → List ℕ
missing_line_of g t = option_map_or missing_line (slice_get g.tokens t) []

-- a line for each occurrence of a name that no token has, and then one for each token whose name isn't listed
abbrev pub lexer_lines : Numbered → List (List ℕ) → List ℕ
lexer_lines g names = flat_map (unknown_line_at names) (unknown_positions (token_names g) names) ++ flat_map (missing_line_of g) (missing_tokens (token_names g) names)
