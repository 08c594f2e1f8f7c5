-- The words of a syntax, by their numbers: names and where they are.
use Rattle.std.specs.Prelude.{ℕ, List, Option, length, option_map, slice_get}
use Rattle.std.specs.Option.{option_and_then}
use Rattle.cfgrammar.specs.FileWords.{Word}
use Rattle.cfgrammar.specs.Span.{Span}
use Rattle.cfgrammar.specs.Precedence.{Precedence}
use Rattle.cfgrammar.specs.Syntax.{Syntax}
use Rattle.text_findings.specs.declared.words.Words.{Words}
use Rattle.text_findings.specs.declared.words.Words.TheVariants.{Precedences, RepeatedTokens, Tokens}

-- the n-th token, where it first occurs
abbrev pub token_at : Syntax → ℕ → Option Word
token_at s n = option_and_then (λ name. option_map (λ span. record { name = name; span = span }) (slice_get s.spans n)) (slice_get s.tokens n)

-- the n-th token that is given a precedence, where it is first given one
abbrev pub precedence_word : List ℕ × (Precedence × Span) → Word
precedence_word entry = record { name = entry.0; span = entry.1.1 }

abbrev pub precedence_at : Syntax → ℕ → Option Word
precedence_at s n = option_map precedence_word (slice_get s.tables.precedences n)

-- how many words there are of each kind
abbrev pub word_count : Words → Syntax → ℕ
word_count Tokens s = length s.tokens
word_count Precedences s = length s.tables.precedences
word_count RepeatedTokens s = length s.repeated_tokens

-- the n-th word of the tokens, of those that are given a precedence, or of those that `%token` lists have again
abbrev pub word_at : Words → Syntax → ℕ → Option Word
word_at Tokens s n = token_at s n
word_at Precedences s n = precedence_at s n
word_at RepeatedTokens s n = slice_get s.repeated_tokens n
