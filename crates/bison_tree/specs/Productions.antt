-- What the parts of a production become.
use Rattle.std.specs.Prelude.{ℕ, Bool, true, false, List, [], ◌∷◌, ◌++◌, ◌+◌, ◌&&◌, not, max, map, fold, filter_map, codes, Option, Some, None, if◌then◌else◌}
use Rattle.std.specs.List.{list_any}
use Rattle.std.specs.Fmt.{digits}
use Rattle.cfgbase.specs.declared.span.Span.{Span}
use Rattle.cfgwords.specs.FileWords as file
use Rattle.cfgitems.specs.Items.{Item, RuleHead, Body, Alternative}
use Rattle.bison_words.specs.Words.{Lexeme, Word, Code}
use Rattle.bison_reader.specs.Items.{Production}
use Rattle.bison_reader.specs.declared.item.Part.{Part}
use Rattle.bison_reader.specs.declared.item.PartKind.{PartKind}
use Rattle.bison_reader.specs.declared.item.PartKind.TheVariants as parts
use Rattle.bison_tree.specs.declared.piece.Piece.{Piece}
use Rattle.bison_tree.specs.declared.piece.Piece.TheVariants.{Symbol, Inner}
use Rattle.bison_tree.specs.Names.{name_at}
use Rattle.bison_tree.specs.Tokens.{lexeme_at, span_at}

abbrev pub is_code : PartKind → Bool
is_code parts.Action = true
is_code parts.Predicate = true
is_code _ = false

-- whether code before this part isn't at the end of its production
abbrev pub ends_code : PartKind → Bool
ends_code parts.Symbol = true
ends_code parts.Action = true
ends_code parts.Predicate = true
ends_code _ = false

abbrev pub is_followed : List Part → Bool
is_followed rest = list_any (λ part. ends_code part.kind) rest

abbrev pub is_symbol : PartKind → Bool
is_symbol parts.Symbol = true
is_symbol _ = false

-- The symbols of a production, if n actions inside of productions precede it. Code that isn't at the end is a rule of its own.
abbrev pub pieces_after : ℕ → List Part → List Piece
pieces_after n [] = []
pieces_after n (part ∷ rest) =
    if is_code part.kind && is_followed rest then Inner part.word (n + 1) ∷ pieces_after (n + 1) rest
    else if is_symbol part.kind then Symbol part.word ∷ pieces_after n rest
    else pieces_after n rest

-- how many actions inside of productions there are, with those of more parts
abbrev pub inners_after : ℕ → List Part → ℕ
inners_after n [] = n
inners_after n (part ∷ rest) = if is_code part.kind && is_followed rest then inners_after (n + 1) rest else inners_after n rest

-- the action at the end of a production: one that no symbol and no code follows
abbrev pub with_kind : Option ℕ → PartKind → ℕ → Option ℕ
with_kind action parts.Symbol word = None
with_kind action parts.Action word = Some word
with_kind action parts.Predicate word = None
with_kind action _ word = action

abbrev pub action_of : List Part → Option ℕ
action_of parts = fold (λ action part. with_kind action part.kind part.word) None parts

abbrev pub is_precedence : PartKind → Bool
is_precedence parts.Precedence = true
is_precedence _ = false

-- the symbol of the first `%prec`
abbrev pub precedence_of : List Part → Option ℕ
precedence_of [] = None
precedence_of (part ∷ rest) = if is_precedence part.kind then Some part.last else precedence_of rest

-- the name of an action's rule, by the action's number among those inside of productions
abbrev pub inner_name : ℕ → List ℕ
inner_name number = codes "$@" ++ digits 10 false number

-- the text and the span of code
abbrev pub code_in : Lexeme → Option (List ℕ × Span)
code_in (Code text span) = Some (text, span)
code_in _ = None

-- words are those of the file, names theirs, and is_token says which names are those of tokens
module _ (words : List Word) where
  -- where the last of the parts ends, but code at the end, and start at least
  abbrev pub end_after : ℕ → List Part → ℕ
  end_after end [] = end
  end_after end (part ∷ rest) =
      if is_code part.kind && not (is_followed rest) then end_after end rest else end_after (max end (span_at words part.last).end) rest

  abbrev pub span_of : Production → Span
  span_of production = let start = (span_at words production.start).start in record { start = start; end = end_after start production.parts }

  abbrev pub code_at : ℕ → Option (List ℕ × Span)
  code_at word = code_in (lexeme_at words word)

  abbrev pub code_of : Option ℕ → Option (List ℕ × Span)
  code_of (Some word) = code_at word
  code_of None = None

  abbrev pub inner_head : ℕ → ℕ → RuleHead
  inner_head code number = record { name = record { name = inner_name number; span = span_at words code }; action_type = None }

  -- the empty production of an action's rule
  abbrev pub inner_body : ℕ → Body
  inner_body code = let start = (span_at words code).start in
      record { symbols = []; precedences = []; action = code_at code; span = record { start = start; end = start } }

  abbrev pub inner_production : Piece → Option Item
  inner_production (Symbol word) = None
  inner_production (Inner code number) = Some (Alternative (inner_head code number) (inner_body code))

  module _ (names : List (List ℕ)) where
    abbrev pub word_at : ℕ → file.Word
    word_at word = record { name = name_at names word; span = span_at words word }

    abbrev pub head_at : ℕ → RuleHead
    head_at word = record { name = word_at word; action_type = None }

    abbrev pub token_at : Bool → ℕ → file.Token
    token_at quoted word = record { name = name_at names word; span = span_at words word; quoted = quoted; end = (span_at words word).end }

    abbrev pub precedences_of : Option ℕ → List file.Token
    precedences_of None = []
    precedences_of (Some word) = token_at true word ∷ []

    module _ (is_token : List ℕ → Bool) where
      abbrev pub symbol_of : Piece → file.Token
      symbol_of (Symbol word) = token_at (is_token (name_at names word)) word
      symbol_of (Inner code number) =
          record { name = inner_name number; span = span_at words code; quoted = false; end = (span_at words code).end }

      abbrev pub body_of : List Piece → Production → Body
      body_of pieces production = record {
        symbols = map symbol_of pieces;
        precedences = precedences_of (precedence_of production.parts);
        action = code_of (action_of production.parts);
        span = span_of production;
      }

      -- the rules of a production's actions, and the production, if n actions inside of productions precede it
      abbrev pub production_items : ℕ → Production → List Item
      production_items n production = let pieces = pieces_after n production.parts in
          filter_map inner_production pieces ++ Alternative (head_at production.rule) (body_of pieces production) ∷ []
