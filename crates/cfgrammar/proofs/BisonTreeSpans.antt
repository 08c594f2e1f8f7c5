-- Each span of the tree of a text is a piece of the text.
use Rattle.std.proofs.Common.{ℕ, ◌<◌, ◌≤◌, ◌⊎◌, inl, inr, Bool, true, false, ◌&&◌, not, List, [], ◌∷◌, max, filter_map, slice_get, get_or, All, Option, Some, None, if◌then◌else◌, subst, arith}
use Rattle.std.specs.Prelude.{IfSome}
use Rattle.std.specs.Option.{option_map_or}
use Rattle.std.specs.Str.{IsUtf8, IsCharBoundary, bytes_eq}
use Rattle.std.proofs.lemmas.Bool.{cases_lt}
use Rattle.std.proofs.lemmas.List.Elements.{All-nil, All-cons, All-append, All-map}
use Rattle.std.proofs.lemmas.Str.{IsCharBoundary-start}
use Rattle.lemmas.proofs.Options.{All-slice_get, All-filter_map}
use Rattle.cfgbase.specs.declared.span.Span.{Span}
use Rattle.cfgwords.specs.FileWords.{Token}
use Rattle.cfgwords.specs.TextSpans.{IsPiece, IsWithin}
use Rattle.cfgitems.specs.Building.{has_name}
use Rattle.cfgitems.specs.Items as tree
use Rattle.bison_words.specs.Words.{Lexeme, Word, Code, End}
use Rattle.bison_words.specs.WordSpans.{IsLexemeAt, IsWordAt}
use Rattle.bison_reader.specs.Items.{Item, Production, TokenGiven, AliasGiven, PrecedenceGiven, LevelEnded, HeadRead, ProductionRead}
use Rattle.bison_reader.specs.declared.item.Part.{Part}
use Rattle.bison_tree.specs.declared.piece.Piece.{Piece}
use Rattle.bison_tree.specs.declared.piece.Piece.TheVariants.{Symbol, Inner}
use Rattle.bison_tree.specs.Names.{name_at, names_of}
use Rattle.bison_tree.specs.Tokens.{lexeme_at, nowhere, span_at, token_names, tokens_of}
use Rattle.bison_tree.specs.Productions.{action_of, code_at, code_in, code_of, end_after, inner_production, is_code, is_followed, pieces_after, precedence_of, precedences_of, production_items, span_of, symbol_of, word_at}
use Rattle.bison_tree.specs.Tree.{counts_items, expected_unused, first_start, inners_with, is_unneeded, last_expected, listed, named_rule, printed_form, programs_items, rule_in, rules_items, said, said_after, text_in, token_quoted, tree_items}
use Rattle.cfgrammar.proofs.BisonItemSpans.{EachItemSpan}

module _ (text : List ℕ) (words : List Word) (utf8 : IsUtf8 text) (each : All (IsWordAt text) words) where
  abbrev IsItemAt : tree.Item → Type 0
  IsItemAt = EachItemSpan (IsPiece text) (IsWithin text)

  -- of the word of a number, if there is one
  at_word : (P : Option Word → Type 0) → P None → ((word : Word) → IsWordAt text word → P (Some word)) → (i : ℕ) → P (slice_get words i)
  at_word P none some i = go (slice_get words i) (All-slice_get (IsWordAt text) words i each)
    where
      go : (o : Option Word) → IfSome o (IsWordAt text) → P o
      go None h = none
      go (Some word) h = some word h

  empty_at : (offset : ℕ) → IsCharBoundary text offset → IsPiece text (record { start = offset; end = offset })
  empty_at offset boundary = record { ordered = omega arith; begins_at = boundary; ends_at = boundary }

  pub nowhere_at : IsPiece text nowhere
  nowhere_at = empty_at 0 (IsCharBoundary-start text utf8)

  pub word_span : (i : ℕ) → IsPiece text (span_at words i)
  word_span = at_word (λ o. IsPiece text (option_map_or (λ word. word.span) o nowhere)) nowhere_at (λ word h. h.piece)

  -- of code alone
  lexeme_span : (span : Span) (lexeme : Lexeme) → IsLexemeAt text span lexeme → IfSome (code_in lexeme) (λ code. IsWithin text code.1)
  lexeme_span span (Code code within) h = h
  lexeme_span span _ h = tt

  code_span : (i : ℕ) → IfSome (code_at words i) (λ code. IsWithin text code.1)
  code_span = at_word (λ o. IfSome (code_in (option_map_or (λ word. word.lexeme) o End)) (λ code. IsWithin text code.1)) tt (λ word h. lexeme_span word.span word.lexeme h.lexeme)

  action_span : (action : Option ℕ) → IfSome (code_of words action) (λ code. IsWithin text code.1)
  action_span (Some word) = code_span word
  action_span None = tt

  -- a production goes from where it starts to the end of a word
  record EndsAfter (start end : ℕ) : Type 0 where
    ordered : start ≤ end
    boundary : IsCharBoundary text end

  later : (start a b : ℕ) → EndsAfter start a → IsCharBoundary text b → EndsAfter start (max a b)
  later start a b ends boundary = record { ordered = omega (arith, ends.ordered); boundary = go (cases_lt a b) }
    where
      go : (a < b) ⊎ (b ≤ a) → IsCharBoundary text (max a b)
      go (inl less) = subst (IsCharBoundary text) (omega arith) boundary
      go (inr more) = subst (IsCharBoundary text) (omega arith) ends.boundary

  parts_end : (start end : ℕ) (parts : List Part) → EndsAfter start end → EndsAfter start (end_after words end parts)
  parts_end start end [] ends = ends
  parts_end start end (part ∷ rest) ends =
      go (is_code part.kind && not (is_followed rest)) (parts_end start end rest ends)
      (parts_end start (max end word_end) rest (later start end word_end ends (word_span part.last).ends_at))
    where
      word_end : ℕ
      word_end = (span_at words part.last).end

      go : (b : Bool) → EndsAfter start (end_after words end rest) → EndsAfter start (end_after words (max end word_end) rest)
          → EndsAfter start (if b then end_after words end rest else end_after words (max end word_end) rest)
      go true without with = without
      go false without with = with

  production_span : (production : Production) → IsPiece text (span_of words production)
  production_span production =
      let start = (span_at words production.start).start in
      let begins = (word_span production.start).begins_at in
      let ends = parts_end start start production.parts (record { ordered = omega arith; boundary = begins }) in
      record { ordered = ends.ordered; begins_at = begins; ends_at = ends.boundary }

  inner_at : (piece : Piece) → IfSome (inner_production words piece) IsItemAt
  inner_at (Symbol word) = tt
  inner_at (Inner code number) = (
    word_span code,
    All-nil (λ (token : Token). IsPiece text token.span),
    All-nil (λ (token : Token). IsPiece text token.span),
    code_span code,
    empty_at (span_at words code).start (word_span code).begins_at,
  )

  module _ (names : List (List ℕ)) where
    precedences_at : (word : Option ℕ) → All (λ token. IsPiece text token.span) (precedences_of words names word)
    precedences_at None = All-nil (λ (token : Token). IsPiece text token.span)
    precedences_at (Some word) = All-cons (λ (token : Token). IsPiece text token.span) _ [] (word_span word) (All-nil (λ (token : Token). IsPiece text token.span))

    one_at : (item : tree.Item) → IsItemAt item → All IsItemAt (item ∷ [])
    one_at item here = All-cons IsItemAt item [] here (All-nil IsItemAt)

    -- of what there may be
    listed_at : (f : ℕ → tree.Item) → ((n : ℕ) → IsItemAt (f n)) → (o : Option ℕ) → All IsItemAt (listed f o)
    listed_at f here None = All-nil IsItemAt
    listed_at f here (Some n) = one_at (f n) (here n)

    counts_at : (items : List Item) → All IsItemAt (counts_items words items)
    counts_at items = All-append IsItemAt _ _ (listed_at _ word_span (last_expected items).0) (listed_at _ word_span (last_expected items).1)

    one_at_if : (holds : Bool) (item : tree.Item) → IsItemAt item → All IsItemAt (if holds then item ∷ [] else [])
    one_at_if true item here = one_at item here
    one_at_if false item here = All-nil IsItemAt

    printed_form_at : (token string : ℕ) → All IsItemAt (printed_form words names token string)
    printed_form_at token string = one_at_if (bytes_eq (name_at names token) (name_at names string))
        (tree.PrintedFormDeclared (word_at words names token) (text_in (lexeme_at words string), span_at words string)) (word_span token, word_span string)

    unused_at : (symbol : ℕ) → All IsItemAt (expected_unused words names symbol)
    unused_at symbol = one_at_if (is_unneeded words names symbol)
        (tree.ExpectedUnused (tree.TokenSymbol (word_at words names symbol))) (word_span symbol)

    module _ (is_token : List ℕ → Bool) where
      symbol_at : (piece : Piece) → IsPiece text (symbol_of words names is_token piece).span
      symbol_at (Symbol word) = word_span word
      symbol_at (Inner code number) = word_span code

      production_at : (n : ℕ) (production : Production) → All IsItemAt (production_items words names is_token n production)
      production_at n production =
          let pieces = pieces_after n production.parts in
          All-append IsItemAt _ _ (All-filter_map IsItemAt (inner_production words) pieces (λ k d h. inner_at (get_or pieces k d)))
          (one_at _ (
            word_span production.rule,
            All-map (λ (token : Token). IsPiece text token.span) (symbol_of words names is_token) pieces (λ k d h. symbol_at (get_or pieces k d)),
            precedences_at (precedence_of production.parts),
            action_span (action_of production.parts),
            production_span production,
          ))

      said_at : (n : ℕ) (item : Item) → All IsItemAt (said words names is_token n item)
      said_at n (TokenGiven symbol) = All-cons IsItemAt _ (expected_unused words names symbol) (word_span symbol) (unused_at symbol)
      said_at n (AliasGiven token string) = printed_form_at token string
      said_at n (PrecedenceGiven associativity symbol) = All-cons IsItemAt _ (expected_unused words names symbol) (word_span symbol) (unused_at symbol)
      said_at n (LevelEnded associativity) = one_at _ tt
      said_at n (HeadRead symbol) =
          All-cons IsItemAt (tree.RuleBegun (word_at words names symbol)) (named_rule words names symbol ∷ []) (word_span symbol)
          (one_at (named_rule words names symbol) (word_span symbol))
      said_at n (ProductionRead production) = production_at n production
      said_at n _ = All-nil IsItemAt

      said_after_at : (n : ℕ) (items : List Item) → All IsItemAt (said_after words names is_token n items)
      said_after_at n [] = All-nil IsItemAt
      said_after_at n (item ∷ items) = All-append IsItemAt _ _ (said_at n item) (said_after_at (inners_with n item) items)

      rules_at : (items : List Item) → All IsItemAt (rules_items words names is_token items)
      rules_at items = All-append IsItemAt _ _ (listed_at _ word_span (first_start items))
          (All-append IsItemAt _ _ (said_after_at 0 items)
          (All-append IsItemAt _ _ (All-map IsItemAt (named_rule words names) (filter_map rule_in items) (λ k d h. word_span _))
          (counts_at items)))

  pub tree_items_at : (items : List Item) (programs : Option (List ℕ)) → All IsItemAt (tree_items words items programs)
  unfolding tree_items
  tree_items_at items programs =
      let names = names_of words items in
      let tokens = tokens_of words items in
      All-append IsItemAt _ _ (All-map IsItemAt (token_quoted words names) tokens (λ k d h. word_span _))
      (All-append IsItemAt _ _ (rules_at names (λ name. has_name name (token_names names tokens)) items) (programs_at programs))
    where
      programs_at : (programs : Option (List ℕ)) → All IsItemAt (programs_items programs)
      programs_at None = All-nil IsItemAt
      programs_at (Some text) = one_at [] _ tt
