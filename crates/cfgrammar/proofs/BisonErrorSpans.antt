-- Each span of an error is a piece of the text.
use Rattle.std.proofs.Common.{◌≡◌, ℕ, Bool, true, false, ◌==◌, ◌&&◌, List, [], ◌∷◌, ◌++◌, length, slice_get, get_or, position, All, Option, Some, None, if◌then◌else◌, refl, sym, subst, append_assoc}
use Rattle.std.specs.Prelude.{IfSome}
use Rattle.std.specs.Map.{lookup}
use Rattle.std.specs.Option.{option_map_or, unwrap_or}
use Rattle.std.specs.Str.{IsUtf8, bytes_eq}
use Rattle.std.proofs.lemmas.List.Elements.{All-nil, All-cons, All-append, All-head, All-map, All-tail}
use Rattle.std.proofs.lemmas.Map.Entries.{All-lookup}
use Rattle.std.proofs.lemmas.Option.{unwrap_or-slice_get}
use Rattle.lemmas.proofs.Options.{All-slice_get, All-filter_map}
use Rattle.cfgbase.specs.declared.span.Span.{Span}
use Rattle.cfgwords.specs.FileWords as file
use Rattle.cfgwords.specs.TextSpans.{IsPiece, IsWithin}
use Rattle.cfgitems.specs.Building.{has_name, has_rule}
use Rattle.cfgitems.specs.Occurrences.{Occurrence}
use Rattle.cfgitems.specs.Syntax.{EachSpan, Rule, Symbol, Syntax, symbol_word}
use Rattle.cfgitems.specs.declared.occurrence.UniqueKind.{UniqueKind}
use Rattle.cfgitems.specs.declared.occurrence.UniqueKind.TheVariants as unique
use Rattle.cfgitems.specs.declared.precedence.Precedence.{Precedence}
use Rattle.cfgitems.proofs.Keeps.{All-flat_map}
use Rattle.bison_words.specs.declared.words.WordFault.{WordFault}
use Rattle.bison_words.specs.Words.{Word}
use Rattle.bison_words.specs.WordSpans.{IsWordAt}
use Rattle.bison_reader.specs.Items.{Item, Unexpected, RefusedForRules, StartNamed, ProductionRead}
use Rattle.bison_reader.specs.declared.item.Part.{Part}
use Rattle.bison_errors.specs.declared.error.Error.{Error}
use Rattle.bison_errors.specs.declared.error.ErrorKind.{ErrorKind}
use Rattle.bison_errors.specs.declared.error.ErrorKind.TheVariants as kinds
use Rattle.bison_errors.specs.Errors.{declaration_errors, error_at, error_beside, fault_error, first_empty, given_error, has_symbol, is_fault, is_priority, is_unknown, item_errors, mark_error, missing_errors, name_errors, none_yet, noted, occurrence_error, parts_errors, precedence_error, priority_error, repeat_error, rule_error, span_of_token, start_error, start_errors, symbols_of, text_errors, tree_errors, unexpected_error, unknown_after, unknown_error, with_noted}
use Rattle.bison_tree.specs.Names.{name_at, with_one}
use Rattle.bison_tree.specs.Tokens.{lexeme_at, nowhere, span_at}
use Rattle.bison_tree.specs.Tree.{first_start, number_in}
use Rattle.cfgrammar.specs.BisonErrorPlaces.{IsErrorAt}
use Rattle.cfgrammar.proofs.BisonTreeSpans.{nowhere_at, word_span}

module _ (text : List ℕ) (words : List Word) (utf8 : IsUtf8 text) (each : All (IsWordAt text) words) where
  abbrev AreAt : List Error → Type 0
  AreAt errors = All (IsErrorAt text) errors

  none_at : AreAt []
  none_at = All-nil (IsErrorAt text)

  one_at : (kind : ErrorKind) (span : Span) → IsPiece text span → AreAt (error_at kind span ∷ [])
  one_at kind span here = All-cons (IsErrorAt text) (error_at kind span) [] (record { piece = here; beside = tt }) none_at

  two_at : (kind : ErrorKind) (span other : Span) → IsPiece text span → IsPiece text other → AreAt (error_beside kind span other ∷ [])
  two_at kind span other here there = All-cons (IsErrorAt text) (error_beside kind span other) [] (record { piece = here; beside = there }) none_at

  unless_at : (b : Bool) (errors : List Error) → AreAt errors → AreAt (if b then [] else errors)
  unless_at true errors all = none_at
  unless_at false errors all = all

  when_at : (b : Bool) (errors : List Error) → AreAt errors → AreAt (if b then errors else [])
  when_at true errors all = all
  when_at false errors all = none_at

  at : (i : ℕ) → IsPiece text (span_at words i)
  at = word_span text words utf8 each

  unexpected_at : (word : ℕ) (kind : ErrorKind) → AreAt (unexpected_error words word kind)
  unexpected_at word kind = unless_at (is_fault (lexeme_at words word)) _ (one_at kind _ (at word))

  repeat_at : (first : Option ℕ) (part : Part) → AreAt (repeat_error words first part)
  repeat_at None part = none_at
  repeat_at (Some first) part = two_at kinds.RepeatedInProduction _ _ (at part.word) (at first)

  priority_at : (part : Part) → AreAt (priority_error words part)
  priority_at part = when_at (is_priority part.kind && number_in (lexeme_at words part.last) == 0) _ (one_at kinds.IllegalPriority _ (at part.last))

  -- of what each part adds, given what the parts before it noted
  noted_at : {A : Type 0} (errors : A → List Part → List Error) (said : A → Part → List Error) (next : A → Part → A) → ((a : A) → errors a [] ≡ [])
      → ((a : A) (part : Part) (rest : List Part) → errors a (part ∷ rest) ≡ said a part ++ errors (next a part) rest) → ((a : A) (part : Part) → AreAt (said a part))
      → (a : A) (parts : List Part) → AreAt (errors a parts)
  noted_at errors said next none more here a [] = subst AreAt (sym (none a)) none_at
  noted_at errors said next none more here a (part ∷ rest) =
      subst AreAt (sym (more a part rest)) (All-append (IsErrorAt text) _ _ (here a part) (noted_at errors said next none more here (next a part) rest))

  parts_at : (parts : List Part) → AreAt (parts_errors words none_yet parts)
  parts_at =
      noted_at (parts_errors words) (λ once part. priority_error words part ++ repeat_error words (noted once part.kind) part) (λ once part. with_noted once part.kind part.word)
      (λ once. refl) (λ once part rest. sym (append_assoc (priority_error words part) (repeat_error words (noted once part.kind) part) _))
      (λ once part. All-append (IsErrorAt text) _ _ (priority_at part) (repeat_at (noted once part.kind) part)) none_yet

  mark_at : (word : Option ℕ) → AreAt (mark_error words word)
  mark_at None = none_at
  mark_at (Some word) = one_at kinds.NonEmptyProduction _ (at word)

  item_at : (item : Item) → AreAt (item_errors words item)
  item_at (Unexpected word expected) = unexpected_at word (kinds.Unexpected expected)
  item_at (ProductionRead production) =
      All-append (IsErrorAt text) _ _ (parts_at production.parts) (when_at (has_symbol production.parts) _ (mark_at (first_empty production.parts)))
  item_at _ = none_at

  pub text_errors_at : (faults : List WordFault) (items : List Item) → All (λ fault. IsPiece text fault.span) faults → AreAt (text_errors words faults items)
  text_errors_at faults items faults_at =
      All-append (IsErrorAt text) _ _
      (All-map (IsErrorAt text) fault_error faults (λ k d h. record { piece = faults_at k d h; beside = tt }))
      (All-flat_map (IsErrorAt text) (item_errors words) items (λ k d h. item_at (get_or items k d)))

  module _ (names : List (List ℕ)) where
    start_at : (first : Option ℕ) (word : ℕ) → AreAt (start_error words names first word)
    start_at None word = none_at
    start_at (Some first) word = unless_at (bytes_eq (name_at names first) (name_at names word)) _ (two_at kinds.SeveralStarts _ _ (at word) (at first))

    declaration_at : (first : Option ℕ) (item : Item) → AreAt (declaration_errors words names first item)
    declaration_at first (RefusedForRules word) = one_at kinds.NotForRules _ (at word)
    declaration_at first (StartNamed word) = start_at first word
    declaration_at first _ = none_at

  module _ (s : Syntax) (spans : EachSpan (IsPiece text) (IsWithin text) s) where
    nowhere_here : IsPiece text nowhere
    nowhere_here = nowhere_at text words utf8 each

    token_at : (name : List ℕ) → IsPiece text (span_of_token s name)
    token_at name = go (position (bytes_eq name) s.tokens)
      where
        some_or : (o : Option Span) → IfSome o (IsPiece text) → IsPiece text (unwrap_or o nowhere)
        some_or None h = nowhere_here
        some_or (Some span) h = h

        go : (o : Option ℕ) → IsPiece text (option_map_or (λ i. get_or s.spans i nowhere) o nowhere)
        go None = nowhere_here
        go (Some i) = subst (IsPiece text) (unwrap_or-slice_get s.spans i nowhere) (some_or (slice_get s.spans i) (All-slice_get (IsPiece text) s.spans i spans.tokens))

    rule_at : (rule : List ℕ × Rule) → IsPiece text rule.1.name.span → IfSome (rule_error s rule) (IsErrorAt text)
    rule_at rule here = go (has_name rule.0 s.tokens)
      where
        go : (b : Bool) → IfSome (if b then Some (error_beside kinds.RuleIsToken rule.1.name.span (span_of_token s rule.0)) else None) (IsErrorAt text)
        go true = record { piece = here; beside = token_at rule.0 }
        go false = tt

    given_at : (span : Span) → IsPiece text span → (given : Option (Precedence × Span)) → IfSome given (λ given. IsPiece text given.1)
        → IfSome (given_error span given) (IsErrorAt text)
    given_at span here None there = tt
    given_at span here (Some first) there = go (first.1.start == span.start)
      where
        go : (b : Bool) → IfSome (if b then None else Some (error_beside kinds.DuplicatePrecedence span first.1)) (IsErrorAt text)
        go true = tt
        go false = record { piece = here; beside = there }

    declared_at : (kind : UniqueKind) (token : Option (List ℕ)) (span : Span) → IsPiece text span → IfSome (occurrence_error s kind token span) (IsErrorAt text)
    declared_at unique.Precedence (Some name) span here = given_at span here (lookup (bytes_eq name) s.tables.precedences)
        (All-lookup (λ (given : Precedence × Span). IsPiece text given.1) (bytes_eq name) s.tables.precedences spans.tables.precedences)
    declared_at _ _ span here = tt

    occurrence_at : (occurrence : Occurrence) → IsPiece text occurrence.span → IfSome (precedence_error s occurrence) (IsErrorAt text)
    occurrence_at occurrence here = declared_at occurrence.what.kind occurrence.what.token occurrence.span here

    abbrev IsSymbolAt : Symbol → Type 0
    IsSymbolAt symbol = IsPiece text (symbol_word symbol).span

    unknown_at : (known : List (List ℕ)) (symbols : List Symbol) → All IsSymbolAt symbols → AreAt (unknown_after s known symbols)
    unknown_at known [] all = none_at
    unknown_at known (symbol ∷ rest) all =
        go (is_unknown s known symbol) (unknown_at (with_one known (symbol_word symbol).name) rest after) (unknown_at known rest after)
      where
        after : All IsSymbolAt rest
        after = All-tail IsSymbolAt symbol rest all

        go : (b : Bool) → AreAt (unknown_after s (with_one known (symbol_word symbol).name) rest) → AreAt (unknown_after s known rest)
            → AreAt (if b then unknown_error symbol ∷ unknown_after s (with_one known (symbol_word symbol).name) rest else unknown_after s known rest)
        go true more same = All-cons (IsErrorAt text) (unknown_error symbol) _ (record { piece = All-head IsSymbolAt symbol rest all; beside = tt }) more
        go false more same = same

    started_at : (start : Option file.Word) → IfSome start (λ word. IsPiece text word.span) → AreAt (start_errors s start)
    started_at None here = one_at kinds.NoRule nowhere nowhere_here
    started_at (Some word) here =
        All-append (IsErrorAt text) _ _ (when_at (length s.productions == 0) _ (one_at kinds.NoRule nowhere nowhere_here))
        (unless_at (has_rule word.name s.rules) _ (one_at kinds.InvalidStart word.span here))

    missing_at : (is_whole : Bool) → AreAt (missing_errors is_whole s)
    missing_at true =
        All-append (IsErrorAt text) _ _
        (unknown_at [] (symbols_of s) (All-flat_map IsSymbolAt (λ production. production.symbols) s.productions (λ k d h. (spans.productions k d h).symbols)))
        (started_at s.start spans.start)
    missing_at false = none_at

    tree_at : AreAt (tree_errors s)
    tree_at =
        All-append (IsErrorAt text) _ _
        (All-filter_map (IsErrorAt text) (rule_error s) s.rules (λ k d h. rule_at (get_or s.rules k d) (spans.rules k d h)))
        (All-filter_map (IsErrorAt text) (precedence_error s) s.occurrences (λ k d h. occurrence_at (get_or s.occurrences k d) (spans.occurrences k d h)))

    pub name_errors_at : (is_whole : Bool) (names : List (List ℕ)) (items : List Item) → AreAt (name_errors is_whole words names items s)
    name_errors_at is_whole names items =
        All-append (IsErrorAt text) _ _
        (All-flat_map (IsErrorAt text) (declaration_errors words names (first_start items)) items (λ k d h. declaration_at names (first_start items) (get_or items k d)))
        (All-append (IsErrorAt text) _ _ tree_at (missing_at is_whole))
