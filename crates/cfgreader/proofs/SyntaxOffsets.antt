-- The spans of the syntax are those of the items that it is built from.
use Rattle.std.proofs.Common.{◌||◌, ℕ, ◌-◌, Bool, true, false, List, [], ◌∷◌, filter_map, length, All, Option, Some, None, option_map, if◌then◌else◌}
use Rattle.std.specs.Prelude.{IfSome}
use Rattle.std.proofs.lemmas.List.Elements.{All-map, All-nil, All-take, All-weaker}
use Rattle.lemmas.specs.Lists.{with_prefixes}
use Rattle.lemmas.proofs.Prefixes.{All-with_prefixes}
use Rattle.lemmas.proofs.Options.{All-slice_get, All-filter_map}
use Rattle.cfgbase.specs.declared.span.Span.{Span}
use Rattle.cfgwords.specs.FileWords.{Word, Token, word_of}
use Rattle.cfgitems.specs.declared.precedence.Precedence.{Precedence}
use Rattle.cfgitems.specs.Items.{Item, TokenDeclared, StartDeclared, ActionTypeDeclared, PrintedFormDeclared, ExpectDeclared, ExpectReduceReduceDeclared, ExpectedUnused, AvoidInsertBegun, AvoidInsertDeclared, ImplicitTokensBegun, ImplicitTokenDeclared, PrecedenceDeclared, RuleBegun, RuleNamed, TokenQuoted, PrecedenceUsed, Alternative}
use Rattle.cfgitems.specs.Occurrences.{declared_once}
use Rattle.cfgitems.specs.Syntax.{Production, RuleSymbol, TokenSymbol, EachProductionSpan, EachTableSpan, EachSpan, symbol_word, word_name, head_name, entry_name, word_entry, firsts, token_named, start_named, printed_form_declared, expected, expected_reduce_reduce, expected_unused, avoid_insert_said, implicit_tokens_said, precedence_declared, precedence_at, marked, rule_named, typed, typed_rule, symbol_of, finished, alternative, alternatives, declared_again, repeated_token, overridden, without_last, token_words, rule_heads, rule_of, settings_of, tables_of, syntax_of}
use Rattle.cfgitems.proofs.Keeps.{All-firsts, All-flat_map}
use Rattle.cfgwords.specs.TextSpans.{IsPiece, IsWithin}
use Rattle.cfgwords.proofs.WordOffsets.{IsWordAt}
use Rattle.cfgwords.proofs.NameStarts.{begins_as_name}
use Rattle.cfgreader.proofs.Kept.{IsNameAt, IsItemAt}

module _ (whole : List ℕ) where
  token_located : (item : Item) → IsItemAt whole item → IfSome (token_named item) (IsWordAt whole)
  token_located (TokenDeclared word) h = h
  token_located (AvoidInsertDeclared word) h = h
  token_located (ImplicitTokenDeclared word) h = h
  token_located (TokenQuoted word) h = h
  token_located (PrecedenceUsed word) h = h
  token_located _ h = tt

  start_located : (item : Item) → IsItemAt whole item → IfSome (start_named item) (IsWordAt whole)
  start_located (StartDeclared word) h = h
  start_located (RuleBegun word) h = h
  start_located _ h = tt

  expected_located : (item : Item) → IsItemAt whole item → IfSome (expected item) (λ number. IsPiece whole number.1)
  expected_located (ExpectDeclared number) h = h
  expected_located _ h = tt

  expected_reduce_reduce_located : (item : Item) → IsItemAt whole item → IfSome (expected_reduce_reduce item) (λ number. IsPiece whole number.1)
  expected_reduce_reduce_located (ExpectReduceReduceDeclared number) h = h
  expected_reduce_reduce_located _ h = tt

  unused_located : (item : Item) → IsItemAt whole item → IfSome (expected_unused item) (λ symbol. IsWordAt whole (symbol_word symbol))
  unused_located (ExpectedUnused symbol) h = h
  unused_located _ h = tt

  repeated_located : (is_declared : List ℕ → Bool) (item : Item) → IsItemAt whole item → IfSome (declared_again is_declared item) (IsWordAt whole)
  repeated_located is_declared (TokenDeclared word) h = go (is_declared word.name)
    where
      go : (b : Bool) → IfSome (if b then Some word else None) (IsWordAt whole)
      go true = h
      go false = tt
  repeated_located is_declared _ h = tt

  overridden_located : (item : Item) → IsItemAt whole item → All (IsWordAt whole) (overridden item)
  overridden_located (Alternative head body) h =
      All-map (IsWordAt whole) word_of (without_last body.precedences) (All-take (λ token. IsWordAt whole (word_of token)) (length body.precedences - 1) body.precedences h.2)
  overridden_located _ h = All-nil (IsWordAt whole)

  occurrence_located : (item : Item) → IsItemAt whole item → IfSome (declared_once item) (λ occurrence. IsPiece whole occurrence.span)
  occurrence_located (StartDeclared word) h = h
  occurrence_located (ActionTypeDeclared text) h = h
  occurrence_located (PrintedFormDeclared token form) h = h.0
  occurrence_located (ExpectDeclared number) h = h
  occurrence_located (ExpectReduceReduceDeclared number) h = h
  occurrence_located (AvoidInsertDeclared word) h = h
  occurrence_located (ImplicitTokenDeclared word) h = h
  occurrence_located (PrecedenceDeclared kind word) h = h
  occurrence_located _ h = tt

  -- a token's name and printed form, with their spans
  abbrev IsPrintedAt : List ℕ × (Span × (List ℕ × Span)) → Type 0
  IsPrintedAt entry = IsPiece whole entry.1.0 × IsPiece whole entry.1.1.1

  printed_located : (item : Item) → IsItemAt whole item → IfSome (printed_form_declared item) IsPrintedAt
  printed_located (PrintedFormDeclared token form) h = h
  printed_located _ h = tt

  avoid_insert_located : (item : Item) → IsItemAt whole item → IfSome (avoid_insert_said item) (λ said. IfSome said (IsWordAt whole))
  avoid_insert_located AvoidInsertBegun h = tt
  avoid_insert_located (AvoidInsertDeclared word) h = h
  avoid_insert_located _ h = tt

  implicit_located : (item : Item) → IsItemAt whole item → IfSome (implicit_tokens_said item) (λ said. IfSome said (IsWordAt whole))
  implicit_located ImplicitTokensBegun h = tt
  implicit_located (ImplicitTokenDeclared word) h = h
  implicit_located _ h = tt

  precedence_located : (level : ℕ) (item : Item) → IsItemAt whole item → IfSome (precedence_declared level item) (λ entry. IsPiece whole entry.1.1)
  precedence_located level (PrecedenceDeclared kind word) h = h
  precedence_located level _ h = tt

  -- of a rule with the type of its actions
  rule_located : (of_all : Option (List ℕ)) (item : Item) → IsItemAt whole item → IfSome (option_map (typed of_all) (rule_named item)) (λ head. IsNameAt whole head.name)
  rule_located of_all (RuleNamed head) h = h
  rule_located of_all (Alternative head body) h = h.0
  rule_located of_all _ h = tt

  symbol_located : (is_declared : List ℕ → Bool) (token : Token) → IsWordAt whole (word_of token) → IsWordAt whole (symbol_word (symbol_of is_declared token))
  symbol_located is_declared token h = go (token.quoted || is_declared token.name)
    where
      go : (b : Bool) → IsWordAt whole (symbol_word (if b then TokenSymbol (word_of token) else RuleSymbol (word_of token)))
      go true = h
      go false = h

  abbrev IsProductionAt : List ℕ × Production → Type 0
  IsProductionAt a = EachProductionSpan (IsPiece whole) (IsWithin whole) a.1

  production_located : (is_declared : List ℕ → Bool) (item : Item) → IsItemAt whole item → IfSome (finished is_declared item) IsProductionAt
  production_located is_declared (Alternative head body) h = record {
    itself = h.4;
    symbols = All-map (λ symbol. IsWordAt whole (symbol_word symbol)) (symbol_of is_declared) body.symbols
        (All-weaker (λ token. IsWordAt whole (word_of token)) (λ token. IsWordAt whole (symbol_word (symbol_of is_declared token))) (symbol_located is_declared) body.symbols h.1);
    action = h.3;
  }
  production_located is_declared _ h = tt

  -- what each item says given the items before it, and what it says by itself
  after_located : {A : Type 0} (P : A → Type 0) (said : List Item × Item → Option A) → ((prefix : List Item) (item : Item) → IsItemAt whole item → IfSome (said (prefix, item)) P)
      → (items : List Item) → All (IsItemAt whole) items → All P (filter_map said (with_prefixes items))
  after_located P said each items all = All-filter_map P said (with_prefixes items) (All-with_prefixes (λ x. IfSome (said x) P) (IsItemAt whole) each items all)

  all_located : {A : Type 0} (P : A → Type 0) (said : Item → Option A) → ((item : Item) → IsItemAt whole item → IfSome (said item) P)
      → (items : List Item) → All (IsItemAt whole) items → All P (filter_map said items)
  all_located P said each items all = All-filter_map P said items (All-weaker (IsItemAt whole) (λ item. IfSome (said item) P) each items all)

  heads_located : (items : List Item) → All (IsItemAt whole) items → All (λ head. IsNameAt whole head.name) (rule_heads items)
  unfolding rule_heads
  heads_located items all = All-firsts head_name (λ head. IsNameAt whole head.name) _ (after_located (λ head. IsNameAt whole head.name) typed_rule (λ prefix. rule_located _) items all)

  productions_located : (items : List Item) → All (IsItemAt whole) items → All IsProductionAt (alternatives items)
  unfolding alternatives
  productions_located items all = after_located IsProductionAt alternative (λ prefix. production_located _) items all

  -- the marked tokens, if there are lists of them
  marked_located : (said : List (Option Word)) → All (λ o. IfSome o (IsWordAt whole)) said → IfSome (marked said) (λ table. All (λ entry. IsPiece whole entry.1) table)
  marked_located [] h = tt
  marked_located (o ∷ said) h =
      let words = filter_map (λ (o : Option Word). o) (o ∷ said) in
      All-map (λ (entry : List ℕ × Span). IsPiece whole entry.1) word_entry (firsts word_name words)
      (All-firsts word_name (IsWordAt whole) words (All-filter_map (IsWordAt whole) (λ o. o) (o ∷ said) h))

  printed_forms_located : (items : List Item) → All (IsItemAt whole) items → All IsPrintedAt (firsts entry_name (filter_map printed_form_declared items))
  printed_forms_located items all = All-firsts entry_name IsPrintedAt (filter_map printed_form_declared items) (all_located IsPrintedAt printed_form_declared printed_located items all)

  tables_located : (items : List Item) → All (IsItemAt whole) items → EachTableSpan (IsPiece whole) (tables_of items)
  unfolding tables_of
  tables_located items all = record {
    precedences = All-firsts entry_name (λ (entry : List ℕ × (Precedence × Span)). IsPiece whole entry.1.1) (filter_map precedence_at (with_prefixes items))
        (after_located (λ (entry : List ℕ × (Precedence × Span)). IsPiece whole entry.1.1) precedence_at (λ prefix. precedence_located _) items all);
    printed_keys = λ k d h. (printed_forms_located items all k d h).0;
    printed_forms = λ k d h. (printed_forms_located items all k d h).1;
    avoid_insert = marked_located (filter_map avoid_insert_said items) (all_located (λ o. IfSome o (IsWordAt whole)) avoid_insert_said avoid_insert_located items all);
    implicit_tokens = marked_located (filter_map implicit_tokens_said items) (all_located (λ o. IfSome o (IsWordAt whole)) implicit_tokens_said implicit_located items all);
  }

  pub syntax_at : (items : List Item) → All (IsItemAt whole) items → EachSpan (IsPiece whole) (IsWithin whole) (syntax_of items)
  unfolding syntax_of settings_of token_words
  syntax_at items all = record {
    start = All-slice_get (IsWordAt whole) (filter_map start_named items) 0 (all_located (IsWordAt whole) start_named start_located items all);
    rules = All-map (λ rule. IsWordAt whole rule.1.name) (rule_of (alternatives items)) (rule_heads items) (λ k d h. (heads_located items all k d h).0);
    productions = All-map (EachProductionSpan (IsPiece whole) (IsWithin whole)) (λ a. a.1) (alternatives items) (productions_located items all);
    tokens = All-map (IsPiece whole) (λ w. w.span) (token_words items)
        (All-firsts word_name (IsWordAt whole) (filter_map token_named items) (all_located (IsWordAt whole) token_named token_located items all));
    tables = tables_located items all;
    settings = record {
      expect = All-slice_get (λ number. IsPiece whole number.1) (filter_map expected items) 0 (all_located (λ number. IsPiece whole number.1) expected expected_located items all);
      expect_reduce_reduce = All-slice_get (λ number. IsPiece whole number.1) (filter_map expected_reduce_reduce items) 0
          (all_located (λ number. IsPiece whole number.1) expected_reduce_reduce expected_reduce_reduce_located items all);
    };
    expect_unused = all_located (λ symbol. IsWordAt whole (symbol_word symbol)) expected_unused unused_located items all;
    repeated_tokens = after_located (IsWordAt whole) repeated_token (λ prefix. repeated_located _) items all;
    overridden_precedences = All-flat_map (IsWordAt whole) overridden items (All-weaker (IsItemAt whole) (λ item. All (IsWordAt whole) (overridden item)) overridden_located items all);
    occurrences = all_located (λ occurrence. IsPiece whole occurrence.span) declared_once occurrence_located items all;
  }

  pub rules_are_names : (items : List Item) → All (IsItemAt whole) items → All (λ rule. begins_as_name rule.0) (syntax_of items).rules
  unfolding syntax_of
  rules_are_names items all = All-map (λ rule. begins_as_name rule.0) (rule_of (alternatives items)) (rule_heads items) (λ k d h. (heads_located items all k d h).1)
