-- What holds of each span of each item holds of each span of the syntax that they say.
use Rattle.std.proofs.Common.{◌||◌, ℕ, ◌-◌, Bool, true, false, List, [], ◌∷◌, filter_map, length, All, Option, Some, None, option_map, if◌then◌else◌}
use Rattle.std.specs.Prelude.{IfSome}
use Rattle.std.proofs.lemmas.List.Elements.{All-map, All-nil, All-take, All-weaker}
use Rattle.lemmas.specs.Lists.{with_prefixes}
use Rattle.lemmas.proofs.Prefixes.{All-with_prefixes}
use Rattle.lemmas.proofs.Options.{All-slice_get, All-filter_map}
use Rattle.cfgbase.specs.declared.span.Span.{Span}
use Rattle.cfgwords.specs.FileWords.{Word, Token, word_of}
use Rattle.cfgitems.specs.declared.precedence.Precedence.{Precedence}
use Rattle.cfgitems.specs.Items.{Item, RuleHead, TokenDeclared, StartDeclared, ActionTypeDeclared, PrintedFormDeclared, ExpectDeclared, ExpectReduceReduceDeclared, ExpectedUnused, AvoidInsertBegun, AvoidInsertDeclared, ImplicitTokensBegun, ImplicitTokenDeclared, PrecedenceDeclared, RuleBegun, RuleNamed, TokenQuoted, PrecedenceUsed, Alternative}
use Rattle.cfgitems.specs.Occurrences.{declared_once}
use Rattle.cfgitems.specs.Syntax.{Production, RuleSymbol, TokenSymbol, EachProductionSpan, EachTableSpan, EachSpan, symbol_word, word_name, head_name, entry_name, word_entry, firsts, token_named, start_named, printed_form_declared, expected, expected_reduce_reduce, expected_unused, avoid_insert_said, implicit_tokens_said, precedence_declared, precedence_at, marked, rule_named, typed, typed_rule, symbol_of, finished, alternative, alternatives, declared_again, repeated_token, overridden, without_last, token_words, rule_heads, rule_of, settings_of, tables_of, syntax_of}
use Rattle.cfgitems.proofs.Keeps.{All-firsts, All-flat_map}

-- Q is for the spans of actions
module _ (P Q : Span → Type 0) where
  -- what holds of a word's span, and of each span of an item
  abbrev pub OfWord : Word → Type 0
  OfWord word = P word.span

  abbrev pub EachItemSpan : Item → Type 0
  EachItemSpan (TokenDeclared word) = OfWord word
  EachItemSpan (StartDeclared word) = OfWord word
  EachItemSpan (ActionTypeDeclared text) = P text.1
  EachItemSpan (PrintedFormDeclared token form) = OfWord token × P form.1
  EachItemSpan (ExpectDeclared number) = P number.1
  EachItemSpan (ExpectReduceReduceDeclared number) = P number.1
  EachItemSpan (ExpectedUnused symbol) = OfWord (symbol_word symbol)
  EachItemSpan (AvoidInsertDeclared word) = OfWord word
  EachItemSpan (ImplicitTokenDeclared word) = OfWord word
  EachItemSpan (PrecedenceDeclared kind word) = OfWord word
  EachItemSpan (RuleBegun word) = OfWord word
  EachItemSpan (RuleNamed head) = OfWord head.name
  EachItemSpan (TokenQuoted word) = OfWord word
  EachItemSpan (PrecedenceUsed word) = OfWord word
  EachItemSpan (Alternative head body) = OfWord head.name × All (λ token. OfWord (word_of token)) body.symbols
      × All (λ token. OfWord (word_of token)) body.precedences × IfSome body.action (λ action. Q action.1) × P body.span
  EachItemSpan _ = Unit {0}

  token_span : (item : Item) → EachItemSpan item → IfSome (token_named item) OfWord
  token_span (TokenDeclared word) h = h
  token_span (AvoidInsertDeclared word) h = h
  token_span (ImplicitTokenDeclared word) h = h
  token_span (TokenQuoted word) h = h
  token_span (PrecedenceUsed word) h = h
  token_span _ h = tt

  start_span : (item : Item) → EachItemSpan item → IfSome (start_named item) OfWord
  start_span (StartDeclared word) h = h
  start_span (RuleBegun word) h = h
  start_span _ h = tt

  expected_span : (item : Item) → EachItemSpan item → IfSome (expected item) (λ number. P number.1)
  expected_span (ExpectDeclared number) h = h
  expected_span _ h = tt

  expected_reduce_reduce_span : (item : Item) → EachItemSpan item → IfSome (expected_reduce_reduce item) (λ number. P number.1)
  expected_reduce_reduce_span (ExpectReduceReduceDeclared number) h = h
  expected_reduce_reduce_span _ h = tt

  unused_span : (item : Item) → EachItemSpan item → IfSome (expected_unused item) (λ symbol. OfWord (symbol_word symbol))
  unused_span (ExpectedUnused symbol) h = h
  unused_span _ h = tt

  repeated_span : (is_declared : List ℕ → Bool) (item : Item) → EachItemSpan item → IfSome (declared_again is_declared item) OfWord
  repeated_span is_declared (TokenDeclared word) h = go (is_declared word.name)
    where
      go : (b : Bool) → IfSome (if b then Some word else None) OfWord
      go true = h
      go false = tt
  repeated_span is_declared _ h = tt

  overridden_spans : (item : Item) → EachItemSpan item → All OfWord (overridden item)
  overridden_spans (Alternative head body) h =
      All-map OfWord word_of (without_last body.precedences) (All-take (λ token. OfWord (word_of token)) (length body.precedences - 1) body.precedences h.2)
  overridden_spans _ h = All-nil OfWord

  occurrence_span : (item : Item) → EachItemSpan item → IfSome (declared_once item) (λ occurrence. P occurrence.span)
  occurrence_span (StartDeclared word) h = h
  occurrence_span (ActionTypeDeclared text) h = h
  occurrence_span (PrintedFormDeclared token form) h = h.0
  occurrence_span (ExpectDeclared number) h = h
  occurrence_span (ExpectReduceReduceDeclared number) h = h
  occurrence_span (AvoidInsertDeclared word) h = h
  occurrence_span (ImplicitTokenDeclared word) h = h
  occurrence_span (PrecedenceDeclared kind word) h = h
  occurrence_span _ h = tt

  -- a token's name and printed form, with their spans
  abbrev OfPrinted : List ℕ × (Span × (List ℕ × Span)) → Type 0
  OfPrinted entry = P entry.1.0 × P entry.1.1.1

  printed_spans : (item : Item) → EachItemSpan item → IfSome (printed_form_declared item) OfPrinted
  printed_spans (PrintedFormDeclared token form) h = h
  printed_spans _ h = tt

  avoid_insert_span : (item : Item) → EachItemSpan item → IfSome (avoid_insert_said item) (λ said. IfSome said OfWord)
  avoid_insert_span AvoidInsertBegun h = tt
  avoid_insert_span (AvoidInsertDeclared word) h = h
  avoid_insert_span _ h = tt

  implicit_span : (item : Item) → EachItemSpan item → IfSome (implicit_tokens_said item) (λ said. IfSome said OfWord)
  implicit_span ImplicitTokensBegun h = tt
  implicit_span (ImplicitTokenDeclared word) h = h
  implicit_span _ h = tt

  precedence_span : (level : ℕ) (item : Item) → EachItemSpan item → IfSome (precedence_declared level item) (λ entry. P entry.1.1)
  precedence_span level (PrecedenceDeclared kind word) h = h
  precedence_span level _ h = tt

  -- of a rule with the type of its actions
  rule_span : (of_all : Option (List ℕ)) (item : Item) → EachItemSpan item → IfSome (option_map (typed of_all) (rule_named item)) (λ head. OfWord head.name)
  rule_span of_all (RuleNamed head) h = h
  rule_span of_all (Alternative head body) h = h.0
  rule_span of_all _ h = tt

  symbol_span : (is_declared : List ℕ → Bool) (token : Token) → OfWord (word_of token) → OfWord (symbol_word (symbol_of is_declared token))
  symbol_span is_declared token h = go (token.quoted || is_declared token.name)
    where
      go : (b : Bool) → OfWord (symbol_word (if b then TokenSymbol (word_of token) else RuleSymbol (word_of token)))
      go true = h
      go false = h

  abbrev EachSpanOf : List ℕ × Production → Type 0
  EachSpanOf a = EachProductionSpan P Q a.1

  production_spans : (is_declared : List ℕ → Bool) (item : Item) → EachItemSpan item → IfSome (finished is_declared item) EachSpanOf
  production_spans is_declared (Alternative head body) h = record {
    itself = h.4;
    symbols = All-map (λ symbol. OfWord (symbol_word symbol)) (symbol_of is_declared) body.symbols
        (All-weaker (λ token. OfWord (word_of token)) (λ token. OfWord (symbol_word (symbol_of is_declared token))) (symbol_span is_declared) body.symbols h.1);
    action = h.3;
  }
  production_spans is_declared _ h = tt

  -- what each item says given the items before it, and what it says by itself
  each_after : {A : Type 0} (R : A → Type 0) (said : List Item × Item → Option A) → ((prefix : List Item) (item : Item) → EachItemSpan item → IfSome (said (prefix, item)) R)
      → (items : List Item) → All EachItemSpan items → All R (filter_map said (with_prefixes items))
  each_after R said each items all = All-filter_map R said (with_prefixes items) (All-with_prefixes (λ x. IfSome (said x) R) EachItemSpan each items all)

  each_said : {A : Type 0} (R : A → Type 0) (said : Item → Option A) → ((item : Item) → EachItemSpan item → IfSome (said item) R)
      → (items : List Item) → All EachItemSpan items → All R (filter_map said items)
  each_said R said each items all = All-filter_map R said items (All-weaker EachItemSpan (λ item. IfSome (said item) R) each items all)

  heads_spans : (items : List Item) → All EachItemSpan items → All (λ head. OfWord head.name) (rule_heads items)
  unfolding rule_heads
  heads_spans items all = All-firsts head_name (λ (head : RuleHead). OfWord head.name) _ (each_after (λ (head : RuleHead). OfWord head.name) typed_rule (λ prefix. rule_span _) items all)

  productions_spans : (items : List Item) → All EachItemSpan items → All EachSpanOf (alternatives items)
  unfolding alternatives
  productions_spans items all = each_after EachSpanOf alternative (λ prefix. production_spans _) items all

  -- the marked tokens, if there are lists of them
  marked_spans : (said : List (Option Word)) → All (λ o. IfSome o OfWord) said → IfSome (marked said) (λ table. All (λ entry. P entry.1) table)
  marked_spans [] h = tt
  marked_spans (o ∷ said) h =
      let words = filter_map (λ (o : Option Word). o) (o ∷ said) in
      All-map (λ (entry : List ℕ × Span). P entry.1) word_entry (firsts word_name words)
      (All-firsts word_name OfWord words (All-filter_map OfWord (λ o. o) (o ∷ said) h))

  printed_forms_spans : (items : List Item) → All EachItemSpan items → All OfPrinted (firsts entry_name (filter_map printed_form_declared items))
  printed_forms_spans items all = All-firsts entry_name OfPrinted (filter_map printed_form_declared items) (each_said OfPrinted printed_form_declared printed_spans items all)

  tables_spans : (items : List Item) → All EachItemSpan items → EachTableSpan P (tables_of items)
  unfolding tables_of
  tables_spans items all = record {
    precedences = All-firsts entry_name (λ (entry : List ℕ × (Precedence × Span)). P entry.1.1) (filter_map precedence_at (with_prefixes items))
        (each_after (λ (entry : List ℕ × (Precedence × Span)). P entry.1.1) precedence_at (λ prefix. precedence_span _) items all);
    printed_keys = λ k d h. (printed_forms_spans items all k d h).0;
    printed_forms = λ k d h. (printed_forms_spans items all k d h).1;
    avoid_insert = marked_spans (filter_map avoid_insert_said items) (each_said (λ o. IfSome o OfWord) avoid_insert_said avoid_insert_span items all);
    implicit_tokens = marked_spans (filter_map implicit_tokens_said items) (each_said (λ o. IfSome o OfWord) implicit_tokens_said implicit_span items all);
  }

  pub syntax_spans : (items : List Item) → All EachItemSpan items → EachSpan P Q (syntax_of items)
  unfolding syntax_of settings_of token_words
  syntax_spans items all = record {
    start = All-slice_get OfWord (filter_map start_named items) 0 (each_said OfWord start_named start_span items all);
    rules = All-map (λ rule. OfWord rule.1.name) (rule_of (alternatives items)) (rule_heads items) (heads_spans items all);
    productions = All-map (EachProductionSpan P Q) (λ a. a.1) (alternatives items) (productions_spans items all);
    tokens = All-map P (λ w. w.span) (token_words items)
        (All-firsts word_name OfWord (filter_map token_named items) (each_said OfWord token_named token_span items all));
    tables = tables_spans items all;
    settings = record {
      expect = All-slice_get (λ number. P number.1) (filter_map expected items) 0 (each_said (λ number. P number.1) expected expected_span items all);
      expect_reduce_reduce = All-slice_get (λ number. P number.1) (filter_map expected_reduce_reduce items) 0
          (each_said (λ number. P number.1) expected_reduce_reduce expected_reduce_reduce_span items all);
    };
    expect_unused = each_said (λ symbol. OfWord (symbol_word symbol)) expected_unused unused_span items all;
    repeated_tokens = each_after OfWord repeated_token (λ prefix. repeated_span _) items all;
    overridden_precedences = All-flat_map OfWord overridden items (All-weaker EachItemSpan (λ item. All OfWord (overridden item)) overridden_spans items all);
    occurrences = each_said (λ occurrence. P occurrence.span) declared_once occurrence_span items all;
  }
