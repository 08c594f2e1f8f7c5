-- The names of a file's rules begin as identifiers do, or with `$`: so none is a name that a numbering of rules may add.
use Rattle.std.proofs.Common.{◌≡◌, ℕ, ◌==◌, Bool, true, false, List, [], ◌∷◌, ◌||◌, map, filter_map, Option, Some, None, option_map, All, refl, ap, if◌then◌else◌}
use Rattle.std.specs.Prelude.{IfSome, codes}
use Rattle.std.specs.Str.{bytes_eq}
use Rattle.std.specs.Cmp.Lexicographic.{bytes_decides}
use Rattle.std.proofs.lemmas.List.Elements.{All-nil, All-cons, All-append, All-head, All-map, All-tail, All-weaker}
use Rattle.std.proofs.lemmas.List.Folds.{list_any_none}
use Rattle.lemmas.specs.Lists.{with_prefixes}
use Rattle.lemmas.proofs.Options.{All-filter_map}
use Rattle.lemmas.proofs.Prefixes.{All-with_prefixes}
use Rattle.constructs.specs.Pieces.{starts}
use Rattle.cfgitems.specs.Building.{has_name}
use Rattle.cfgitems.specs.Items as tree
use Rattle.cfgitems.specs.Items.{RuleHead}
use Rattle.cfgitems.specs.Syntax.{alternatives, head_name, rule_heads, rule_named, rule_of, syntax_of, typed, typed_rule}
use Rattle.cfgitems.proofs.Keeps.{All-firsts}
use Rattle.bison_words.specs.declared.class.Class.TheVariants.{NameByte}
use Rattle.bison_words.specs.Bytes.{holds}
use Rattle.bison_words.specs.Words.{Word}
use Rattle.bison_reader.specs.Items.{Item, TokenGiven, AliasGiven, RuleGiven, PrecedenceGiven, LevelEnded, HeadRead, ProductionRead}
use Rattle.bison_reader.specs.ItemWords.{IsIdentifier, IsWellSorted}
use Rattle.bison_reader.specs.Sorts.{items_in, sorts_of, words_in}
use Rattle.bison_reader.specs.WordNames.{BeginsAsName}
use Rattle.bison_reader.proofs.ItemWords.{items_well_sorted}
use Rattle.bison_reader.proofs.WordNames.{words_named}
use Rattle.bison_tree.specs.declared.piece.Piece.{Piece}
use Rattle.bison_tree.specs.declared.piece.Piece.TheVariants.{Symbol, Inner}
use Rattle.bison_tree.specs.Names.{name_at, names_of}
use Rattle.bison_tree.specs.Tokens.{token_names, tokens_of}
use Rattle.bison_tree.specs.Productions.{inner_production, pieces_after}
use Rattle.bison_tree.specs.Tree.{counts_items, expected_unused, first_start, inners_with, is_unneeded, last_expected, listed, named_rule, printed_form, programs_items, rule_in, rules_items, said, said_after, start_items, token_quoted, tree_items}
use Rattle.bison_tree.proofs.NameStarts.{IsNameStart, name_starts}

-- a byte of names, or `$`
abbrev begins_rule : ℕ → Bool
begins_rule b = holds NameByte b || b == 36

abbrev IsRuleName : List ℕ → Type 0
IsRuleName name = starts begins_rule name ≡ true

rule_name : (name : List ℕ) → IsNameStart name → IsRuleName name
rule_name [] begins = begins
rule_name (b ∷ name) begins = ap (λ t. t || b == 36) begins

differs : (name other : List ℕ) → IsRuleName name → starts begins_rule other ≡ false → bytes_eq name other ≡ false
differs name other begins none = go (bytes_eq name other) refl
  where
    go : (same : Bool) → bytes_eq name other ≡ same → same ≡ false
    go true e = let alike = ap (starts begins_rule) ((bytes_decides name other).0 e) in cc
    go false e = refl

-- the names of the rules that a numbering may add
abbrev reserved : List (List ℕ)
reserved = codes "^" ∷ codes "~" ∷ codes "^~" ∷ []

is_free : (name : List ℕ) → IsRuleName name → has_name name reserved ≡ false
is_free name begins = list_any_none (bytes_eq name) reserved
    (All-cons P (codes "^") (codes "~" ∷ codes "^~" ∷ []) (differs name (codes "^") begins refl)
    (All-cons P (codes "~") (codes "^~" ∷ []) (differs name (codes "~") begins refl)
    (All-cons P (codes "^~") [] (differs name (codes "^~") begins refl)
    (All-nil P))))
  where
    P : List ℕ → Type 0
    P other = bytes_eq name other ≡ false

-- the rule that an item names
abbrev NamesRule : tree.Item → Type 0
NamesRule item = IfSome (rule_named item) (λ head. IsRuleName (head_name head))

abbrev AllName : List tree.Item → Type 0
AllName items = All NamesRule items

listed_all : {A : Type 0} (f : A → tree.Item) → ((a : A) → NamesRule (f a)) → (o : Option A) → AllName (listed f o)
listed_all f each None = All-nil NamesRule
listed_all f each (Some a) = All-cons NamesRule (f a) [] (each a) (All-nil NamesRule)

one : (item : tree.Item) → NamesRule item → AllName (item ∷ [])
one item named = All-cons NamesRule item [] named (All-nil NamesRule)

one_if : (holds : Bool) (item : tree.Item) → NamesRule item → AllName (if holds then item ∷ [] else [])
one_if true item named = one item named
one_if false item named = All-nil NamesRule

module _ (words : List Word) (items : List Item) (all : All (λ word. BeginsAsName word.lexeme) words) where
  abbrev names : List (List ℕ)
  names = names_of words items

  module _ (sorted : All (IsWellSorted (sorts_of words)) items) where
    named_at : (i : ℕ) → IsIdentifier (sorts_of words) i → IsRuleName (name_at names i)
    named_at i is = rule_name (name_at names i) (name_starts words items all sorted i is)

    inner_named : (piece : Piece) → IfSome (inner_production words piece) NamesRule
    inner_named (Symbol word) = tt
    inner_named (Inner code number) = refl

    printed_named : (token string : ℕ) → AllName (printed_form words names token string)
    printed_named token string = one_if (bytes_eq (name_at names token) (name_at names string)) _ tt

    unused_named : (symbol : ℕ) → AllName (expected_unused words names symbol)
    unused_named symbol = one_if (is_unneeded words names symbol) _ tt

    module _ (is_token : List ℕ → Bool) where
      said_named : (n : ℕ) (item : Item) → IsWellSorted (sorts_of words) item → AllName (said words names is_token n item)
      said_named n (TokenGiven symbol) is = All-cons NamesRule _ (expected_unused words names symbol) tt (unused_named symbol)
      said_named n (AliasGiven token string) is = printed_named token string
      said_named n (PrecedenceGiven associativity symbol) is = All-cons NamesRule _ (expected_unused words names symbol) tt (unused_named symbol)
      said_named n (LevelEnded associativity) is = one _ tt
      said_named n (HeadRead symbol) is = All-cons NamesRule _ (named_rule words names symbol ∷ []) tt (one (named_rule words names symbol) (named_at symbol is))
      said_named n (ProductionRead production) is =
          let pieces = pieces_after n production.parts in
          All-append NamesRule (filter_map (inner_production words) pieces) _
          (All-filter_map NamesRule (inner_production words) pieces (λ k d h. inner_named _))
          (one _ (named_at production.rule is))
      said_named n _ is = All-nil NamesRule

      said_after_named : (n : ℕ) (some : List Item) → All (IsWellSorted (sorts_of words)) some
          → AllName (said_after words names is_token n some)
      said_after_named n [] each = All-nil NamesRule
      said_after_named n (item ∷ some) each = All-append NamesRule (said words names is_token n item) (said_after words names is_token (inners_with n item) some)
          (said_named n item (All-head (IsWellSorted (sorts_of words)) item some each))
          (said_after_named (inners_with n item) some (All-tail (IsWellSorted (sorts_of words)) item some each))

      rule_in_named : (item : Item) → IsWellSorted (sorts_of words) item
          → IfSome (rule_in item) (λ symbol. NamesRule (named_rule words names symbol))
      rule_in_named (RuleGiven symbol) is = named_at symbol is
      rule_in_named _ is = tt

      counts_named : AllName (counts_items words items)
      counts_named = All-append NamesRule (listed _ (last_expected items).0) (listed _ (last_expected items).1)
          (listed_all _ (λ _. tt) (last_expected items).0) (listed_all _ (λ _. tt) (last_expected items).1)

      rules_named : AllName (rules_items words names is_token items)
      rules_named =
          let declared = filter_map rule_in items in
          All-append NamesRule (start_items words names items) _ (listed_all _ (λ _. tt) (first_start items))
          (All-append NamesRule (said_after words names is_token 0 items) _ (said_after_named 0 items sorted)
          (All-append NamesRule (map (named_rule words names) declared) (counts_items words items)
          (All-map NamesRule (named_rule words names) declared (All-filter_map (λ symbol. NamesRule (named_rule words names symbol)) rule_in items
          (All-weaker (IsWellSorted (sorts_of words)) (λ item. IfSome (rule_in item) (λ symbol. NamesRule (named_rule words names symbol))) rule_in_named items sorted)))
          counts_named))

    tree_named : (programs : Option (List ℕ)) → AllName (tree_items words items programs)
    unfolding tree_items
    tree_named programs =
        let tokens = tokens_of words items in
        All-append NamesRule (map (token_quoted words names) tokens) _
        (All-map NamesRule (token_quoted words names) tokens (λ k d h. tt))
        (All-append NamesRule (rules_items words names (λ name. has_name name (token_names names tokens)) items) (programs_items programs)
        (rules_named (λ name. has_name name (token_names names tokens)))
        (listed_all tree.ProgramsGiven (λ _. tt) programs))

typed_named : (of_all : Option (List ℕ)) (item : tree.Item) → NamesRule item
    → IfSome (option_map (typed of_all) (rule_named item)) (λ head. IsRuleName (head_name head))
typed_named of_all item named = go (rule_named item) named
  where
    go : (o : Option RuleHead) → IfSome o (λ head. IsRuleName (head_name head))
        → IfSome (option_map (typed of_all) o) (λ head. IsRuleName (head_name head))
    go None named = tt
    go (Some head) named = named

heads_named : (items : List tree.Item) → AllName items → All (λ head. IsRuleName (head_name head)) (rule_heads items)
unfolding rule_heads
heads_named items all = All-firsts head_name (λ head. IsRuleName (head_name head)) (filter_map typed_rule (with_prefixes items))
    (All-filter_map (λ head. IsRuleName (head_name head)) typed_rule (with_prefixes items)
    (All-with_prefixes (λ x. IfSome (typed_rule x) (λ head. IsRuleName (head_name head))) NamesRule (λ prefix item named. typed_named _ item named) items all))

rules_free : (items : List tree.Item) → AllName items → All (λ rule. has_name rule.0 reserved ≡ false) (syntax_of items).rules
unfolding syntax_of
rules_free items all = All-map (λ rule. has_name rule.0 reserved ≡ false) (rule_of (alternatives items)) (rule_heads items)
    (All-weaker (λ head. IsRuleName (head_name head)) (λ head. has_name (head_name head) reserved ≡ false) (λ head. is_free (head_name head)) (rule_heads items) (heads_named items all))

pub rule_names_free : (text : List ℕ) (programs : Option (List ℕ))
    → All (λ rule. has_name rule.0 (codes "^" ∷ codes "~" ∷ codes "^~" ∷ []) ≡ false) (syntax_of (tree_items (words_in text) (items_in text) programs)).rules
rule_names_free text programs = rules_free (tree_items (words_in text) (items_in text) programs)
    (tree_named (words_in text) (items_in text) (words_named text) (items_well_sorted (sorts_of (words_in text))) programs)
