-- The tree of a file: what its items say of its grammar, as the tree's other readers say it.
use Rattle.std.specs.Prelude.{ℕ, Bool, false, ◌+◌, ◌==◌, ◌||◌, List, [], ◌∷◌, ◌++◌, map, fold, filter_map, Option, Some, None, if◌then◌else◌}
use Rattle.std.specs.Str.{bytes_eq}
use Rattle.cfgbase.specs.declared.span.Span.{Span}
use Rattle.cfgitems.specs.declared.precedence.AssocKind.{AssocKind}
use Rattle.cfgitems.specs.declared.precedence.AssocKind.TheVariants as kinds
use Rattle.cfgitems.specs.Building.{has_name}
use Rattle.cfgitems.specs.Items as tree
use Rattle.bison_words.specs.Words.{Lexeme, Word, String, Translatable, Number}
use Rattle.bison_reader.specs.Items.{Item, TokenGiven, AliasGiven, RuleGiven, PrecedenceGiven, LevelEnded, StartNamed, ExpectGiven, ExpectReduceReduceGiven, HeadRead, ProductionRead}
use Rattle.bison_reader.specs.declared.item.Associativity.{Associativity}
use Rattle.bison_reader.specs.declared.item.Associativity.TheVariants as associativities
use Rattle.bison_tree.specs.Names.{name_at, names_of}
use Rattle.bison_tree.specs.Tokens.{is_built_in, lexeme_at, span_at, tokens_of, token_names}
use Rattle.bison_tree.specs.Productions.{head_at, word_at, inners_after, production_items}

-- in the tree `%precedence` is `%nonassoc`
abbrev pub kind_of : Associativity → AssocKind
kind_of associativities.Left = kinds.Left
kind_of associativities.Right = kinds.Right
kind_of associativities.Nonassoc = kinds.Nonassoc
kind_of associativities.OnlyPrecedence = kinds.Nonassoc

abbrev pub text_in : Lexeme → List ℕ
text_in (String text) = text
text_in (Translatable text) = text
text_in _ = []

abbrev pub number_in : Lexeme → ℕ
number_in (Number number) = number
number_in _ = 0

abbrev pub listed : {A B : Type 0} → (A → B) → Option A → List B
listed f None = []
listed f (Some a) = f a ∷ []

abbrev pub is_zero : Lexeme → Bool
is_zero (Number number) = number == 0
is_zero _ = false

-- the word by which the first `%start` names the start
abbrev pub first_start : List Item → Option ℕ
first_start [] = None
first_start (StartNamed symbol ∷ items) = Some symbol
first_start (item ∷ items) = first_start items

-- the last numbers of shift/reduce and of reduce/reduce conflicts that are expected
abbrev pub with_expected : Option ℕ × Option ℕ → Item → Option ℕ × Option ℕ
with_expected (expect, expect_reduce_reduce) (ExpectGiven number) = (Some number, expect_reduce_reduce)
with_expected (expect, expect_reduce_reduce) (ExpectReduceReduceGiven number) = (expect, Some number)
with_expected expected _ = expected

abbrev pub last_expected : List Item → Option ℕ × Option ℕ
last_expected items = fold with_expected (None, None) items

-- the rule that `%nterm` names
abbrev pub rule_in : Item → Option ℕ
rule_in (RuleGiven symbol) = Some symbol
rule_in _ = None

-- how many actions inside of productions there are, with those of an item
abbrev pub inners_with : ℕ → Item → ℕ
inners_with n (ProductionRead production) = inners_after n production.parts
inners_with n _ = n

-- words are those of the file, names theirs, and is_token says which names are those of tokens
module _ (words : List Word) where
  abbrev pub number_at : ℕ → ℕ × Span
  number_at word = (number_in (lexeme_at words word), span_at words word)

  abbrev pub counts_items : List Item → List tree.Item
  counts_items items =
      listed (λ number. tree.ExpectDeclared (number_at number)) (last_expected items).0
      ++ listed (λ number. tree.ExpectReduceReduceDeclared (number_at number)) (last_expected items).1

  module _ (names : List (List ℕ)) where
    abbrev pub token_quoted : ℕ → tree.Item
    token_quoted word = tree.TokenQuoted (word_at words names word)

    abbrev pub start_items : List Item → List tree.Item
    start_items items = listed (λ symbol. tree.StartDeclared (word_at words names symbol)) (first_start items)

    abbrev pub named_rule : ℕ → tree.Item
    named_rule symbol = tree.RuleNamed (head_at words names symbol)

    -- No production needs the end of the text, which is a token of the number 0 (it stands after the name), and none Bison's own tokens.
    abbrev pub is_unneeded : ℕ → Bool
    is_unneeded symbol = is_zero (lexeme_at words (symbol + 1)) || is_built_in (name_at names symbol)

    abbrev pub expected_unused : ℕ → List tree.Item
    expected_unused symbol = if is_unneeded symbol
        then tree.ExpectedUnused (tree.TokenSymbol (word_at words names symbol)) ∷ [] else []

    -- a string is the printed form of the token that it is another name of
    abbrev pub printed_form : ℕ → ℕ → List tree.Item
    printed_form token string = if bytes_eq (name_at names token) (name_at names string)
        then tree.PrintedFormDeclared (word_at words names token) (text_in (lexeme_at words string), span_at words string) ∷ [] else []

    module _ (is_token : List ℕ → Bool) where
      -- what an item says, if n actions inside of productions precede it
      abbrev pub said : ℕ → Item → List tree.Item
      said n (TokenGiven symbol) = tree.TokenDeclared (word_at words names symbol) ∷ expected_unused symbol
      said n (AliasGiven token string) = printed_form token string
      said n (PrecedenceGiven associativity symbol) =
          tree.PrecedenceDeclared (kind_of associativity) (word_at words names symbol) ∷ expected_unused symbol
      said n (LevelEnded associativity) = tree.LevelEnded (kind_of associativity) ∷ []
      said n (HeadRead symbol) = tree.RuleBegun (word_at words names symbol) ∷ named_rule symbol ∷ []
      said n (ProductionRead production) = production_items words names is_token n production
      said n _ = []

      abbrev pub said_after : ℕ → List Item → List tree.Item
      said_after n [] = []
      said_after n (item ∷ rest) = said n item ++ said_after (inners_with n item) rest

      -- The start is that of the first `%start`, or else the first rule. Rules of `%nterm` that have no production come last.
      abbrev pub rules_items : List Item → List tree.Item
      rules_items items =
          start_items items
          ++ (said_after 0 items
          ++ (map named_rule (filter_map rule_in items)
          ++ counts_items items))

abbrev pub programs_items : Option (List ℕ) → List tree.Item
programs_items epilogue = listed tree.ProgramsGiven epilogue

-- everything, with what follows the second `%%`
unfoldable pub tree_items : List Word → List Item → Option (List ℕ) → List tree.Item
tree_items words items epilogue =
    let names = names_of words items in
    let tokens = tokens_of words items in
    map (token_quoted words names) tokens
    ++ (rules_items words names (λ name. has_name name (token_names names tokens)) items
    ++ programs_items epilogue)
