-- Declarations, construct by construct. `do` is sequence.
use Rattle.std.specs.Prelude.{ℕ, Bool, true, false, List}
use Rattle.constructs.specs.Leaves.{Leaves, One}
use Rattle.constructs.specs.Construct.{Construct, ◌>>=◌, ◌>>◌, again, choice, emits, ends, gives, recovers, repeat, then}
use Rattle.bison_reader.specs.declared.group.Group.{Group}
use Rattle.bison_reader.specs.declared.group.Group.TheVariants as groups
use Rattle.bison_reader.specs.declared.item.Associativity.{Associativity}
use Rattle.bison_reader.specs.declared.item.Expected.{Expected}
use Rattle.bison_reader.specs.declared.item.Expected.TheVariants as expected
use Rattle.bison_reader.specs.declared.lists.Listed.{Listed}
use Rattle.bison_reader.specs.declared.lists.Listed.TheVariants.{Tokens, Rules, Symbols, Precedences}
use Rattle.bison_reader.specs.declared.sort.Declaration.{Declaration}
use Rattle.bison_reader.specs.declared.sort.Declaration.TheVariants as declarations
use Rattle.bison_reader.specs.declared.sort.Sort.{Sort}
use Rattle.bison_reader.specs.declared.sort.Sort.TheVariants as sorts
use Rattle.bison_reader.specs.Here.{Strict, Lax, Turn, continues, sort_of, is_of, is_here, word_here_or, optional, words_of, needed, unexpected}
use Rattle.bison_reader.specs.Items.{Item, TokenGiven, AliasGiven, RuleGiven, RefusedForRules, SymbolListed, PrecedenceGiven, LevelEnded, StartNamed, ExpectGiven, ExpectReduceReduceGiven, DefaultPrecedence}

-- what a list of symbols has, and what is missing where it has none
abbrev pub group_of : Listed → Group
group_of Tokens = groups.TokenName
group_of Rules = groups.TokenName
group_of Symbols = groups.Symbol
group_of (Precedences associativity) = groups.Symbol

abbrev pub expected_of : Listed → Expected
expected_of Tokens = expected.TokenName
expected_of Rules = expected.Identifier
expected_of Symbols = expected.Symbol
expected_of (Precedences associativity) = expected.Symbol

-- words are the sorts of all words
module _ (words : List Sort) where
  -- what may follow the name of a token: its number, and another name of it
  unfoldable pub token_rest : ℕ → Lax (Unit {0})
  token_rest token = do
    emits (TokenGiven token)
    optional words groups.Number
    word_here_or words groups.AnyString (λ string. emits (AliasGiven token string)) (gives tt)

  -- what no rule has
  unfoldable pub refused : Group → Lax (Unit {0})
  refused group = word_here_or words group (λ word. emits (RefusedForRules word)) (gives tt)

  abbrev pub is_literal : Sort → Bool
  is_literal sorts.Literal = true
  is_literal _ = false

  unfoldable pub rule_rest : ℕ → Lax (Unit {0})
  rule_rest name = do
    choice (λ _. is_literal (sort_of words name)) (emits (RefusedForRules name)) (emits (RuleGiven name))
    refused groups.Number
    refused groups.AnyString

  abbrev pub is_string : Sort → Bool
  is_string sorts.String = true
  is_string _ = false

  -- a number may follow the token, unless it is named by a string
  unfoldable pub precedence_rest : Associativity → ℕ → Lax (Unit {0})
  precedence_rest associativity token = do
    emits (PrecedenceGiven associativity token)
    choice (λ _. is_string (sort_of words token)) (gives tt) (optional words groups.Number)

  -- what follows a symbol of a list
  abbrev pub symbol_rest : Listed → ℕ → Lax (Unit {0})
  symbol_rest Tokens = token_rest
  symbol_rest Rules = rule_rest
  symbol_rest Symbols = λ symbol. emits (SymbolListed symbol)
  symbol_rest (Precedences associativity) = precedence_rest associativity

  -- a symbol, which must be here
  unfoldable pub listed : Listed → Strict (Unit {0})
  listed list = do
    symbol ← needed words (group_of list) (expected_of list)
    symbol_rest list symbol

  -- another symbol, with or without a tag before it
  unfoldable pub listed_turn : Listed → Turn (Unit {0})
  listed_turn list =
      word_here_or words (group_of list) (λ symbol. then (symbol_rest list symbol) again)
      (word_here_or words groups.Tag (λ tag. then (listed list) again)
      ends)

  -- a list of symbols, with tags between them
  unfoldable pub tagged_list : Listed → Strict (Unit {0})
  tagged_list list = do
    optional words groups.Tag
    listed list
    repeat (listed_turn list)

  unfoldable pub level : Associativity → Strict (Unit {0})
  level associativity = do
    tagged_list (Precedences associativity)
    emits (LevelEnded associativity)

  -- another symbol of a `%start`
  unfoldable pub start_turn : Turn (Unit {0})
  start_turn = word_here_or words groups.Symbol (λ symbol. then (emits (StartNamed symbol)) again) ends

  unfoldable pub start : Strict (Unit {0})
  start = do
    symbol ← needed words groups.Symbol expected.Symbol
    emits (StartNamed symbol)
    repeat start_turn

  -- a symbol or a tag; a symbol is listed
  unfoldable pub symbol_or_tag : ℕ → Lax (Unit {0})
  symbol_or_tag word = choice (λ _. is_of words groups.Symbol word) (emits (SymbolListed word)) (gives tt)

  unfoldable pub symbol_or_tag_turn : Turn (Unit {0})
  symbol_or_tag_turn = word_here_or words groups.SymbolOrTag (λ word. then (symbol_or_tag word) again) ends

  unfoldable pub symbols_code : Strict (Unit {0})
  symbols_code = do
    needed words groups.Code expected.Code
    word ← needed words groups.SymbolOrTag expected.SymbolOrTag
    symbol_or_tag word
    repeat symbol_or_tag_turn

  -- a word of the group, which must be here, and whose text doesn't matter
  unfoldable pub only : Group → Expected → Strict (Unit {0})
  only group missing = do
    needed words group missing
    gives tt

  unfoldable pub named_code : Strict (Unit {0})
  named_code = do
    optional words groups.Identifier
    only groups.Code expected.Code

  unfoldable pub codes : Strict (Unit {0})
  codes = do
    needed words groups.Code expected.Code
    words_of words groups.Code

  unfoldable pub variable : Strict (Unit {0})
  variable = do
    needed words groups.Identifier expected.Identifier
    optional words groups.Value

  unfoldable pub expected_conflicts : (ℕ → Item) → Strict (Unit {0})
  expected_conflicts item = do
    number ← needed words groups.Number expected.Number
    emits (item number)

-- c, where it doesn't matter that it leaves fewer words
abbrev pub loosely : {l : Leaves} → Construct Item (Unit {0}) l (One (Unit {0})) → Lax (Unit {0})
loosely c = choice (λ _. true) c (gives tt)

-- what follows the directive of a declaration
abbrev pub declared : List Sort → Declaration → Lax (Unit {0})
declared words declarations.Tokens = loosely (tagged_list words Tokens)
declared words declarations.Rules = loosely (tagged_list words Rules)
declared words declarations.Symbols = loosely (tagged_list words Symbols)
declared words (declarations.Level associativity) = loosely (level words associativity)
declared words declarations.Start = loosely (start words)
declared words declarations.NamedCode = loosely (named_code words)
declared words declarations.SymbolsCode = loosely (symbols_code words)
declared words (declarations.DefaultPrecedence holds) = emits (DefaultPrecedence holds)
declared words declarations.OnlyCode = loosely (only words groups.Code expected.Code)
declared words declarations.Codes = loosely (codes words)
declared words declarations.Variable = loosely (variable words)
declared words declarations.Expect = loosely (expected_conflicts words ExpectGiven)
declared words declarations.ExpectReduceReduce = loosely (expected_conflicts words ExpectReduceReduceGiven)
declared words declarations.Text = loosely (only words groups.String expected.String)
declared words declarations.OptionalText = optional words groups.String
declared words declarations.Flag = gives tt

-- what follows a word that is a directive
abbrev pub declared_by : List Sort → Sort → Lax (Unit {0})
declared_by words (sorts.Declaration declaration) = declared words declaration
declared_by words _ = gives tt

module _ (words : List Sort) where
  -- a declaration before the first `%%`, or what declares nothing
  unfoldable pub declaration : Strict (Unit {0})
  declaration =
      word_here_or words groups.Ignored (λ word. gives tt)
      (word_here_or words groups.Declaration (λ word. declared_by words (sort_of words word))
      (unexpected words expected.Declaration))

  -- what is passed after a fault, unless the end is here: the next word, and all up to a declaration, a prologue, `%%` or the end
  unfoldable pub declaration_rest : Turn (Unit {0})
  declaration_rest =
      choice (is_here words groups.End) ends (do
        needed words groups.Any expected.Declaration
        words_of words groups.InDeclaration
        choice (is_here words groups.End) ends continues)

  -- a declaration, unless the first `%%` is here. If a fault leads to the end, nothing is missing there.
  unfoldable pub declaration_turn : Turn (Unit {0})
  declaration_turn =
      choice (is_here words groups.Mark) ends (recovers (then declaration again) (λ fault. declaration_rest))
