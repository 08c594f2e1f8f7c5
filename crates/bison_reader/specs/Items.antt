-- What a file says, item by item. A symbol, a number or code is the number of the word that it is.
use Rattle.std.specs.Prelude.{ℕ, Bool, List}
use Rattle.bison_reader.specs.declared.item.Associativity.{Associativity}
use Rattle.bison_reader.specs.declared.item.Expected.{Expected}
use Rattle.bison_reader.specs.declared.item.Item.{Item as CodeItem}
use Rattle.bison_reader.specs.declared.item.Item.TheVariants as code
use Rattle.bison_reader.specs.declared.item.Part.{Part}
use Rattle.bison_reader.specs.declared.item.Production.{Production as CodeProduction}

-- a production without faults: its rule's name, the word at which it begins, and its parts
pub record Production : Type 0 where
  pub rule : ℕ
  pub start : ℕ
  pub parts : List Part

pub data Item : Type 0 where
  TokenGiven : ℕ → Item  -- this symbol is a token
  AliasGiven : ℕ → ℕ → Item  -- a token, and the string that is another name of it
  RuleGiven : ℕ → Item  -- `%nterm` says that this symbol is a rule
  RefusedForRules : ℕ → Item  -- what `%nterm` can't have: a literal, a number or a string
  SymbolListed : ℕ → Item  -- a symbol in a list that says of none whether it is a token
  PrecedenceGiven : Associativity → ℕ → Item  -- a token of a level of precedences
  LevelEnded : Associativity → Item  -- the end of such a level
  StartNamed : ℕ → Item  -- a symbol that `%start` names
  ExpectGiven : ℕ → Item  -- the number of shift/reduce conflicts
  ExpectReduceReduceGiven : ℕ → Item  -- the number of reduce/reduce conflicts
  DefaultPrecedence : Bool → Item  -- whether a production without `%prec` has the precedence of its last token
  HeadRead : ℕ → Item  -- the name of a rule, which its colon follows
  ProductionRead : Production → Item
  Unexpected : ℕ → Expected → Item  -- a word that can't be here, and what may be

-- what the code's value represents
abbrev pub production_view : CodeProduction → Production
production_view production = record { rule = production.rule; start = production.start; parts = production.parts.items }

abbrev pub item_view : CodeItem → Item
item_view (code.Token symbol) = TokenGiven symbol
item_view (code.Alias token string) = AliasGiven token string
item_view (code.Rule symbol) = RuleGiven symbol
item_view (code.NotForRules word) = RefusedForRules word
item_view (code.Symbol symbol) = SymbolListed symbol
item_view (code.Precedence associativity symbol) = PrecedenceGiven associativity symbol
item_view (code.LevelEnd associativity) = LevelEnded associativity
item_view (code.Start symbol) = StartNamed symbol
item_view (code.Expect number) = ExpectGiven number
item_view (code.ExpectReduceReduce number) = ExpectReduceReduceGiven number
item_view (code.DefaultPrecedence holds) = DefaultPrecedence holds
item_view (code.Head word) = HeadRead word
item_view (code.Production production) = ProductionRead (production_view production)
item_view (code.Unexpected word expected) = Unexpected word expected
