-- The parts of a grammar file that count as read, as they are in the text.
use Rattle.std.specs.Prelude.{ℕ, List, Option}
use Rattle.cfgbase.specs.declared.span.Span.{Span}
use Rattle.cfgwords.specs.FileWords.{Word, Token}
use Rattle.cfgitems.specs.declared.precedence.AssocKind.{AssocKind}

-- what precedes a rule's colon: its name, and the type that its actions return, if it gives one
pub record RuleHead : Type 0 where
  pub name : Word
  pub action_type : Option (List ℕ)

-- a production: its symbols, the tokens of its `%prec`s, in order, its action and the action's span
pub record Body : Type 0 where
  pub symbols : List Token
  pub precedences : List Token
  pub action : Option (List ℕ × Span)
  pub span : Span

-- a symbol: the name of a rule or of a token, and its span
pub data Symbol : Type 0 where
  RuleSymbol : Word → Symbol
  TokenSymbol : Word → Symbol

pub data Item : Type 0 where
  TokenDeclared : Word → Item  -- a token of a `%token` list
  StartDeclared : Word → Item  -- the name after `%start`
  ActionTypeDeclared : List ℕ × Span → Item  -- the rest of the line after `%actiontype`, and its span
  PrintedFormDeclared : Word → List ℕ × Span → Item  -- after `%epp` a token, its span with quotes, and its printed form with its span
  ExpectDeclared : ℕ × Span → Item  -- the number after `%expect`, and its span
  ExpectReduceReduceDeclared : ℕ × Span → Item  -- the number after `%expect-rr`, and its span
  ExpectedUnused : Symbol → Item  -- a symbol of an `%expect-unused` list
  ParseParamDeclared : List ℕ × List ℕ → Item  -- after `%parse-param` a name, and its type
  GenericsDeclared : List ℕ → Item  -- the rest of the line after `%parse-generics`
  AvoidInsertBegun : Item  -- the start of an `%avoid_insert` list
  AvoidInsertDeclared : Word → Item  -- a token of such a list
  ImplicitTokensBegun : Item  -- the start of an `%implicit_tokens` list
  ImplicitTokenDeclared : Word → Item  -- a token of such a list
  PrecedenceDeclared : AssocKind → Word → Item  -- a token of a `%left`, `%right` or `%nonassoc` list
  LevelEnded : AssocKind → Item  -- the end of such a list
  RuleBegun : Word → Item  -- the name of a rule
  RuleNamed : RuleHead → Item  -- a rule, once its head is read
  TokenQuoted : Word → Item  -- a quoted token in a rule's body
  PrecedenceUsed : Word → Item  -- the token after `%prec`
  Alternative : RuleHead → Body → Item  -- a finished production of the rule of that name
  ProgramsGiven : List ℕ → Item  -- what follows the second `%%`
