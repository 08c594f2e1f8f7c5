-- Declarations, construct by construct: what precedes the first `%%`. `do` is sequence.
use Rattle.std.specs.Prelude.{ℕ, Bool, true, false, List, [], ◌∷◌, ◌++◌, ◌==◌, not, codes}
use Rattle.constructs.specs.Pieces.{starts}
use Rattle.constructs.specs.Leaves.{Leaves, One}
use Rattle.constructs.specs.Construct.{Construct, ◌>>=◌, ◌>>◌, choice, here, goes_on, ends, repeat, while_test, word_or, gives, emits, fails, expect}
use Rattle.cfgbase.specs.declared.span.Span.{Span}
use Rattle.cfgwords.specs.declared.fault.Fault.{Fault}
use Rattle.cfgwords.specs.declared.fault.FaultKind.TheVariants.{PrematureEnd, ReachedEOL, UnknownDeclaration, UnknownSymbol}
use Rattle.cfgwords.specs.Text.{offset_of, fault_at}
use Rattle.cfgwords.specs.FileWords.{Word, word_at, word_of}
use Rattle.cfgitems.specs.declared.precedence.AssocKind.{AssocKind}
use Rattle.cfgitems.specs.declared.precedence.AssocKind.TheVariants.{Left, Right, Nonassoc}
use Rattle.cfgitems.specs.Items.{Item, TokenDeclared, StartDeclared, ActionTypeDeclared, PrintedFormDeclared, ExpectDeclared, ExpectReduceReduceDeclared, ExpectedUnused, ParseParamDeclared, GenericsDeclared, AvoidInsertBegun, AvoidInsertDeclared, ImplicitTokensBegun, ImplicitTokenDeclared, PrecedenceDeclared, LevelEnded, RuleSymbol, TokenSymbol}
use Rattle.cfgkinds.specs.declared.kind.YaccKind.{YaccKind}
use Rattle.cfgkinds.specs.declared.kind.YaccKind.TheVariants.{Original, Grmtools, Eco}
use Rattle.cfgreader.specs.FileWordKinds.{name_kind}
use Rattle.cfgreader.specs.Keywords.{Keyword, after, one_of}
use Rattle.cfgreader.specs.Here.{Strict, Lax, Turn, is_open, blank_here, line_blank, name_here, token_or, token_here, integer_here, line_rest_here, epp_string_here, colon_text_here}

-- a list of `%token` or `%expect-unused` continues until `%` or the end
abbrev pub is_listed : List ℕ → Bool
is_listed text = starts (λ b. not (b == 37)) text

-- a keyword by its name after `%`, and what follows the keyword
abbrev pub declares : {l : Leaves} → List ℕ → Construct Item Fault l (One (Unit {0})) → Keyword
declares name c = record { first = 37; others = name; follows = after c }

-- len is the whole text's length
module _ (len : ℕ) where
  unfoldable pub listed_token : Strict (Unit {0})
  listed_token = do
    token ← token_here len
    emits (TokenDeclared (word_of token))
    blank_here len true

  -- a list of tokens, or of symbols, which continues until `%` or the end
  unfoldable pub list_declaration : Strict (Unit {0}) → Lax (Unit {0})
  list_declaration symbol = do
    blank_here len false
    repeat (while_test is_listed symbol)

  unfoldable pub start_declaration : Strict (Unit {0})
  start_declaration = do
    blank_here len false
    name ← name_here len
    emits (StartDeclared name)
    blank_here len true

  unfoldable pub action_type_declaration : Lax (Unit {0})
  action_type_declaration = do
    blank_here len false
    here (λ text. do
      line ← line_rest_here len
      here (λ rest. emits (ActionTypeDeclared (line, record { start = offset_of len text; end = offset_of len rest }))))
    blank_here len true

  -- the token of an `%epp`, whose span includes its quotes
  unfoldable pub printed_token : Strict Word
  printed_token = here (λ text. do
    token ← token_here len
    gives (record { name = token.name; span = record { start = offset_of len text; end = token.end } }))

  -- its printed form, with the string's span
  unfoldable pub printed_form : Lax (List ℕ × Span)
  printed_form = here (λ text. do
    form ← epp_string_here len
    here (λ rest. gives (form, record { start = offset_of len text; end = offset_of len rest })))

  unfoldable pub epp_declaration : Strict (Unit {0})
  epp_declaration = do
    blank_here len false
    token ← printed_token
    blank_here len false
    form ← printed_form
    emits (PrintedFormDeclared token form)
    blank_here len true

  -- an expected number, as an item
  unfoldable pub number_declaration : (ℕ × Span → Item) → Strict (Unit {0})
  number_declaration item = do
    blank_here len false
    number ← integer_here len
    emits (item number)
    blank_here len true

  -- An unquoted word is a rule's name, since a name is tried first.
  unfoldable pub unused_symbol : Strict (Unit {0})
  unused_symbol = do
    word_or name_kind (word_at len) (λ name. emits (ExpectedUnused (RuleSymbol name)))
        (token_or len (λ token. emits (ExpectedUnused (TokenSymbol (word_of token)))) (fails (fault_at len UnknownSymbol)))
    blank_here len true

  -- A name up to a colon, and its type up to the line's end: the blank after the colon may not pass that end.
  unfoldable pub parse_param_declaration : Strict (Unit {0})
  parse_param_declaration = do
    blank_here len false
    name ← colon_text_here len
    expect (codes ":") (fault_at len ReachedEOL)
    blank_here len false
    kind ← line_rest_here len
    emits (ParseParamDeclared (name, kind))
    blank_here len true

  unfoldable pub parse_generics_declaration : Lax (Unit {0})
  parse_generics_declaration = do
    blank_here len false
    generics ← line_rest_here len
    emits (GenericsDeclared generics)
    blank_here len true

  -- A token of a list that ends with its line: the list continues if the blank after the token stays on the line.
  unfoldable pub line_token : (Word → Item) → Turn (Unit {0})
  line_token item = do
    token ← token_here len
    emits (item (word_of token))
    stays ← line_blank len
    gives (goes_on stays)

  -- the text's end ends a list of precedences too
  unfoldable pub level_token : AssocKind → Turn (Unit {0})
  level_token kind = choice is_open (line_token (PrecedenceDeclared kind)) ends

  unfoldable pub precedence_declaration : AssocKind → Lax (Unit {0})
  precedence_declaration kind = do
    blank_here len false
    repeat (level_token kind)
    emits (LevelEnded kind)

  -- a list of marked tokens, which may be missing if its keyword ends the text
  unfoldable pub marking_declaration : Item → (Word → Item) → Lax (Unit {0})
  marking_declaration begins item =
      choice is_open (do
        blank_here len false
        emits begins
        repeat (line_token item))
      (emits begins)

  -- What files of every kind declare, by the keywords' names after `%`. A name that is a prefix of another one is tried after it.
  abbrev pub common_declarations : List Keyword
  common_declarations =
      declares (codes "token") (list_declaration listed_token)
      ∷ declares (codes "start") start_declaration
      ∷ declares (codes "epp") epp_declaration
      ∷ declares (codes "avoid_insert") (marking_declaration AvoidInsertBegun AvoidInsertDeclared)
      ∷ declares (codes "left") (precedence_declaration Left)
      ∷ declares (codes "right") (precedence_declaration Right)
      ∷ declares (codes "nonassoc") (precedence_declaration Nonassoc)
      ∷ declares (codes "expect-rr") (number_declaration ExpectReduceReduceDeclared)
      ∷ declares (codes "expect-unused") (list_declaration unused_symbol)
      ∷ declares (codes "expect") (number_declaration ExpectDeclared)
      ∷ declares (codes "parse-param") parse_param_declaration
      ∷ declares (codes "parse-generics") parse_generics_declaration
      ∷ []

  -- what files of only one kind declare
  abbrev pub own_declarations : YaccKind → List Keyword
  own_declarations (Original actions) = declares (codes "actiontype") action_type_declaration ∷ []
  own_declarations Grmtools = []
  own_declarations Eco = declares (codes "implicit_tokens") (marking_declaration ImplicitTokensBegun ImplicitTokenDeclared) ∷ []

  unfoldable pub declaration : YaccKind → Turn (Unit {0})
  declaration kind = one_of (common_declarations ++ own_declarations kind) ends

  -- the fault if there is no `%%`
  abbrev pub separator_fault : List ℕ → Fault
  separator_fault [] = fault_at len PrematureEnd []
  separator_fault (b ∷ text) = fault_at len UnknownDeclaration (b ∷ text)
