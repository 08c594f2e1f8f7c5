-- What the code's lists say, as constructs and items.
use Rattle.std.specs.Prelude.{ℕ}
use Rattle.cfgwords.specs.FileWords.{Word}
use Rattle.cfgitems.specs.Items.{Item, AvoidInsertBegun, AvoidInsertDeclared, ImplicitTokensBegun, ImplicitTokenDeclared, PrecedenceDeclared}
use Rattle.cfgreader.specs.declared.lists.Listed.{Listed}
use Rattle.cfgreader.specs.declared.lists.Listed.TheVariants as listed
use Rattle.cfgreader.specs.declared.lists.Marking.{Marking}
use Rattle.cfgreader.specs.declared.lists.Marking.TheVariants as markings
use Rattle.cfgreader.specs.declared.lists.LineList.{LineList}
use Rattle.cfgreader.specs.declared.lists.LineList.TheVariants as lists
use Rattle.cfgreader.specs.Here.{Strict, Turn}
use Rattle.cfgreader.specs.Declarations.{listed_token, unused_symbol, line_token, level_token}

-- an element of a list that continues until `%`
abbrev pub listed_in : ℕ → Listed → Strict (Unit {0})
listed_in len listed.Tokens = listed_token len
listed_in len listed.Unused = unused_symbol len

-- the start of a list that marks its tokens so
abbrev pub begun : Marking → Item
begun markings.AvoidInsert = AvoidInsertBegun
begun markings.ImplicitTokens = ImplicitTokensBegun

-- a token of such a list
abbrev pub marked : Marking → Word → Item
marked markings.AvoidInsert = AvoidInsertDeclared
marked markings.ImplicitTokens = ImplicitTokenDeclared

-- a token of a list that ends with its line
abbrev pub said : LineList → Word → Item
said (lists.Precedence kind) = PrecedenceDeclared kind
said (lists.Marked marking) = marked marking

-- a turn of such a list
abbrev pub turn_in : ℕ → LineList → Turn (Unit {0})
turn_in len (lists.Precedence kind) = level_token len kind
turn_in len (lists.Marked marking) = line_token len (marked marking)
