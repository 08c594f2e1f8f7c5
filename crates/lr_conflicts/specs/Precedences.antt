-- How precedence settles whether a token is shifted or a production reduced, as POSIX has it for yacc, and Bison for %precedence.
use Rattle.std.specs.Prelude.{ℕ, List, Option, None, Some, if◌then◌else◌, nat_lt, slice_get, slice_index_or}
use Rattle.std.specs.Option.{option_and_then}
use Rattle.cfgrammar.specs.AssocKind.{AssocKind}
use Rattle.cfgrammar.specs.AssocKind.TheVariants as kinds
use Rattle.cfgrammar.specs.Associativity.{Associativity}
use Rattle.cfgrammar.specs.Associativity.TheVariants.{Left, Right, Nonassoc, OnlyPrecedence}
use Rattle.cfgrammar.specs.Numbered.{Numbered}
use Rattle.cfgrammar.specs.Precedence.{Precedence}
use Rattle.lr_conflicts.specs.declared.precedences.Settled.{Settled}
use Rattle.lr_conflicts.specs.declared.precedences.Settled.TheVariants.{Shift, Reduce, Neither}

abbrev pub associativity_of : AssocKind → Associativity
associativity_of kinds.Left = Left
associativity_of kinds.Right = Right
associativity_of kinds.Nonassoc = Nonassoc

-- at one level
abbrev pub by_associativity : Associativity → Option Settled
by_associativity Left = Some Reduce
by_associativity Right = Some Shift
by_associativity Nonassoc = Some Neither
by_associativity OnlyPrecedence = None

-- What precedence says where a token and a production have these; `levels` says how the operators of each level associate, and the token
-- itself does of a level that isn't there.
abbrev pub settled_by : List Associativity → Precedence → Precedence → Option Settled
settled_by levels token production = if nat_lt token.level production.level then Some Reduce else if nat_lt production.level token.level then Some Shift
    else by_associativity (slice_index_or levels token.level (associativity_of token.kind))

-- without both it says nothing
abbrev pub settled : List Associativity → Option Precedence → Option Precedence → Option Settled
settled levels token production = option_and_then (λ one. option_and_then (settled_by levels one) production) token

abbrev pub token_precedence : Numbered → ℕ → Option Precedence
token_precedence g t = option_and_then (λ token. token.precedence) (slice_get g.tokens t)

abbrev pub production_precedence : Numbered → ℕ → Option Precedence
production_precedence g p = option_and_then (λ production. production.precedence) (slice_get g.productions p)
