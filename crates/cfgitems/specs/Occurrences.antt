-- What a file may declare only once: each occurrence of such a declaration.
use Rattle.std.specs.Prelude.{ℕ, List, Option, Some, None}
use Rattle.cfgbase.specs.declared.span.Span.{Span}
use Rattle.cfgitems.specs.declared.occurrence.UniqueKind.{UniqueKind}
use Rattle.cfgitems.specs.declared.occurrence.UniqueKind.TheVariants.{Start, ActionType, Expect, ExpectReduceReduce, PrintedForm, Precedence, AvoidInsert, ImplicitToken}
use Rattle.cfgwords.specs.FileWords.{Word}
use Rattle.cfgitems.specs.Items.{Item, StartDeclared, ActionTypeDeclared, PrintedFormDeclared, ExpectDeclared, ExpectReduceReduceDeclared, AvoidInsertDeclared, ImplicitTokenDeclared, PrecedenceDeclared}

-- what may be declared only once: for the grammar as a whole, or for the token of this name
pub record Unique : Type 0 where
  pub kind : UniqueKind
  pub token : Option (List ℕ)

-- where it is declared
pub record Occurrence : Type 0 where
  pub what : Unique
  pub span : Span

abbrev pub of_grammar : UniqueKind → Span → Occurrence
of_grammar kind span = record { what = record { kind = kind; token = None }; span = span }

abbrev pub of_token : UniqueKind → Word → Occurrence
of_token kind token = record { what = record { kind = kind; token = Some token.name }; span = token.span }

-- what an item declares of that
abbrev pub declared_once : Item → Option Occurrence
declared_once (StartDeclared word) = Some (of_grammar Start word.span)
declared_once (ActionTypeDeclared text) = Some (of_grammar ActionType text.1)
declared_once (PrintedFormDeclared token form) = Some (of_token PrintedForm token)
declared_once (ExpectDeclared number) = Some (of_grammar Expect number.1)
declared_once (ExpectReduceReduceDeclared number) = Some (of_grammar ExpectReduceReduce number.1)
declared_once (AvoidInsertDeclared token) = Some (of_token AvoidInsert token)
declared_once (ImplicitTokenDeclared token) = Some (of_token ImplicitToken token)
declared_once (PrecedenceDeclared kind token) = Some (of_token Precedence token)
declared_once _ = None
