-- What the code's keywords declare, as constructs.
use Rattle.std.specs.Prelude.{◌≡◌, ℕ, List, [], ◌∷◌, Option, Some, None}
use denote.Ref.{Bor}
use Rattle.constructs.specs.Pieces.{strip}
use Rattle.constructs.specs.Read.{gives}
use Rattle.constructs.specs.Construct.{then, again, computes}
use Rattle.cfgitems.specs.Items.{ExpectDeclared, ExpectReduceReduceDeclared}
use Rattle.cfgkinds.specs.declared.kind.YaccKind.{YaccKind}
use Rattle.cfgreader.specs.declared.keywords.Declaration.{Declaration}
use Rattle.cfgreader.specs.declared.keywords.Declaration.TheVariants as code
use Rattle.cfgreader.specs.declared.reader.Reader.{Reader}
use Rattle.cfgreader.specs.Keywords.{After, after}
use Rattle.cfgreader.specs.Declarations.{list_declaration, start_declaration, epp_declaration, marking_declaration, precedence_declaration, number_declaration, parse_param_declaration, parse_generics_declaration, action_type_declaration, declaration}
use Rattle.cfgreader.specs.Inner.Lists.{listed_in, begun, marked}

abbrev pub with_value : {A : Type 0} → A → Option (List ℕ) → Option (A × List ℕ) → Option (A × List ℕ)
with_value a (Some rest) further = Some (a, rest)
with_value a None further = further

-- the value of a table's first word that the text begins with, and the rest after that word
unfoldable pub first_of : {A : Type 0} → List (List ℕ × A) → List ℕ → Option (A × List ℕ)
first_of [] text = None
first_of ((word, a) ∷ table) text = with_value a (strip word text) (first_of table text)

-- what follows a keyword
abbrev pub declared : ℕ → Declaration → After
declared len (code.List list) = after (list_declaration len (listed_in len list))
declared len code.Start = after (start_declaration len)
declared len code.PrintedForm = after (epp_declaration len)
declared len (code.Marked marking) = after (marking_declaration len (begun marking) (marked marking))
declared len (code.Precedence kind) = after (precedence_declaration len kind)
declared len code.Expect = after (number_declaration len ExpectDeclared)
declared len code.ExpectReduceReduce = after (number_declaration len ExpectReduceReduceDeclared)
declared len code.ParseParam = after (parse_param_declaration len)
declared len code.ParseGenerics = after (parse_generics_declaration len)
declared len code.ActionType = after (action_type_declaration len)

abbrev pub shown_sequence : Bor (List ℕ) × Declaration → List ℕ × Declaration
shown_sequence sequence = (sequence.0.now, sequence.1)

-- which of a table's words the text begins with (the first of them), and the rest after it
abbrev pub IsSequenceHere : List (List ℕ × Declaration) → Reader → Reader → Option Declaration → Type 0
IsSequenceHere table old new (Some found) = (first_of table old.rest.now ≡ Some (found, new.rest.now)) × (new.len ≡ old.len) × (new.tree ≡ old.tree)
IsSequenceHere table old new None = (first_of table old.rest.now ≡ None) × (new ≡ old)

-- whether there is a declaration here, and the rest after its keyword, where reading it continues
abbrev pub IsKeywordHere : YaccKind → Reader → Reader → Option Declaration → Type 0
IsKeywordHere kind old new (Some found) =
    (computes (declaration old.len kind) old.rest.now ≡ computes (then (declared old.len found).construct again) new.rest.now) × (new.len ≡ old.len) × (new.tree ≡ old.tree)
IsKeywordHere kind old new None = (computes (declaration old.len kind) old.rest.now ≡ gives None old.rest.now) × (new ≡ old)
