-- What a step of the reader does, given what reading gives from there.
use Rattle.std.specs.Prelude.{◌≡◌, ◌≤◌, ℕ, Bool, true, false, List, [], ◌∷◌, map, Option, Some, None, option_map, Result, Ok, Err}
use denote.Ref.{Bor}
use Rattle.cfgwords.specs.declared.fault.FaultKind.{FaultKind}
use Rattle.cfgbase.specs.declared.span.Span.{Span}
use Rattle.cfgwords.specs.Actions.{action_at, action_of}
use Rattle.cfgwords.specs.Text.{fault_at, offset_of}
use Rattle.cfgwords.specs.Blank.{part_of, prefix_of}
use Rattle.constructs.specs.Leaves.{Gives, OneOrEnd, ValueOf, Leaves}
use Rattle.cfgwords.specs.declared.fault.Fault.{Fault}
use Rattle.cfgwords.specs.FileWords.{TokenText, name_of, token_of, word_at, token_at}
use Rattle.cfgwords.specs.declared.words.Word.{Word as CodeWord}
use Rattle.cfgwords.specs.declared.words.Token.{Token as CodeToken}
use Rattle.cfgitems.specs.Items.{Item}
use Rattle.cfgitems.specs.Building.{add}
use Rattle.cfgitems.specs.Syntax.{Syntax}
use Rattle.cfgitems.specs.SyntaxView.{syntax_built, word_view, token_view}
use Rattle.constructs.specs.Construct.{Construct}
use Rattle.constructs.specs.Steps as steps
use Rattle.constructs.specs.Steps.{ReaderKind}
use Rattle.cfgreader.specs.declared.bodies.Part.{Part as CodePart}
use Rattle.cfgreader.specs.declared.bodies.Part.TheVariants as code_parts
use Rattle.cfgreader.specs.declared.bodies.Parts.{Parts as CodeParts}
use Rattle.cfgreader.specs.declared.reader.Reader.{Reader}
use Rattle.cfgreader.specs.declared.reader.ReadFault.{ReadFault}
use Rattle.cfgreader.specs.declared.reader.ReadFault.TheVariants as errors
use Rattle.cfgreader.specs.Rules.{Part, Parts, SymbolPart, PrecedencePart, EmptyPart, part_end, with_parts}

abbrev pub fault_of : ReadFault → Option Fault
fault_of errors.OutOfMemory = None
fault_of (errors.Fault fault) = Some fault

-- a reader of files: the tree holds what was built
abbrev pub file_reader : ReaderKind Reader ℕ ReadFault Syntax Item Fault
file_reader = record {
  fixed = λ reader. reader.len;
  rest = λ reader. reader.rest.now;
  made = λ reader. syntax_built reader.tree;
  add = add;
  fault = fault_of;
}

-- the tree has grown by the items
abbrev pub Grows : Reader → Reader → List Item → Type 0
Grows = steps.Grows file_reader

-- reading the construct stops so, unless memory ran out
abbrev pub Fails : {l : Leaves} {G : Gives} → Reader → Reader → ReadFault → Construct Item Fault l G → Type 0
Fails = steps.Fails file_reader

-- What a step returned, converted by view, is what reading the construct gives, and the tree has grown by the items that were read, unless
-- memory ran out.
abbrev pub Builds : {l : Leaves} {G : Gives} {X : Type 0} → (X → ValueOf G) → Reader → Reader → Result X ReadFault → Construct Item Fault l G → Type 0
Builds = steps.Builds file_reader

-- whether there is a part of a blank here, and the rest after it
abbrev pub IsPartHere : Bool → Reader → Result (Option (Bor (List ℕ))) ReadFault → Type 0
IsPartHere lines reader (Ok part) = part_of lines (prefix_of reader.rest.now) ≡ Ok (option_map (λ rest. rest.now) part)
IsPartHere lines reader (Err errors.OutOfMemory) = ⊥
IsPartHere lines reader (Err (errors.Fault fault)) = (kind : FaultKind) × (part_of lines (prefix_of reader.rest.now) ≡ Err kind) × (fault ≡ fault_at reader.len kind reader.rest.now)

abbrev pub text_view : CodeToken → TokenText
text_view token = record { name = token.name.now; quoted = token.quoted }

-- whether there is a name here, and the rest after it
abbrev pub IsNameHere : Reader → Reader → Option CodeWord → Type 0
IsNameHere old new (Some word) = (name_of old.rest.now ≡ Some (word.name.now, new.rest.now))
    × (word_at old.len old.rest.now word.name.now new.rest.now ≡ word_view word) × (new.len ≡ old.len) × (new.tree ≡ old.tree)
IsNameHere old new None = (name_of old.rest.now ≡ None) × (new ≡ old)

-- whether there is a token here, and the rest after it
abbrev pub IsTokenHere : Reader → Reader → Option CodeToken → Type 0
IsTokenHere old new (Some token) = (token_of old.rest.now ≡ Some (text_view token, new.rest.now))
    × (token_at old.len old.rest.now (text_view token) new.rest.now ≡ token_view token) × (new.len ≡ old.len) × (new.tree ≡ old.tree)
IsTokenHere old new None = (token_of old.rest.now ≡ None) × (new ≡ old)

-- a part of a production, and what was read of one
abbrev pub part_view : CodePart → Part
part_view (code_parts.Symbol token) = SymbolPart (token_view token)
part_view (code_parts.Precedence token) = PrecedencePart (token_view token)
part_view (code_parts.Nullable end) = EmptyPart end

abbrev pub parts_view : CodeParts → Parts
parts_view parts = record {
  symbols = map token_view parts.symbols.items;
  precedences = map token_view parts.precedences.items;
  end = parts.end;
}

-- What a turn over the parts of a production did, given the construct that it read: it added the part that was read, which doesn't end before
-- the turn's start, or there was none, or it stopped.
abbrev pub AddsPart : {l : Leaves} → Reader → Reader → CodeParts → CodeParts → Result Bool ReadFault → Construct Item Fault l (OneOrEnd Part) → Type 0
AddsPart old new before after (Ok true) c = (part : Part) × Builds (λ (more : Bool). Some part) old new (Ok true) c
    × (parts_view after ≡ with_parts (parts_view before) (part ∷ [])) × (offset_of old.len old.rest.now ≤ part_end part)
AddsPart old new before after (Ok false) c = Builds (λ (more : Bool). None) old new (Ok false) c × (after ≡ before)
AddsPart old new before after (Err e) c = Fails old new e c

-- whether there is an action here, and the rest after it
abbrev pub IsActionHere : Reader → Reader → Option (Bor (List ℕ) × Span) → Type 0
IsActionHere old new (Some action) = (action_of old.rest.now ≡ Some (action.0.now, new.rest.now))
    × (action_at old.len old.rest.now action.0.now new.rest.now ≡ (action.0.now, action.1)) × (new.len ≡ old.len) × (new.tree ≡ old.tree)
IsActionHere old new None = (action_of old.rest.now ≡ None) × (new ≡ old)
