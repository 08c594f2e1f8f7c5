-- What a text turns out to be, by what is parsed from it.
use Rattle.std.proofs.Common.{◌≡◌, List, ℕ, map, Ok, Err, refl, ap, sym}
use Rattle.cfgkinds.specs.declared.kind.YaccKind.{YaccKind}
use Rattle.cfgsection.specs.Named.{HasOneNaming, Naming, Names}
use Rattle.cfgerrors.specs.Errors.{header_error}
use Rattle.cfgerrors.specs.declared.error.YaccFault.{YaccFault}
use Rattle.cfgerrors.specs.declared.error.YaccFault.TheVariants as faults
use Rattle.cfgitems.specs.Syntax.{syntax_of}
use Rattle.cfgsyntax.specs.Faults.{errors_of}
use Rattle.cfgsyntax.specs.SelfNamed.{IsParsedAs, ReturnsNaming}
use Rattle.cfgsyntax.specs.Parsed.{Parsed}
use Rattle.cfgsyntax.specs.Reads.{HasOneReading}
use Rattle.cfgsyntax.proofs.OneReading.{one_reading}
use Rattle.cfgyacc.specs.Answer.{Found, Unnamed, WasRead}
use Rattle.cfgyacc.specs.GrammarOf.{IsFoundNamed, IsFoundItself}

-- what a text's only reading gives
abbrev pub parsed_of : (kind : YaccKind) (text : List ℕ) → HasOneReading kind text → Parsed
parsed_of kind text one = record { kind = kind; syntax = syntax_of one.items; errors = errors_of one.items one.stop }

pub is_parsed_of : (kind : YaccKind) (text : List ℕ) (one : HasOneReading kind text) → IsParsedAs kind text (parsed_of kind text one)
is_parsed_of kind text one = record {
  one = one;
  kind_is = refl;
  syntax = λ items stop reads. sym (ap syntax_of (one.only items stop reads).0);
  errors = λ items stop reads i. errors_of (sym (one.only items stop reads).0 i) (sym (one.only items stop reads).1 i);
}

parsed_by_naming : (text : List ℕ) (parsed : Parsed) (naming : Naming) → ReturnsNaming text naming (Ok parsed) → IsFoundNamed text naming (WasRead parsed)
parsed_by_naming text parsed (Ok kind) is = is
parsed_by_naming text parsed (Err errors) is = absurd is

-- if the text was parsed as the kind that it names
pub parsed_named : (text : List ℕ) → HasOneNaming text → (parsed : Parsed) → ((naming : Naming) → Names text naming → ReturnsNaming text naming (Ok parsed))
    → IsFoundItself text (WasRead parsed)
parsed_named text one parsed answer = (one, parsed_by_naming text parsed one.naming (answer one.naming one.names))

-- what is found if nothing was parsed: the errors that are returned, or anything if memory ran out
abbrev pub IsFaultOf : YaccFault → Found → Type 0
IsFaultOf faults.OutOfMemory found = Unit {0}
IsFaultOf (faults.Errors reported) found = found ≡ Unnamed reported.items

refused_by_naming : (text : List ℕ) (fault : YaccFault) (naming : Naming) → ReturnsNaming text naming (Err fault) → (found : Found) × IsFoundNamed text naming found × IsFaultOf fault found
refused_by_naming text faults.OutOfMemory (Ok kind) is = let one = one_reading kind text in (WasRead (parsed_of kind text one), is_parsed_of kind text one, tt)
refused_by_naming text faults.OutOfMemory (Err errors) is = (Unnamed (map header_error errors), refl, tt)
refused_by_naming text (faults.Errors reported) (Ok kind) is = absurd is
refused_by_naming text (faults.Errors reported) (Err errors) is = (Unnamed (map header_error errors), refl, sym (ap Unnamed is))

-- if nothing was parsed
pub refused_named : (text : List ℕ) → HasOneNaming text → (fault : YaccFault) → ((naming : Naming) → Names text naming → ReturnsNaming text naming (Err fault))
    → (found : Found) × IsFoundItself text found × IsFaultOf fault found
refused_named text one fault answer =
    let it = refused_by_naming text fault one.naming (answer one.naming one.names) in
    (it.0, (one, it.1), it.2)
