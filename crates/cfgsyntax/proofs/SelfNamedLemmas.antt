-- What is returned for a text that names its own kind.
use Rattle.std.proofs.Common.{◌≡◌, ℕ, ◌<◌, List, length, All, Option, Some, None, Ok, Err, sym, subst, ap, ◌∙◌}
use Rattle.std.proofs.lemmas.List.{length-map}
use Rattle.cfgwords.specs.TextSpans.{IsPiece}
use Rattle.cfgkinds.specs.declared.kind.YaccKind.{YaccKind}
use Rattle.cfgerrors.specs.HeaderErrors.{error_view}
use Rattle.cfgerrors.specs.Refusal as grammar
use Rattle.cfgsection.specs.declared.section.header_fault.HeaderFault.{HeaderFault}
use Rattle.cfgsection.specs.declared.section.header_fault.HeaderFault.TheVariants as header
use Rattle.cfgsection.specs.Named.{IsKindIfNamed, IsNaming, Naming}
use Rattle.cfgsection.specs.SectionOffsets.{IsFaultAt}
use Rattle.cfgsection.specs.SectionReads.{errors_view}
use Rattle.cfgsection.specs.SectionRefusal.{ListsErrors}
use Rattle.cfgerrors.specs.Errors.{header_error}
use Rattle.cfgerrors.specs.declared.error.YaccFault.{YaccFault}
use Rattle.cfgerrors.specs.declared.error.YaccFault.TheVariants as faults
use Rattle.cfgfaults.specs.declared.source.KindSource.{KindSource}
use Rattle.cfgfaults.specs.declared.source.KindSource.TheVariants as sources
use Rattle.cfgfaults.specs.FaultErrors.{IsFaultOf}
use Rattle.cfgsyntax.specs.SelfNamed.{IsParsedAs, ReturnsNaming, ReturnsNamedOr}
use Rattle.cfgsyntax.specs.Parsed.{Parsed}
use Rattle.cfgsyntax.specs.ErrorSpans.{EachErrorSpan, EachFaultSpan}
use Rattle.cfgsyntax.proofs.ErrorOffsets.{section_errors_at}

no_memory : (text : List ℕ) (naming : Naming) → ReturnsNaming text naming (Err faults.OutOfMemory)
no_memory text (Ok kind) = tt
no_memory text (Err errors) = tt

module _ (text : List ℕ) where
  -- for a text whose section has this fault
  pub refusal : (naming : Naming) (fault : HeaderFault) (shown : YaccFault) → IsNaming naming (Err fault) → IsFaultOf fault shown → ReturnsNaming text naming (Err shown)
  refusal naming fault faults.OutOfMemory is same = no_memory text naming
  refusal naming (header.Errors errors) (faults.Errors shown) is same = subst (λ n. ReturnsNaming text n (Err (faults.Errors shown))) (sym is) same
  refusal naming header.OutOfMemory (faults.Errors shown) is same = absurd same

  pub refusal_or : (default : YaccKind) (fault : HeaderFault) (shown : YaccFault) → IsKindIfNamed text (Err fault) → IsFaultOf fault shown → ReturnsNamedOr default text (Err shown)
  refusal_or default fault faults.OutOfMemory is same = tt
  refusal_or default (header.Errors errors) (faults.Errors shown) is same = (is.0, (Err (errors_view errors.items), is.1, same))
  refusal_or default header.OutOfMemory (faults.Errors shown) is same = absurd same

  pub refused_at : (fault : HeaderFault) (shown : YaccFault) → IsFaultAt text fault → IsFaultOf fault shown → EachFaultSpan (IsPiece text) shown
  refused_at fault faults.OutOfMemory at same = tt
  refused_at (header.Errors errors) (faults.Errors shown) at same =
      subst (All (EachErrorSpan (IsPiece text))) (sym same) (section_errors_at text (errors_view errors.items) at)
  refused_at header.OutOfMemory (faults.Errors shown) at same = absurd same

  pub parsed_as : (naming : Naming) (kind : YaccKind) (parsed : Parsed) → naming ≡ Ok kind → IsParsedAs kind text parsed → ReturnsNaming text naming (Ok parsed)
  parsed_as naming kind parsed is h = subst (λ n. ReturnsNaming text n (Ok parsed)) (sym is) h

  -- by what named the kind that it was read as
  pub parsed_named : (default : YaccKind) (named : Option YaccKind) (read_as : YaccKind × KindSource) (parsed : Parsed) (kind : YaccKind)
      → IsKindIfNamed text (Ok named) → named ≡ Some kind → read_as ≡ (kind, sources.Section) → IsParsedAs read_as.0 text parsed → ReturnsNamedOr default text (Ok (parsed, read_as.1))
  parsed_named default named read_as parsed kind is some same it =
      let names = subst (λ n. IsKindIfNamed text (Ok n)) some is in
      subst (λ (r : YaccKind × KindSource). IsParsedAs r.0 text parsed → ReturnsNamedOr default text (Ok (parsed, r.1))) (sym same) (λ it. (names.0, (Ok kind, names.1, it))) it

  pub parsed_default : (default : YaccKind) (named : Option YaccKind) (read_as : YaccKind × KindSource) (parsed : Parsed)
      → IsKindIfNamed text (Ok named) → named ≡ None → read_as ≡ (default, sources.Default) → IsParsedAs read_as.0 text parsed → ReturnsNamedOr default text (Ok (parsed, read_as.1))
  parsed_default default named read_as parsed is none same it =
      let names = subst (λ n. IsKindIfNamed text (Ok n)) none is in
      subst (λ (r : YaccKind × KindSource). IsParsedAs r.0 text parsed → ReturnsNamedOr default text (Ok (parsed, r.1))) (sym same) (λ it. (names, it)) it

pub refused_listed : (fault : HeaderFault) (shown : YaccFault) → ListsErrors fault → IsFaultOf fault shown → grammar.ListsErrors shown
refused_listed fault faults.OutOfMemory some same = tt
refused_listed (header.Errors errors) (faults.Errors shown) some same =
    let long = ap length same ∙ length-map (errors_view errors.items) header_error ∙ length-map errors.items error_view in
    subst (λ n. 0 < n) (sym long) some
refused_listed header.OutOfMemory (faults.Errors shown) some same = absurd same
