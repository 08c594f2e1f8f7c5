-- What a constructor returns for a text, by what was parsed from it, if anything was.
use Rattle.std.proofs.Common.{◌≡◌, ℕ, List, Option, Result, Ok, Err, IfOk, IfErr, MatchResult, IsErrAnd, refl, sym, subst, ap, ◌∙◌}
use Rattle.std.specs.Str.{IsUtf8}
use Rattle.cfgwords.specs.TextSpans.{IsPiece, IsWithin}
use Rattle.cfgitems.specs.Items.{Item}
use Rattle.cfgitems.specs.Syntax.{syntax_of}
use Rattle.cfgkinds.specs.declared.kind.YaccKind.{YaccKind}
use Rattle.cfgsection.specs.Named.{HasOneNaming, Naming, Names}
use Rattle.cfgerrors.specs.declared.error.YaccFault.{YaccFault}
use Rattle.cfgerrors.specs.declared.error.YaccFault.TheVariants as faults
use Rattle.cfgsyntax.specs.Faults.{errors_of}
use Rattle.cfgsyntax.specs.SelfNamed.{ReturnsNaming, IsParsedAs}
use Rattle.cfgsyntax.specs.Parsed.{Parsed}
use Rattle.cfgsyntax.specs.ErrorSpans.{EachFaultSpan, EachParsedSpan}
use Rattle.cfgsyntax.specs.Reads.{HasOneReading, Reads, Stop}
use Rattle.cfgyacc.specs.Answer.{Found, WasRead, IsAnswer, IsRefused}
use Rattle.cfgyacc.specs.GrammarOf.{IsGrammarOf, IsGrammarOfItself}
use Rattle.cfgyacc.specs.GrammarSpans.{EachAnswerSpan}
use Rattle.cfgnumbers.specs.Numbered.{Numbered}
use Rattle.cfgyacc.proofs.SelfNamed.{IsFaultOf, is_parsed_of, parsed_named, parsed_of, refused_named}

-- a fault that becomes another kind of fault, while a value stays
pub carried : {T E D : Type 0} (P : T → Type 0) (Q : E → D → Type 0) (made : Result T E) (mapped : Result T D) → MatchResult made (λ x. mapped ≡ Ok x) (λ e. IsErrAnd mapped (Q e))
    → IfOk made P → IfOk mapped P
carried P Q (Ok x) mapped same holds = subst (λ r. IfOk r P) (sym same) holds
carried P Q (Err e) (Ok x) same holds = absurd same
carried P Q (Err e) (Err d) same holds = tt

-- and what is true of that fault
pub carried_fault : {T E D : Type 0} (Q : E → D → Type 0) (R : D → Type 0) (made : Result T E) (mapped : Result T D) → MatchResult made (λ x. mapped ≡ Ok x) (λ e. IsErrAnd mapped (Q e))
    → ((e : E) (d : D) → Q e d → R d) → IfErr mapped R
carried_fault Q R (Ok x) mapped same holds = subst (λ r. IfErr r R) (sym same) tt
carried_fault Q R (Err e) (Ok x) same holds = absurd same
carried_fault Q R (Err e) (Err d) same holds = holds e d same

-- what was parsed as a file of a kind
pub parsed_as : {E : Type 0} (kind : YaccKind) (text : List ℕ) (parsed : Result Parsed E) → HasOneReading kind text → IfOk parsed (λ p. p.kind ≡ kind)
    → IfOk parsed (λ p. (items : List Item) (stop : Option Stop) → Reads kind text items stop → p.syntax ≡ syntax_of items)
    → IfOk parsed (λ p. (items : List Item) (stop : Option Stop) → Reads kind text items stop → p.errors ≡ errors_of items stop) → IfOk parsed (IsParsedAs kind text)
parsed_as kind text (Ok p) one kind_is syntax errors = record { one = one; kind_is = kind_is; syntax = syntax; errors = errors }
parsed_as kind text (Err e) one kind_is syntax errors = tt

-- a fault is the result for what it leaves to be found
fault_results : (max : ℕ) (fault : YaccFault) (found : Found) → IsFaultOf fault found → IsAnswer max found (Err fault)
fault_results max faults.OutOfMemory found is = tt
fault_results max (faults.Errors reported) found is = subst (λ x. IsRefused max x reported.items) (sym is) refl

module _ (text : List ℕ) (max : ℕ) (result : Result Numbered YaccFault) where
  -- the result is that of what was parsed, or the fault if there is one
  pub record IsOf (parsed : Result Parsed YaccFault) : Type 0 where
    pub answer : IfOk parsed (λ p. IsAnswer max (WasRead p) result)
    pub refused : IfErr parsed (λ fault. result ≡ Err fault)

  pub of_kind : (kind : YaccKind) (parsed : Result Parsed YaccFault) → HasOneReading kind text → IfOk parsed (IsParsedAs kind text) → IfErr parsed (λ fault. fault ≡ faults.OutOfMemory)
      → IsOf parsed → IsGrammarOf kind text max result
  of_kind kind (Ok parsed) one is memory of = (WasRead parsed, is, of.answer)
  of_kind kind (Err fault) one is memory of = (
    WasRead (parsed_of kind text one),
    is_parsed_of kind text one,
    subst (IsAnswer max (WasRead (parsed_of kind text one))) (sym (of.refused ∙ ap Err memory)) tt,
  )

  pub of_itself : (parsed : Result Parsed YaccFault) → HasOneNaming text → ((naming : Naming) → Names text naming → ReturnsNaming text naming parsed)
      → IsOf parsed → IsGrammarOfItself text max result
  of_itself (Ok parsed) one is of = (WasRead parsed, parsed_named text one parsed is, of.answer)
  of_itself (Err fault) one is of =
      let it = refused_named text one fault is in
      (it.0, it.1, subst (IsAnswer max it.0) (sym of.refused) (fault_results max fault it.0 it.2))

-- the spans of the result
pub answer_spans : (text : List ℕ) → IsUtf8 text → (parsed : Result Parsed YaccFault) (result : Result Numbered YaccFault)
    → IfOk parsed (EachParsedSpan (IsPiece text) (IsWithin text)) → IfErr parsed (EachFaultSpan (IsPiece text))
    → IfOk parsed (λ p. (text : List ℕ) → IsUtf8 text → EachParsedSpan (IsPiece text) (IsWithin text) p → EachAnswerSpan (IsPiece text) (IsWithin text) result)
    → IfErr parsed (λ fault. result ≡ Err fault) → EachAnswerSpan (IsPiece text) (IsWithin text) result
answer_spans text utf8 (Ok parsed) result located fault_located answer refused = answer text utf8 located
answer_spans text utf8 (Err faults.OutOfMemory) result located fault_located answer refused = subst (EachAnswerSpan (IsPiece text) (IsWithin text)) (sym refused) tt
answer_spans text utf8 (Err (faults.Errors reported)) result located fault_located answer refused = subst (EachAnswerSpan (IsPiece text) (IsWithin text)) (sym refused) fault_located
