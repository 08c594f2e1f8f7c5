-- A text that has no grammar has at least one error.
use Rattle.std.proofs.Common.{◌≡◌, ℕ, ◌<◌, List, [], ◌∷◌, length, arith, Result, Ok, Err, refl, sym, subst}
use Rattle.std.specs.Prelude.{IfErr}
use Rattle.std.proofs.lemmas.List.{length-map}
use Rattle.cfgkinds.specs.declared.kind.YaccKind.{YaccKind}
use Rattle.cfgsection.specs.Named.{Naming}
use Rattle.cfgsection.proofs.Refusals.{HasErrors, errors_there}
use Rattle.cfgerrors.specs.Errors.{GrammarError, header_error}
use Rattle.cfgerrors.specs.Refusal.{ListsErrors}
use Rattle.cfgerrors.specs.declared.error.YaccFault.{YaccFault}
use Rattle.cfgerrors.specs.declared.error.YaccFault.TheVariants as faults
use Rattle.cfgfaults.specs.FaultErrors.{IsTooSmall}
use Rattle.cfgyacc.specs.Answer.{Found, Unnamed, WasRead, IsAnswer, IsReadRefused, in_numbers}
use Rattle.cfgyacc.specs.GrammarOf.{IsFoundAs, IsFoundNamed, IsGrammarOf, IsGrammarOfItself}
use Rattle.cfgnumbers.specs.Numbered.{Numbered}

read_refused : (max : ℕ) (errors : List GrammarError) (g : Numbered) (reported : List GrammarError) → IsReadRefused max errors g reported → 0 < length reported
read_refused max [] g reported is = subst (λ xs. 0 < length xs) (sym is.1) (omega arith)
read_refused max (error ∷ errors) g reported is = subst (λ xs. 0 < length xs) (sym is) (omega arith)

-- a text that names no kind has at least one
abbrev pub HasSome : Found → Type 0
HasSome (Unnamed errors) = 0 < length errors
HasSome (WasRead parsed) = Unit {0}

pub answer_lists : (max : ℕ) (found : Found) (result : Result Numbered YaccFault) → HasSome found → IsAnswer max found result → IfErr result ListsErrors
answer_lists max found (Ok grammar) some is = tt
answer_lists max found (Err faults.OutOfMemory) some is = tt
answer_lists max (Unnamed errors) (Err (faults.Errors reported)) some is = subst (λ xs. 0 < length xs) (sym is) some
answer_lists max (WasRead parsed) (Err (faults.Errors reported)) some is = read_refused max parsed.errors (in_numbers parsed) reported.items is

pub too_small_lists : (fault : YaccFault) → IsTooSmall fault → ListsErrors fault
too_small_lists faults.OutOfMemory is = absurd is
too_small_lists (faults.Errors reported) is = subst (λ xs. 0 < length xs) (sym is) (omega arith)

pub errors_list : (reported errors : List GrammarError) → reported ≡ errors → (errors ≡ [] → ⊥) → 0 < length reported
errors_list reported [] same some = absurd (some refl)
errors_list reported (error ∷ errors) same some = subst (λ xs. 0 < length xs) (sym same) (omega arith)

found_as : (kind : YaccKind) (text : List ℕ) (found : Found) → IsFoundAs kind text found → HasSome found
found_as kind text (Unnamed errors) is = absurd is
found_as kind text (WasRead parsed) is = tt

found_named : (text : List ℕ) (naming : Naming) (found : Found) → HasErrors naming → IsFoundNamed text naming found → HasSome found
found_named text (Ok kind) found some is = found_as kind text found is
found_named text (Err errors) found some is = subst HasSome (sym is) (subst (λ n. 0 < n) (sym (length-map errors header_error)) some)

pub grammar_lists : (kind : YaccKind) (text : List ℕ) (max : ℕ) (result : Result Numbered YaccFault) → IsGrammarOf kind text max result → IfErr result ListsErrors
grammar_lists kind text max result of = answer_lists max of.0 result (found_as kind text of.0 of.1) of.2

pub itself_lists : (text : List ℕ) (max : ℕ) (result : Result Numbered YaccFault) → IsGrammarOfItself text max result → IfErr result ListsErrors
itself_lists text max result of =
    let one = of.1.0 in
    answer_lists max of.0 result (found_named text one.naming of.0 (errors_there text one.naming one.names) of.1.1) of.2
