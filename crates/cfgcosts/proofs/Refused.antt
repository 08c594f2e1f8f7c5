-- The results for a sentence if its cost is an error, or isn't.
use Rattle.std.proofs.Common.{◌≡◌, ◌↔◌, ℕ, Result, Ok, Err, refl, sym, ap, ◌∙◌}
use Rattle.std.specs.Prelude.{IfOk}
use Rattle.std.specs.Result.{IsErrAnd}
use Rattle.derivation.specs.declared.errors.CostError.{CostError}
use Rattle.derivation.specs.declared.errors.CostError.TheVariants as costs
use Rattle.cfgcosts.specs.declared.errors.SentenceError.{SentenceError}
use Rattle.cfgcosts.specs.declared.errors.SentenceError.TheVariants.{NoSentence, CostTooLarge, OutOfMemory}
use Rattle.cfgcosts.specs.Sentences.{sentence_error}

refusal : {A : Type 0} (result : Result A SentenceError) (e : SentenceError) → IsErrAnd result (λ x. x ≡ e) → result ≡ Err e
refusal (Ok a) e h = absurd h
refusal (Err x) e h = ap Err h

same_error : (d e : CostError) → sentence_error d ≡ sentence_error e → d ≡ e
same_error costs.NoSentence costs.NoSentence is = refl
same_error costs.CostTooLarge costs.CostTooLarge is = refl
same_error costs.NoSentence costs.CostTooLarge is = let no : NoSentence ≡ CostTooLarge = is in absurd (cc)
same_error costs.CostTooLarge costs.NoSentence is = let no : CostTooLarge ≡ NoSentence = is in absurd (cc)

other_error : (e : CostError) → OutOfMemory ≡ sentence_error e → ⊥
other_error costs.NoSentence is = let no : OutOfMemory ≡ NoSentence = is in cc
other_error costs.CostTooLarge is = let no : OutOfMemory ≡ CostTooLarge = is in cc

module _ {A : Type 0} {result : Result A SentenceError} where
  -- if the cost is an error, the sentence is the same error
  pub refused : {P : Type 0} → (d e : CostError) → IsErrAnd result (λ x. x ≡ sentence_error d) → (◌≡◌ {A = Result ℕ CostError} (Err d) (Err e)) ↔ P → (result ≡ Err (sentence_error e)) ↔ P
  refused d e h reported =
      let is = refusal result (sentence_error d) h in (
        (λ k. let both : ◌≡◌ {A = Result A SentenceError} (Err (sentence_error d)) (Err (sentence_error e)) = sym is ∙ k in
            let errors : sentence_error d ≡ sentence_error e = cc in reported.0 (ap Err (same_error d e errors))),
        (λ p. let both : ◌≡◌ {A = Result ℕ CostError} (Err d) (Err e) = reported.1 p in
            let errors : d ≡ e = cc in is ∙ ap (λ e. Err (sentence_error e)) errors),
      )

  pub refused_memory : (e : CostError) → IsErrAnd result (λ x. x ≡ OutOfMemory) → result ≡ Err (sentence_error e) → ⊥
  refused_memory e h k =
      let both : ◌≡◌ {A = Result A SentenceError} (Err OutOfMemory) (Err (sentence_error e)) = sym (refusal result OutOfMemory h) ∙ k in
      let errors : OutOfMemory ≡ sentence_error e = cc in other_error e errors

  -- if there is a cost, the only error is out of memory
  pub known_memory : {P : Type 0} → (c : ℕ) (e : CostError) → IsErrAnd result (λ x. x ≡ OutOfMemory) → (◌≡◌ {A = Result ℕ CostError} (Ok c) (Err e)) ↔ P → (result ≡ Err (sentence_error e)) ↔ P
  known_memory c e h reported = (
    (λ k. absurd (refused_memory e h k)),
    (λ p. let no : ◌≡◌ {A = Result ℕ CostError} (Ok c) (Err e) = reported.1 p in absurd (cc)),
  )

  pub known_sentence : {P : Type 0} → (a : A) (c : ℕ) (e : CostError) → result ≡ Ok a → (◌≡◌ {A = Result ℕ CostError} (Ok c) (Err e)) ↔ P → (result ≡ Err (sentence_error e)) ↔ P
  known_sentence a c e is reported = (
    (λ k. let no : ◌≡◌ {A = Result A SentenceError} (Ok a) (Err (sentence_error e)) = sym is ∙ k in absurd (cc)),
    (λ p. let no : ◌≡◌ {A = Result ℕ CostError} (Ok c) (Err e) = reported.1 p in absurd (cc)),
  )

-- if there is no result, nothing is claimed of it
pub unanswered : {A : Type 0} (P : SentenceError → Type 0) (Q : A → Type 0) (result : Result A SentenceError) → IsErrAnd result P → IfOk result Q
unanswered P Q (Ok a) h = absurd h
unanswered P Q (Err x) h = tt
