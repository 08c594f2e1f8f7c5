-- A step that passes a byte, where nothing was found before.
use Rattle.std.proofs.Common.{◌≡◌, ℕ, List, ◌∷◌, length, fold, Option, Some, None, Result, Ok, Err, sym, ap, subst, ◌∙◌}
use Rattle.std.specs.declared.alloc.AllocError.{AllocError}
use denote.Ref.{Bor}
use Rattle.constructs.specs.Leaves.{Gives, ValueOf, Leaves}
use Rattle.constructs.specs.Construct.{Construct, computes}
use Rattle.constructs.specs.Steps.{Returns}
use Rattle.bison_words.specs.declared.class.Class.{Class}
use Rattle.bison_words.specs.declared.scanner.Scanner.{Scanner}
use Rattle.bison_words.specs.Runs.{byte_of}
use Rattle.bison_words.specs.RunGraphs.{byte_finder}
use Rattle.bison_words.specs.Words.{Item}
use Rattle.bison_words.specs.Inner.Builds.{Builds, Keeps, IsFoundHere, Made, made_by, add, scanner_kind}

pub not_found : {X W : Type 0} (view : X → W) (find : List ℕ → Option (W × List ℕ)) (old new : Scanner) (o : Option X) → IsFoundHere view find old new o → o ≡ None → new ≡ old
not_found view find old new (Some x) found none = cc
not_found view find old new None found none = found.1

-- what only passes a part of the text before something is read
reads_from : {l m : Leaves} {G : Gives} {X : Type 0} (view : X → ValueOf G) (c : Construct Item ⊥ l G) (d : Construct Item ⊥ m G) (old mid new : Scanner) (result : Result X AllocError)
    → Keeps old mid → computes c old.rest.now ≡ computes d mid.rest.now → Builds view mid new result d → Builds view old new result c
reads_from view c d old mid new (Ok x) keeps same builds =
    let made : made_by mid ≡ made_by old = cc in
    subst (Returns scanner_kind view old new (Ok x)) (sym same)
    (builds.0, builds.1 ∙ ap (λ (text : Bor (List ℕ)). length text.now) keeps.0, builds.2 ∙ ap (λ (m : Made). fold add m (computes d mid.rest.now).items) made)
reads_from view c d old mid new (Err e) keeps same builds = tt

module _ {l m : Leaves} {G : Gives} {X : Type 0} (view : X → ValueOf G) (k : ℕ) (c : ℕ → Construct Item ⊥ l G) (d : ℕ → List ℕ → Construct Item ⊥ m G)
    (same : (len : ℕ) (rest : List ℕ) → computes (c len) (k ∷ rest) ≡ computes (d len (k ∷ rest)) rest) where
  found_byte : (class : Class) (old next new : Scanner) (b : ℕ) (result : Result X AllocError) → IsFoundHere (λ x. x) (byte_of class) old next (Some b) → b ≡ k
      → Builds view next new result (d (length next.text.now) old.rest.now) → Builds view old new result (c (length old.text.now))
  found_byte class old next new b result found is builds =
      let text : old.rest.now ≡ k ∷ next.rest.now = ((byte_finder class).sound old.rest.now b next.rest.now found.0).whole ∙ ap (λ b. b ∷ next.rest.now) is in
      let len : length next.text.now ≡ length old.text.now = ap (λ (text : Bor (List ℕ)). length text.now) found.1.0 in
      reads_from view (c (length old.text.now)) (d (length old.text.now) old.rest.now) old next new result found.1
      (subst (λ text. computes (c (length old.text.now)) text ≡ computes (d (length old.text.now) text) next.rest.now) (sym text) (same (length old.text.now) next.rest.now))
      (subst (λ len. Builds view next new result (d len old.rest.now)) len builds)

  pub next_byte : (class : Class) (old mid next new : Scanner) (o : Option ℕ) (b : ℕ) (result : Result X AllocError) → mid ≡ old
      → IsFoundHere (λ x. x) (byte_of class) mid next o → o ≡ Some b → b ≡ k
      → Builds view next new result (d (length next.text.now) old.rest.now) → Builds view old new result (c (length old.text.now))
  next_byte class old mid next new o b result unmoved found some is builds =
      found_byte class old next new b result
      (subst (λ mid. IsFoundHere (λ x. x) (byte_of class) mid next (Some b)) unmoved (subst (IsFoundHere (λ x. x) (byte_of class) mid next) some found)) is builds
