-- What holds of everything that a construct gives, if it holds of its parts. T from text: text is a suffix of from. Each item has property
-- P, each fault S, and the value Q.
use Rattle.std.proofs.Common.{◌≡◌, ℕ, List, ◌++◌, Some, None, Result, Ok, Err, All}
use Rattle.constructs.specs.Read.{Read}
use Rattle.constructs.specs.Leaves.{Gives, ValueOf, Leaves}
use Rattle.constructs.specs.Construct.{Construct, gives, ends, emits, fails, word_or, silently, then, recovers, case_of, choice, here, many, Says}
use Rattle.constructs.proofs.Yields.{EndsIn, Yields, weaker, gives_yields, fails_yields, case_yields, choice_yields, word_yields, silently_yields, emits_yields, then_yields, recovers_yields, many_yields}

-- c gives a, somewhere after from
pub record Given {I F : Type 0} {l : Leaves} {G : Gives} (T : List ℕ → List ℕ → Type 0) (c : Construct I F l G) (from : List ℕ) (a : ValueOf G) : Type 0 where
  pub text : List ℕ
  pub items : List I
  pub rest : List ℕ
  pub there : T from text
  pub says : Says c text (record { items = items; outcome = Ok (a, rest) })

abbrev pub Keeps : {I F : Type 0} {l : Leaves} {G : Gives} (T : List ℕ → List ℕ → Type 0) (P : I → Type 0) (S : F → Type 0)
    → Construct I F l G → List ℕ → (ValueOf G → Type 0) → Type 0
Keeps T P S (gives a) from Q = Q a
Keeps T P S ends from Q = Q None
Keeps T P S (emits item) from Q = P item × Q tt
Keeps T P S (fails fault) from Q = (text : List ℕ) → T from text → S (fault text)
Keeps T P S (word_or {W = W} kind value c d) from Q =
    ((text : List ℕ) (word : W) (rest : List ℕ) → T from text → kind.Is text word rest → T from rest × Keeps T P S (c (value text word rest)) from Q)
    × Keeps T P S d from Q
Keeps {F = F} T P S (silently {A = A} kind) from Q =
    ((text : List ℕ) (o : Result (A × List ℕ) F) → T from text → kind.Is text o → EndsIn (T from) S (λ _. Unit {0}) o) × ((a : A) → Q a)
Keeps T P S (then c d) from Q = Keeps T P S c from (λ a. Keeps T P S (d a) from Q)
Keeps T P S (recovers c d) from Q = Keeps T P S c from Q × ((fault : _) → S fault → Keeps T P S (d fault) from Q)
Keeps T P S (case_of word c d) from Q =
    ((text rest : List ℕ) → T from text → text ≡ word ++ rest → T from rest) × Keeps T P S c from Q × Keeps T P S d from Q
Keeps T P S (choice test c d) from Q = Keeps T P S c from Q × Keeps T P S d from Q
Keeps T P S (here c) from Q = (text : List ℕ) → T from text → Keeps T P S (c text) text Q
Keeps T P S (many {A = A} c) from Q = Keeps T P S c from (λ _. Unit {0}) × ((values : List A) → All (λ a. Given T c from (Some a)) values → Q values)

-- other values have the property
on_ends : {F A : Type 0} (T : List ℕ → Type 0) (S : F → Type 0) (Q R : A → Type 0) → ((a : A) → Q a → R a)
    → (o : Result (A × List ℕ) F) → EndsIn T S Q o → EndsIn T S R o
on_ends T S Q R h (Ok (a, rest)) (t, q) = (t, h a q)
on_ends T S Q R h (Err fault) s = s

yields_on : {I F A : Type 0} {T : List ℕ → Type 0} {P : I → Type 0} {S : F → Type 0} (Q R : A → Type 0) {G : List ℕ → Read I F A → Type 0}
    → ((a : A) → Q a → R a) → Yields T P S Q G → Yields T P S R G
yields_on {T = T} {S = S} Q R h p = record {
  passes = λ text r t g. let it = p.passes text r t g in record { items = it.items; outcome = on_ends T S Q R h r.outcome it.outcome };
}

module _ {I F : Type 0} (T : List ℕ → List ℕ → Type 0) (P : I → Type 0) (S : F → Type 0)
    (start : (from text : List ℕ) → T from text → T text text) (on : (from text rest : List ℕ) → T from text → T text rest → T from rest) where
  given : {l : Leaves} {G : Gives} (c : Construct I F l G) (from : List ℕ) → Yields (T from) P S (λ _. Unit {0}) (Says c) → Yields (T from) P S (Given T c from) (Says c)
  given {G = G} c from p = record {
    passes = λ text r t g. let it = p.passes text r t g in record { items = it.items; outcome = go text t r.items r.outcome g it.outcome };
  }
    where
      go : (text : List ℕ) → T from text → (items : List I) (o : Result (ValueOf G × List ℕ) F) → Says c text (record { items = items; outcome = o })
          → EndsIn (T from) S (λ _. Unit {0}) o → EndsIn (T from) S (Given T c from) o
      go text t items (Ok (a, rest)) g e = (e.0, record { text = text; items = items; rest = rest; there = t; says = g })
      go text t items (Err fault) g e = e

  pub keeps : {l : Leaves} {G : Gives} (c : Construct I F l G) (from : List ℕ) (Q : ValueOf G → Type 0) → Keeps T P S c from Q → Yields (T from) P S Q (Says c)
  keeps (gives a) from Q k = gives_yields a k
  keeps ends from Q k = gives_yields None k
  keeps (emits item) from Q k = yields_on (λ _. Unit {0}) Q (λ _ _. k.1) (emits_yields item k.0)
  keeps (fails fault) from Q k = fails_yields fault k
  keeps (word_or kind value c d) from Q k =
      word_yields (λ text word rest t w. let it = k.0 text word rest t w in (it.0, keeps (c (value text word rest)) from Q it.1)) (keeps d from Q k.1)
  keeps (silently kind) from Q k = yields_on (λ _. Unit {0}) Q (λ a _. k.1 a) (silently_yields k.0)
  keeps (then c d) from Q k = then_yields (keeps c from (λ a. Keeps T P S (d a) from Q) k) (λ a q. keeps (d a) from Q q)
  keeps (recovers c d) from Q k = recovers_yields (keeps c from Q k.0) (λ fault s. keeps (d fault) from Q (k.1 fault s))
  keeps (case_of word c d) from Q k = case_yields word k.0 (keeps c from Q k.1) (keeps d from Q k.2)
  keeps (choice test c d) from Q k = choice_yields test (keeps c from Q k.0) (keeps d from Q k.1)
  keeps (here c) from Q k = record {
    passes = λ text r t g.
        let it = (keeps (c text) text Q (k text t)).passes text r (start from text t) g in
        record { items = it.items; outcome = weaker (T text) (T from) S Q (λ rest. on from text rest t) r.outcome it.outcome };
  }
  keeps (many c) from Q k = yields_on (All (λ a. Given T c from (Some a))) Q k.1 (many_yields (given c from (keeps c from (λ _. Unit {0}) k.0)))

  -- what a construct gives has the property if its parts do
  pub given_passes : {l : Leaves} {G : Gives} (c : Construct I F l G) (from : List ℕ) (Q : ValueOf G → Type 0) → Keeps T P S c from Q
      → (a : ValueOf G) → Given T c from a → Q a
  given_passes c from Q k a g = ((keeps c from Q k).passes g.text _ g.there g.says).outcome.1
