-- What holds of everything that a construct gives, as in constructs' Keeps, but with what a test or a kind of words says. Where a piece
-- begins and ends doesn't matter. Each item has property P, and the value Q.
use Rattle.std.proofs.Common.{◌≡◌, ℕ, Bool, true, false, List, None, Result, Ok, Err, All}
use Rattle.constructs.specs.Read.{Read, Choice, where_true, where_false}
use Rattle.constructs.specs.Leaves.{Gives, ValueOf, Leaves}
use Rattle.constructs.specs.Construct.{Construct, gives, ends, emits, fails, word_or, silently, then, recovers, case_of, choice, here, many, Says, computes}
use Rattle.constructs.proofs.Agree.{agree}
use Rattle.constructs.proofs.Yields.{EndsIn, Passes, Yields, gives_yields, fails_yields, case_yields, word_yields, silently_yields, emits_yields, then_yields, recovers_yields, many_yields}

abbrev pub KeepsItems : {I F : Type 0} {l : Leaves} {G : Gives} (P : I → Type 0) → Construct I F l G → (ValueOf G → Type 0) → Type 0
KeepsItems P (gives a) Q = Q a
KeepsItems P ends Q = Q None
KeepsItems P (emits item) Q = P item × Q tt
KeepsItems P (fails fault) Q = Unit {0}
KeepsItems P (word_or {W = W} kind value c d) Q =
    ((text : List ℕ) (word : W) (rest : List ℕ) → kind.Is text word rest → KeepsItems P (c (value text word rest)) Q) × KeepsItems P d Q
KeepsItems P (silently {A = A} kind) Q = (text : List ℕ) (a : A) (rest : List ℕ) → kind.Is text (Ok (a, rest)) → Q a
KeepsItems P (then c d) Q = KeepsItems P c (λ a. KeepsItems P (d a) Q)
KeepsItems P (recovers c d) Q = KeepsItems P c Q × ((fault : _) → KeepsItems P (d fault) Q)
KeepsItems P (case_of word c d) Q = KeepsItems P c Q × KeepsItems P d Q
KeepsItems P (choice test c d) Q = ((text : List ℕ) → test text ≡ true → KeepsItems P c Q) × ((text : List ℕ) → test text ≡ false → KeepsItems P d Q)
KeepsItems P (here c) Q = (text : List ℕ) → KeepsItems P (c text) Q
KeepsItems P (many {A = A} c) Q = KeepsItems P c (λ _. Unit {0}) × ((values : List A) → Q values)

module _ {I F : Type 0} (P : I → Type 0) where
  abbrev EndsWith : {A : Type 0} → (A → Type 0) → Result (A × List ℕ) F → Type 0
  EndsWith Q = EndsIn (λ _. Unit {0}) (λ _. Unit {0}) Q

  abbrev YieldsItems : {A : Type 0} → (A → Type 0) → (List ℕ → Read I F A → Type 0) → Type 0
  YieldsItems Q G = Yields (λ _. Unit {0}) P (λ _. Unit {0}) Q G

  -- other values have the property
  yields_on : {A : Type 0} (Q R : A → Type 0) {G : List ℕ → Read I F A → Type 0} → ((a : A) → Q a → R a) → YieldsItems Q G → YieldsItems R G
  yields_on {A} Q R h p = record {
    passes = λ text r t g. let it = p.passes text r t g in record { items = it.items; outcome = go r.outcome it.outcome };
  }
    where
      go : (o : Result (A × List ℕ) F) → EndsWith Q o → EndsWith R o
      go (Ok (a, rest)) (t, q) = (t, h a q)
      go (Err fault) s = s

  silent_ends : {A : Type 0} (Q : A → Type 0) (Is : List ℕ → Result (A × List ℕ) F → Type 0)
      → ((text : List ℕ) (a : A) (rest : List ℕ) → Is text (Ok (a, rest)) → Q a)
      → (text : List ℕ) (o : Result (A × List ℕ) F) → Unit {0} → Is text o → EndsWith Q o
  silent_ends Q Is h text (Ok (a, rest)) t is = (tt, h text a rest is)
  silent_ends Q Is h text (Err fault) t is = tt

  choice_yields : {A : Type 0} {Q : A → Type 0} {G H : List ℕ → Read I F A → Type 0} (test : List ℕ → Bool)
      → ((text : List ℕ) → test text ≡ true → YieldsItems Q G) → ((text : List ℕ) → test text ≡ false → YieldsItems Q H) → YieldsItems Q (Choice test G H)
  choice_yields {A} {Q} {G} {H} test p q = record { passes = go }
    where
      go : (text : List ℕ) (r : Read I F A) → Unit {0} → Choice test G H text r → Passes (λ _. Unit {0}) P (λ _. Unit {0}) Q r
      go text r t (where_true e g) = (p text e).passes text r t g
      go text r t (where_false e h) = (q text e).passes text r t h

  pub keeps_items : {l : Leaves} {G : Gives} (c : Construct I F l G) (Q : ValueOf G → Type 0) → KeepsItems P c Q → YieldsItems Q (Says c)
  keeps_items (gives a) Q k = gives_yields a k
  keeps_items ends Q k = gives_yields None k
  keeps_items (emits item) Q k = yields_on (λ _. Unit {0}) Q (λ _ _. k.1) (emits_yields item k.0)
  keeps_items (fails fault) Q k = fails_yields fault (λ text t. tt)
  keeps_items (word_or kind value c d) Q k =
      word_yields (λ text word rest t w. (tt, keeps_items (c (value text word rest)) Q (k.0 text word rest w))) (keeps_items d Q k.1)
  keeps_items (silently kind) Q k = silently_yields (silent_ends Q kind.Is k)
  keeps_items (then c d) Q k = then_yields (keeps_items c (λ a. KeepsItems P (d a) Q) k) (λ a q. keeps_items (d a) Q q)
  keeps_items (recovers c d) Q k = recovers_yields (keeps_items c Q k.0) (λ fault s. keeps_items (d fault) Q (k.1 fault))
  keeps_items (case_of word c d) Q k = case_yields word (λ text rest t e. tt) (keeps_items c Q k.0) (keeps_items d Q k.1)
  keeps_items (choice test c d) Q k = choice_yields test (λ text e. keeps_items c Q (k.0 text e)) (λ text e. keeps_items d Q (k.1 text e))
  keeps_items (here c) Q k = record { passes = λ text. (keeps_items (c text) Q (k text)).passes text }
  keeps_items (many c) Q k = yields_on (All (λ _. Unit {0})) Q (λ values _. k.1 values) (many_yields (keeps_items c (λ _. Unit {0}) k.0))

  -- the items of what is read
  pub items_kept : {l : Leaves} {G : Gives} (c : Construct I F l G) (Q : ValueOf G → Type 0) → KeepsItems P c Q → (text : List ℕ) → All P (computes c text).items
  items_kept c Q k text = ((keeps_items c Q k).passes text (computes c text) tt ((agree c).sound text)).items
