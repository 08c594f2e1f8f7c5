-- What holds of everything that a kind of piece gives. Texts have property T where a piece begins and where one ends; each item that counts
-- has P, a value Q, and a fault that stops the reading S.
use Rattle.std.proofs.Common.{◌≡◌, ℕ, Bool, List, [], ◌++◌, Option, Some, None, Result, Ok, Err, All, sym, subst}
use Rattle.std.proofs.lemmas.List.Elements.{All-nil, All-cons, All-append}
use Rattle.constructs.specs.Read.{Read, gives, emits, fails, Exactly, Then, on, off, Recovers, whole, stopped, Case, begins, other, Choice, where_true, where_false, WordOr, found, missing}
use Rattle.constructs.specs.Silent.{Silently}
use Rattle.constructs.specs.Turns.{Turn, again, ends, Turns, last, next, with_value, turn_outcome, OneOf, one, Many}

-- how a reading ended
abbrev pub EndsIn : {F A : Type 0} → (List ℕ → Type 0) → (F → Type 0) → (A → Type 0) → Result (A × List ℕ) F → Type 0
EndsIn T S Q (Ok (a, rest)) = T rest × Q a
EndsIn T S Q (Err fault) = S fault

pub record Passes {I F A : Type 0} (T : List ℕ → Type 0) (P : I → Type 0) (S : F → Type 0) (Q : A → Type 0) (r : Read I F A) : Type 0 where
  pub items : All P r.items
  pub outcome : EndsIn T S Q r.outcome

pub record Yields {I F A : Type 0} (T : List ℕ → Type 0) (P : I → Type 0) (S : F → Type 0) (Q : A → Type 0) (G : List ℕ → Read I F A → Type 0) : Type 0 where
  pub passes : (text : List ℕ) (r : Read I F A) → T text → G text r → Passes T P S Q r

-- the same for fewer texts
pub weaker : {F A : Type 0} (T T' : List ℕ → Type 0) (S : F → Type 0) (Q : A → Type 0)
    → ((rest : List ℕ) → T rest → T' rest) → (o : Result (A × List ℕ) F) → EndsIn T S Q o → EndsIn T' S Q o
weaker T T' S Q texts (Ok (a, rest)) (t, q) = (texts rest t, q)
weaker T T' S Q texts (Err fault) s = s

-- steps: if one continues, the rest has the property, and the step completes what has the property to what has it
abbrev pub TurnPasses : {R : Type 0} → (List ℕ → Type 0) → (R → Type 0) → Turn R → Type 0
TurnPasses {R} T W (again complete rest) = T rest × ((r : R) → W r → W (complete r))
TurnPasses T W (ends r) = W r

pub turns_pass : {R : Type 0} {Step : List ℕ → Turn R → Type 0} (T : List ℕ → Type 0) (W : R → Type 0)
    → ((text : List ℕ) (turn : Turn R) → T text → Step text turn → TurnPasses T W turn)
    → (text : List ℕ) (r : R) → T text → Turns Step text r → W r
turns_pass T W step text r t (last there) = step text _ t there
turns_pass T W step text r t (next {rest = rest} {r = r'} there further) =
    let on = step text _ t there in on.1 r' (turns_pass T W step rest r' on.0 further)

module _ {I F : Type 0} {T : List ℕ → Type 0} {P : I → Type 0} {S : F → Type 0} where
  module _ {A : Type 0} {Q : A → Type 0} where
    -- a function of the text
    pub exactly_yields : {f : List ℕ → Read I F A} → ((text : List ℕ) → T text → Passes T P S Q (f text)) → Yields T P S Q (Exactly f)
    exactly_yields h = record { passes = λ text r t e. subst (Passes T P S Q) e (h text t) }

    -- a value
    pub gives_passes : (a : A) (text : List ℕ) → T text → Q a → Passes T P S Q (gives a text)
    gives_passes a text t q = record { items = All-nil P; outcome = (t, q) }

    pub gives_yields : (a : A) → Q a → Yields T P S Q (Exactly (gives a))
    gives_yields a q = exactly_yields (λ text t. gives_passes a text t q)

    -- a fault
    pub fails_yields : (fault : List ℕ → F) → ((text : List ℕ) → T text → S (fault text)) → Yields T P S Q (Exactly (λ text. fails (fault text)))
    fails_yields fault s = exactly_yields (λ text t. record { items = All-nil P; outcome = s text t })

    -- choice by a word
    pub case_yields : {G H : List ℕ → Read I F A → Type 0} (word : List ℕ) → ((text rest : List ℕ) → T text → text ≡ word ++ rest → T rest)
        → Yields T P S Q G → Yields T P S Q H → Yields T P S Q (Case word G H)
    case_yields {G} {H} word preceded p q = record { passes = go }
      where
        go : (text : List ℕ) (r : Read I F A) → T text → Case word G H text r → Passes T P S Q r
        go text r t (begins rest e g) = p.passes rest r (preceded text rest t e) g
        go text r t (other none h) = q.passes text r t h

    -- choice by a test
    pub choice_yields : {G H : List ℕ → Read I F A → Type 0} (test : List ℕ → Bool) → Yields T P S Q G → Yields T P S Q H → Yields T P S Q (Choice test G H)
    choice_yields {G} {H} test p q = record { passes = go }
      where
        go : (text : List ℕ) (r : Read I F A) → T text → Choice test G H text r → Passes T P S Q r
        go text r t (where_true e g) = p.passes text r t g
        go text r t (where_false e h) = q.passes text r t h

    -- choice by a word of a kind
    pub word_yields : {W B : Type 0} {Word : List ℕ → W → List ℕ → Type 0} {value : List ℕ → W → List ℕ → B}
        {G : B → List ℕ → Read I F A → Type 0} {H : List ℕ → Read I F A → Type 0}
        → ((text : List ℕ) (word : W) (rest : List ℕ) → T text → Word text word rest → T rest × Yields T P S Q (G (value text word rest)))
        → Yields T P S Q H → Yields T P S Q (WordOr Word value G H)
    word_yields {W} {B} {Word} {value} {G} {H} there q = record { passes = go }
      where
        go : (text : List ℕ) (r : Read I F A) → T text → WordOr Word value G H text r → Passes T P S Q r
        go text r t (found word rest e g) = let it = there text word rest t e in it.1.passes rest r it.0 g
        go text r t (missing none h) = q.passes text r t h

    -- a piece with no items
    pub silently_yields : {G : List ℕ → Result (A × List ℕ) F → Type 0} → ((text : List ℕ) (o : Result (A × List ℕ) F) → T text → G text o → EndsIn T S Q o)
        → Yields T P S Q (Silently G)
    silently_yields h = record {
      passes = λ text r t s. record { items = subst (All P) (sym s.silent) (All-nil P); outcome = h text r.outcome t s.outcome };
    }

  -- an item
  pub emits_passes : (item : I) (text : List ℕ) → T text → P item → Passes T P S (λ _. Unit {0}) (emits item text)
  emits_passes item text t p = record { items = All-cons P item [] p (All-nil P); outcome = (t, tt) }

  pub emits_yields : (item : I) → P item → Yields T P S (λ _. Unit {0}) (Exactly (emits item))
  emits_yields item p = exactly_yields (λ text t. emits_passes item text t p)

  -- sequence
  pub then_yields : {A B : Type 0} {Q : A → Type 0} {R : B → Type 0} {G : List ℕ → Read I F A → Type 0} {H : A → List ℕ → Read I F B → Type 0}
      → Yields T P S Q G → ((a : A) → Q a → Yields T P S R (H a)) → Yields T P S R (Then G H)
  then_yields {A} {B} {Q} {R} {G} {H} p q = record { passes = go }
    where
      go : (text : List ℕ) (r : Read I F B) → T text → Then G H text r → Passes T P S R r
      go text r t (on items a rest r' e1 e2) =
          let first = p.passes text _ t e1 in
          let second = (q a first.outcome.1).passes rest r' first.outcome.0 e2 in
          record { items = All-append P items r'.items first.items second.items; outcome = second.outcome }
      go text r t (off items fault e) = let first = p.passes text _ t e in record { items = first.items; outcome = first.outcome }

  -- recovery
  pub recovers_yields : {A : Type 0} {Q : A → Type 0} {G : List ℕ → Read I F A → Type 0} {H : F → List ℕ → Read I F A → Type 0}
      → Yields T P S Q G → ((fault : F) → S fault → Yields T P S Q (H fault)) → Yields T P S Q (Recovers G H)
  recovers_yields {A} {Q} {G} {H} p q = record { passes = go }
    where
      go : (text : List ℕ) (r : Read I F A) → T text → Recovers G H text r → Passes T P S Q r
      go text r t (whole items a rest e) = p.passes text _ t e
      go text r t (stopped items fault r' e1 e2) =
          let first = p.passes text _ t e1 in
          let second = (q fault first.outcome).passes text r' t e2 in
          record { items = All-append P items r'.items first.items second.items; outcome = second.outcome }

  -- repetition
  pub many_yields : {A : Type 0} {Q : Option A → Type 0} {G : List ℕ → Read I F (Option A) → Type 0} → Yields T P S Q G
      → Yields T P S (All (λ a. Q (Some a))) (Many G)
  many_yields {A} {Q} {G} p = record { passes = turns_pass T (Passes T P S (All (λ a. Q (Some a)))) step }
    where
      longer : (a : A) → Q (Some a) → (o : Result (List A × List ℕ) F) → EndsIn T S (All (λ a. Q (Some a))) o → EndsIn T S (All (λ a. Q (Some a))) (with_value a o)
      longer a q (Ok (values, rest)) (t, qs) = (t, All-cons (λ a. Q (Some a)) a values q qs)
      longer a q (Err fault) s = s

      turn : (items : List I) (o : Result (Option A × List ℕ) F) → All P items → EndsIn T S Q o
          → TurnPasses T (Passes T P S (All (λ a. Q (Some a)))) (turn_outcome items o)
      turn items (Ok (Some a, rest)) each (t, q) = (
        t,
        λ r further. record {
          items = All-append P items r.items each further.items;
          outcome = longer a q r.outcome further.outcome;
        },
      )
      turn items (Ok (None, rest)) each (t, q) = record { items = each; outcome = (t, All-nil (λ a. Q (Some a))) }
      turn items (Err fault) each s = record { items = each; outcome = s }

      step : (text : List ℕ) (t : Turn (Read I F (List A))) → T text → OneOf G text t → TurnPasses T (Passes T P S (All (λ a. Q (Some a)))) t
      step text t there (one r g) = let it = p.passes text r there g in turn r.items r.outcome it.items it.outcome
