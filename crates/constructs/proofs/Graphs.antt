-- The function of each combinator gives exactly what the combinator's relation allows.
use Rattle.std.proofs.Common.{◌≡◌, ℕ, zero, suc, ◌<◌, Bool, true, false, cond, List, [], ◌++◌, length, Option, Some, None, Result, Ok, Err, refl, ap, ◌∙◌, arith}
use Rattle.constructs.specs.Graph.{IsGraph}
use Rattle.constructs.specs.WordKind.{IsFinder}
use Rattle.constructs.specs.Pieces.{strip}
use Rattle.constructs.specs.Read.{Read, gives, prefixed, Exactly, Then, on, off, Recovers, whole, stopped, Case, begins, other, Choice, where_true, where_false, WordOr, found, missing, follow, follow_outcome, recover, recover_outcome, after_word, case_of, choose, found_word, word_or}
use Rattle.constructs.specs.Turns.{Turn, again, ends, Turns, last, next, after, turns, all_turns, OneOf, one, Many, turn_outcome, turn_of, many}
use Rattle.constructs.specs.Leaves.{OneOrEnd}
use Rattle.constructs.proofs.PiecesLemmas.{strip_sound, strip_only, strip_none}
use Rattle.constructs.proofs.Lengths.{weight, Shortens}

-- a function of the text
pub exactly_graph : {I F A : Type 0} (f : List ℕ → Read I F A) → IsGraph (Exactly f) f
exactly_graph f = record { sound = λ text. refl; only = λ text r e. e }

module _ {I F A B : Type 0} {G : List ℕ → Read I F A → Type 0} {H : A → List ℕ → Read I F B → Type 0}
    {g : List ℕ → Read I F A} {h : A → List ℕ → Read I F B} where
  -- what a sequence's function gives is allowed
  pub then_sound : IsGraph G g → ((a : A) → IsGraph (H a) (h a)) → (text : List ℕ) → Then G H text (follow g h text)
  then_sound p q text = go (g text).items (g text).outcome (p.sound text)
    where
      go : (items : List I) (o : Result (A × List ℕ) F) → G text (record { items = items; outcome = o }) → Then G H text (follow_outcome items o h)
      go items (Ok (a, rest)) e = on items a rest (h a rest) e ((q a).sound rest)
      go items (Err fault) e = off items fault e

  -- and nothing else is
  pub then_only : IsGraph G g → ((a : A) → IsGraph (H a) (h a)) → (text : List ℕ) (r : Read I F B) → Then G H text r → follow g h text ≡ r
  then_only p q text r (on items a rest r' e1 e2) =
      ap (λ x. follow_outcome x.items x.outcome h) (p.only text _ e1) ∙ ap (prefixed items) ((q a).only rest r' e2)
  then_only p q text r (off items fault e) = ap (λ x. follow_outcome x.items x.outcome h) (p.only text _ e)

  -- sequence
  pub then_graph : IsGraph G g → ((a : A) → IsGraph (H a) (h a)) → IsGraph (Then G H) (follow g h)
  then_graph p q = record { sound = then_sound p q; only = then_only p q }

-- recovery
pub recovers_graph : {I F A : Type 0} {G : List ℕ → Read I F A → Type 0} {H : F → List ℕ → Read I F A → Type 0}
    {g : List ℕ → Read I F A} {h : F → List ℕ → Read I F A} → IsGraph G g → ((fault : F) → IsGraph (H fault) (h fault)) → IsGraph (Recovers G H) (recover g h)
recovers_graph {I = I} {F = F} {A = A} {G = G} {H = H} {g = g} {h = h} p q = record {
  sound = λ text. sound text (g text).items (g text).outcome (p.sound text);
  only = only;
}
  where
    sound : (text : List ℕ) (items : List I) (o : Result (A × List ℕ) F) → G text (record { items = items; outcome = o })
        → Recovers G H text (recover_outcome items o (λ fault. h fault text))
    sound text items (Ok (a, rest)) e = whole items a rest e
    sound text items (Err fault) e = stopped items fault (h fault text) e ((q fault).sound text)

    only : (text : List ℕ) (r : Read I F A) → Recovers G H text r → recover g h text ≡ r
    only text r (whole items a rest e) = ap (λ x. recover_outcome x.items x.outcome (λ fault. h fault text)) (p.only text _ e)
    only text r (stopped items fault r' e1 e2) =
        ap (λ x. recover_outcome x.items x.outcome (λ fault. h fault text)) (p.only text _ e1) ∙ ap (prefixed items) ((q fault).only text r' e2)

module _ {I F A : Type 0} {G H : List ℕ → Read I F A → Type 0} {g h : List ℕ → Read I F A} where
  -- choice by a word
  pub case_graph : (word : List ℕ) → IsGraph G g → IsGraph H h → IsGraph (Case word G H) (case_of word g h)
  case_graph word p q = record { sound = λ text. sound text (strip word text) refl; only = only }
    where
      sound : (text : List ℕ) (s : Option (List ℕ)) → strip word text ≡ s → Case word G H text (after_word g (h text) s)
      sound text (Some rest) e = begins rest (strip_sound word text rest e) (p.sound rest)
      sound text None e = other (strip_none word text e) (q.sound text)

      holds : (text : List ℕ) (r : Read I F A) → ((rest : List ℕ) → text ≡ word ++ rest → ⊥) → H text r
          → (s : Option (List ℕ)) → strip word text ≡ s → after_word g (h text) s ≡ r
      holds text r apart e (Some rest) e1 = absurd (apart rest (strip_sound word text rest e1))
      holds text r apart e None e1 = q.only text r e

      only : (text : List ℕ) (r : Read I F A) → Case word G H text r → case_of word g h text ≡ r
      only text r (begins rest e1 e2) = ap (after_word g (h text)) (strip_only word text rest e1) ∙ p.only rest r e2
      only text r (other apart e) = holds text r apart e (strip word text) refl

-- choice by a test
pub choice_graph : {I F A : Type 0} {G H : List ℕ → Read I F A → Type 0} {g h : List ℕ → Read I F A} (test : List ℕ → Bool)
    → IsGraph G g → IsGraph H h → IsGraph (Choice test G H) (choose test g h)
choice_graph {I = I} {F = F} {A = A} {G = G} {H = H} {g = g} {h = h} test p q = record { sound = λ text. sound text (test text) refl; only = only }
  where
    sound : (text : List ℕ) (t : Bool) → test text ≡ t → Choice test G H text (cond t (g text) (h text))
    sound text true e = where_true e (p.sound text)
    sound text false e = where_false e (q.sound text)

    only : (text : List ℕ) (r : Read I F A) → Choice test G H text r → choose test g h text ≡ r
    only text r (where_true e there) = ap (λ t. cond t (g text) (h text)) e ∙ p.only text r there
    only text r (where_false e there) = ap (λ t. cond t (g text) (h text)) e ∙ q.only text r there

-- a construct that depends on where it begins
pub here_graph : {I F A : Type 0} {G : List ℕ → List ℕ → Read I F A → Type 0} {g : List ℕ → List ℕ → Read I F A}
    → ((text : List ℕ) → IsGraph (G text) (g text)) → IsGraph (λ text. G text text) (λ text. g text text)
here_graph p = record { sound = λ text. (p text).sound text; only = λ text. (p text).only text }

-- choice by a word of a kind
pub word_or_graph : {I F W A B : Type 0} {P : List ℕ → W → List ℕ → Type 0} {p : List ℕ → Option (W × List ℕ)}
    {G : A → List ℕ → Read I F B → Type 0} {H : List ℕ → Read I F B → Type 0} {g : A → List ℕ → Read I F B} {h : List ℕ → Read I F B} → IsFinder P p
    → (value : List ℕ → W → List ℕ → A) → ((a : A) → IsGraph (G a) (g a)) → IsGraph H h → IsGraph (WordOr P value G H) (word_or p value g h)
word_or_graph {I = I} {F = F} {W = W} {B = B} {P = P} {p = p} {G = G} {H = H} {g = g} {h = h} f value q q' = record { sound = λ text. sound text (p text) refl; only = only }
  where
    sound : (text : List ℕ) (o : Option (W × List ℕ)) → p text ≡ o → WordOr P value G H text (found_word (value text) g (h text) o)
    sound text (Some (word, rest)) e = found word rest (f.sound text word rest e) ((q (value text word rest)).sound rest)
    sound text None e = missing (λ word rest w. let there : p text ≡ Some (word, rest) = f.only text word rest w in cc) (q'.sound text)

    misses : (text : List ℕ) (r : Read I F B) → ((word : W) (rest : List ℕ) → P text word rest → ⊥) → H text r → (o : Option (W × List ℕ)) → p text ≡ o
        → found_word (value text) g (h text) o ≡ r
    misses text r none there (Some (word, rest)) e = absurd (none word rest (f.sound text word rest e))
    misses text r none there None e = q'.only text r there

    only : (text : List ℕ) (r : Read I F B) → WordOr P value G H text r → word_or p value g h text ≡ r
    only text r (found word rest e there) =
        ap (found_word (value text) g (h text)) (f.only text word rest e) ∙ (q (value text word rest)).only rest r there
    only text r (missing none there) = misses text r none there (p text) refl

-- each further step has a shorter text
pub record Shrinks {R : Type 0} (step : List ℕ → Turn R) : Type 0 where
  pub less : (text rest : List ℕ) (complete : R → R) → step text ≡ again complete rest → length rest < length text

-- any two numbers of steps above the text's length give the same
pub turns_enough : {R : Type 0} {step : List ℕ → Turn R} → Shrinks step → (none : R) (n m : ℕ) (text : List ℕ)
    → length text < n → length text < m → turns step none n text ≡ turns step none m text
unfolding turns
turns_enough s none zero m text h1 h2 = absurd (omega arith)
turns_enough s none (suc n) zero text h1 h2 = absurd (omega arith)
turns_enough {R = R} {step = step} s none (suc n) (suc m) text h1 h2 = go (turns_enough s none n m) (step text) refl
  where
    go : ((rest : List ℕ) → length rest < n → length rest < m → turns step none n rest ≡ turns step none m rest)
        → (t : Turn R) → step text ≡ t → after (turns step none n) t ≡ after (turns step none m) t
    go ih (again complete rest) e = let less = s.less text rest complete e in ap complete (ih rest (omega arith) (omega arith))
    go ih (ends r) e = refl

-- repetition is one step, and then repetition from where that step stops
pub turns_next : {R : Type 0} {step : List ℕ → Turn R} → Shrinks step → (none : R) (text : List ℕ)
    → all_turns step none text ≡ after (all_turns step none) (step text)
unfolding turns
turns_next {R = R} {step = step} s none text = go (step text) refl
  where
    go : (t : Turn R) → step text ≡ t → after (turns step none (length text)) t ≡ after (all_turns step none) t
    go (again complete rest) e = let less = s.less text rest complete e in
        ap complete (turns_enough s none (length text) (suc (length rest)) rest less (omega arith))
    go (ends r) e = refl

module _ {R : Type 0} {Step : List ℕ → Turn R → Type 0} {step : List ℕ → Turn R} where
  -- what sufficiently many steps give is allowed
  pub turns_sound : IsGraph Step step → Shrinks step → (none : R) (n : ℕ) (text : List ℕ) → length text < n → Turns Step text (turns step none n text)
  unfolding turns
  turns_sound g s none zero text h = absurd (omega arith)
  turns_sound g s none (suc n) text h = go (turns_sound g s none n) (step text) refl (g.sound text)
    where
      go : ((rest : List ℕ) → length rest < n → Turns Step rest (turns step none n rest))
          → (t : Turn R) → step text ≡ t → Step text t → Turns Step text (after (turns step none n) t)
      go ih (again complete rest) e there = let less = s.less text rest complete e in next there (ih rest (omega arith))
      go ih (ends r) e there = last there

  -- and nothing else is
  pub turns_only : IsGraph Step step → Shrinks step → (none : R) (text : List ℕ) (r : R) → Turns Step text r → all_turns step none text ≡ r
  turns_only g s none text r (last there) = turns_next s none text ∙ ap (after (all_turns step none)) (g.only text _ there)
  turns_only g s none text r (next {rest = rest} {complete = complete} {r = r'} there further) =
      turns_next s none text ∙ ap (after (all_turns step none)) (g.only text _ there) ∙ ap complete (turns_only g s none rest r' further)

  -- repetition of steps
  pub turns_graph : IsGraph Step step → Shrinks step → (none : R) → IsGraph (Turns Step) (all_turns step none)
  turns_graph g s none = record {
    sound = λ text. turns_sound g s none (suc (length text)) text (omega arith);
    only = turns_only g s none;
  }

module _ {I F A : Type 0} {g : List ℕ → Read I F (Option A)} where
  -- if each turn with a value leaves a shorter rest, a repetition continues with a shorter text
  pub one_of_shrinks : Shortens (weight (OneOrEnd A)) g → Shrinks (λ text. turn_of (g text))
  one_of_shrinks p = record { less = λ text rest complete e. go text rest complete (g text).outcome refl e }
    where
      go : (text rest : List ℕ) (complete : Read I F (List A) → Read I F (List A)) (o : Result (Option A × List ℕ) F) → (g text).outcome ≡ o
          → turn_outcome (g text).items o ≡ again complete rest → length rest < length text
      go text rest complete (Ok (Some a, mid)) e1 e2 = let same : mid ≡ rest = cc in omega (arith, p.least text (Some a) mid e1, ap length same)
      go text rest complete (Ok (None, mid)) e1 e2 = cc
      go text rest complete (Err fault) e1 e2 = cc

  module _ {G : List ℕ → Read I F (Option A) → Type 0} where
    -- one turn
    one_of_graph : IsGraph G g → IsGraph (OneOf G) (λ text. turn_of (g text))
    one_of_graph p = record { sound = λ text. one (g text) (p.sound text); only = only }
      where
        only : (text : List ℕ) (t : Turn (Read I F (List A))) → OneOf G text t → turn_of (g text) ≡ t
        only text t (one r there) = ap turn_of (p.only text r there)

    -- repetition
    pub many_graph : IsGraph G g → Shortens (weight (OneOrEnd A)) g → IsGraph (Many G) (many g)
    unfolding many
    many_graph p s = turns_graph (one_of_graph p) (one_of_shrinks s) (gives [] [])
