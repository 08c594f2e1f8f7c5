-- By how many bytes a reading shortens its text, at least.
use Rattle.std.proofs.Common.{◌≡◌, ℕ, zero, suc, ◌+◌, ◌≤◌, Bool, true, false, cond, List, [], ◌∷◌, length, Option, Some, None, Result, Ok, Err, refl, ap, sym, ◌∙◌, arith}
use Rattle.constructs.specs.WordKind.{IsShorter}
use Rattle.constructs.specs.Leaves.{Gives, One, OneOrEnd, ValueOf, Leaves, Less, NoMore, either, both, preceded}
use Rattle.constructs.specs.Pieces.{strip}
use Rattle.constructs.specs.Read.{Read, gives, fails, follow, follow_outcome, recover, recover_outcome, after_word, case_of, choose, found_word, word_or}
use Rattle.constructs.specs.Turns.{after, turns, with_value, turn_outcome, turn_of, many}
use Rattle.constructs.proofs.PiecesLemmas.{strip_length}

-- what a value requires: the end of a repetition nothing, all others one byte
abbrev pub weight : (G : Gives) → ValueOf G → ℕ
weight (One A) a = 1
weight (OneOrEnd A) (Some a) = 1
weight (OneOrEnd A) None = 0

-- by how many bytes at least a construct shortens its text, if it gives a
abbrev pub shortened : (G : Gives) → Leaves → ValueOf G → ℕ
shortened G Less a = weight G a
shortened G NoMore a = 0

-- a reading that shortens its text by at least n a bytes, if it gives a
pub record Shortens {I F A : Type 0} (n : A → ℕ) (g : List ℕ → Read I F A) : Type 0 where
  pub least : (text : List ℕ) (a : A) (rest : List ℕ) → (g text).outcome ≡ Ok (a, rest) → n a + length rest ≤ length text

-- two equal outcomes leave and give the same
pub left_same : {F A : Type 0} {a b : A} {text rest : List ℕ} → ◌≡◌ {A = Result (A × List ℕ) F} (Ok (a, text)) (Ok (b, rest))
    → ◌≡◌ {A = A × List ℕ} (b, rest) (a, text)
left_same e = cc

-- a value that leaves the whole text
pub stays_shortens : {I F A : Type 0} {g : List ℕ → Read I F A} (n : A → ℕ) (a : A) → n a ≡ 0 → ((text : List ℕ) → (g text).outcome ≡ Ok (a, text)) → Shortens n g
stays_shortens {A = A} n a none stays = record {
  least = λ text b rest e.
      let same = left_same (sym (stays text) ∙ e) in
      omega (arith, none, ap (λ (x : A × List ℕ). n x.0) same, ap (λ (x : A × List ℕ). length x.1) same);
}

-- a fault leaves nothing
pub fails_shortens : {I F A : Type 0} (n : A → ℕ) (fault : List ℕ → F) → Shortens n (λ text. fails {I = I} (fault text))
fails_shortens n fault = record { least = λ text a rest e. cc }

-- choice by a word that leaves a shorter rest
pub word_or_shortens : {I F W A B : Type 0} {n m : B → ℕ} {p : List ℕ → Option (W × List ℕ)} {g : A → List ℕ → Read I F B} {h : List ℕ → Read I F B}
    → IsShorter p → (value : List ℕ → W → List ℕ → A) → ((b : B) → m b ≤ 1 + n b) → ((a : A) → Shortens n (g a)) → Shortens m h → Shortens m (word_or p value g h)
word_or_shortens {I = I} {F = F} {W = W} {B = B} {m = m} {p = p} {g = g} {h = h} s value enough q q' = record { least = λ text b rest e. go text b rest (p text) refl e }
  where
    go : (text : List ℕ) (b : B) (rest : List ℕ) (o : Option (W × List ℕ)) → p text ≡ o
        → (found_word (value text) g (h text) o).outcome ≡ Ok (b, rest) → m b + length rest ≤ length text
    go text b rest (Some (word, mid)) e1 e2 = omega (arith, enough b, s.less text word mid e1, (q (value text word mid)).least mid b rest e2)
    go text b rest None e1 e2 = q'.least text b rest e2

-- if a sequence gives a value, both parts do
pub follow_parts : {I F A B : Type 0} (g : List ℕ → Read I F A) (h : A → List ℕ → Read I F B) (text : List ℕ) (b : B) (rest : List ℕ)
    → (follow g h text).outcome ≡ Ok (b, rest)
    → (a : A) × (mid : List ℕ) × ((g text).outcome ≡ Ok (a, mid)) × ((h a mid).outcome ≡ Ok (b, rest))
follow_parts {I = I} {F = F} {A = A} {B = B} g h text b rest e = go (g text).outcome refl e
  where
    go : (o : Result (A × List ℕ) F) → (g text).outcome ≡ o → (follow_outcome (g text).items o h).outcome ≡ Ok (b, rest)
        → (a : A) × (mid : List ℕ) × ((g text).outcome ≡ Ok (a, mid)) × ((h a mid).outcome ≡ Ok (b, rest))
    go (Ok (a, mid)) e1 e2 = (a, mid, e1, e2)
    go (Err fault) e1 e2 = cc

-- sequence
pub follow_shortens : {I F A B : Type 0} {n : A → ℕ} {m : B → ℕ} {g : List ℕ → Read I F A} {h : A → List ℕ → Read I F B} (k : B → ℕ)
    → ((a : A) (b : B) → k b ≤ n a + m b) → Shortens n g → ((a : A) → Shortens m (h a)) → Shortens k (follow g h)
follow_shortens {g = g} {h = h} k enough p q = record {
  least = λ text b rest e.
      let parts = follow_parts g h text b rest e in
      omega (arith, enough parts.0 b, p.least text parts.0 parts.1 parts.2, (q parts.0).least parts.1 b rest parts.3);
}

-- recovery
pub recover_shortens : {I F A : Type 0} {n m : A → ℕ} {g : List ℕ → Read I F A} {h : F → List ℕ → Read I F A} (k : A → ℕ)
    → ((a : A) → k a ≤ n a) → ((a : A) → k a ≤ m a) → Shortens n g → ((fault : F) → Shortens m (h fault)) → Shortens k (recover g h)
recover_shortens {I = I} {F = F} {A = A} {g = g} {h = h} k first second p q = record { least = λ text a rest e. go text a rest (g text).outcome refl e }
  where
    go : (text : List ℕ) (a : A) (rest : List ℕ) (o : Result (A × List ℕ) F) → (g text).outcome ≡ o
        → (recover_outcome (g text).items o (λ fault. h fault text)).outcome ≡ Ok (a, rest) → k a + length rest ≤ length text
    go text a rest (Ok x) e1 e2 = omega (arith, first a, p.least text a rest (e1 ∙ e2))
    go text a rest (Err fault) e1 e2 = omega (arith, second a, (q fault).least text a rest e2)

-- choice by a word
pub case_shortens : {I F A : Type 0} {n m : A → ℕ} {g h : List ℕ → Read I F A} (k : A → ℕ) (word : List ℕ)
    → ((a : A) → k a ≤ length word + n a) → ((a : A) → k a ≤ m a) → Shortens n g → Shortens m h → Shortens k (case_of word g h)
case_shortens {I = I} {F = F} {A = A} {g = g} {h = h} k word here other p q = record { least = λ text a rest e. go text a rest (strip word text) refl e }
  where
    go : (text : List ℕ) (a : A) (rest : List ℕ) (s : Option (List ℕ)) → strip word text ≡ s
        → (after_word g (h text) s).outcome ≡ Ok (a, rest) → k a + length rest ≤ length text
    go text a rest (Some mid) e1 e2 = omega (arith, here a, strip_length word text mid e1, p.least mid a rest e2)
    go text a rest None e1 e2 = omega (arith, other a, q.least text a rest e2)

-- choice by a test
pub choose_shortens : {I F A : Type 0} {n m : A → ℕ} {g h : List ℕ → Read I F A} (k : A → ℕ) (test : List ℕ → Bool)
    → ((a : A) → k a ≤ n a) → ((a : A) → k a ≤ m a) → Shortens n g → Shortens m h → Shortens k (choose test g h)
choose_shortens {I = I} {F = F} {A = A} {g = g} {h = h} k test first second p q = record { least = λ text a rest e. go text a rest (test text) e }
  where
    go : (text : List ℕ) (a : A) (rest : List ℕ) (t : Bool) → (cond t (g text) (h text)).outcome ≡ Ok (a, rest) → k a + length rest ≤ length text
    go text a rest true e = omega (arith, first a, p.least text a rest e)
    go text a rest false e = omega (arith, second a, q.least text a rest e)

-- if one more value before an outcome gives values, that outcome gives values
with_value_parts : {F A : Type 0} (a : A) (o : Result (List A × List ℕ) F) (values : List A) (rest : List ℕ)
    → with_value a o ≡ Ok (values, rest) → (others : List A) × (o ≡ Ok (others, rest))
with_value_parts {A = A} a (Ok (others, left)) values rest e = (others, ap (λ (x : List A × List ℕ). Ok (others, x.1)) (sym (left_same e)))
with_value_parts a (Err fault) values rest e = cc

-- repetition, at most n times
turns_shortens : {I F A : Type 0} {n : Option A → ℕ} {g : List ℕ → Read I F (Option A)} → Shortens n g → (k : ℕ)
    → Shortens (λ _. 0) (turns (λ text. turn_of (g text)) (gives [] []) k)
unfolding turns
turns_shortens {A = A} p zero = record { least = λ text values rest e. omega (arith, ap (λ (x : List A × List ℕ). length x.1) (left_same e)) }
turns_shortens {I = I} {F = F} {A = A} {g = g} p (suc k) = record { least = λ text values rest e. go (turns_shortens p k) text values rest (g text).outcome refl e }
  where
    further : List ℕ → Read I F (List A)
    further = turns (λ text. turn_of (g text)) (gives [] []) k

    go : Shortens (λ _. 0) further → (text : List ℕ) (values : List A) (rest : List ℕ) (o : Result (Option A × List ℕ) F) → (g text).outcome ≡ o
        → (after further (turn_outcome (g text).items o)).outcome ≡ Ok (values, rest) → 0 + length rest ≤ length text
    go ih text values rest (Ok (Some a, mid)) e1 e2 =
        let others = with_value_parts a (further mid).outcome values rest e2 in
        omega (arith, p.least text (Some a) mid e1, ih.least mid others.0 rest others.1)
    go ih text values rest (Ok (None, mid)) e1 e2 = omega (arith, p.least text None mid e1, ap (λ (x : List A × List ℕ). length x.1) (left_same e2))
    go ih text values rest (Err fault) e1 e2 = cc

-- repetition
pub many_shortens : {I F A : Type 0} {n : Option A → ℕ} {g : List ℕ → Read I F (Option A)} → Shortens n g → Shortens (λ _. 0) (many g)
unfolding many
many_shortens p = record { least = λ text. (turns_shortens p (suc (length text))).least text }

-- By its type: of a sequence, and of a choice after a word.

weight_one : (G : Gives) (a : ValueOf G) → weight G a ≤ 1
weight_one (One A) a = omega arith
weight_one (OneOrEnd A) (Some a) = omega arith
weight_one (OneOrEnd A) None = omega arith

pub shortened_one : (l m : Leaves) (G : Gives) (a : ValueOf G) → shortened G m a ≤ 1 + shortened G l a
shortened_one l Less G a = omega (arith, weight_one G a)
shortened_one l NoMore G a = omega arith

pub either_shortened : {A : Type 0} (l m : Leaves) (G : Gives) (a : A) (b : ValueOf G) → shortened G (either l m) b ≤ shortened (One A) l a + shortened G m b
either_shortened Less Less G a b = omega arith
either_shortened Less NoMore G a b = omega (arith, weight_one G b)
either_shortened NoMore m G a b = omega arith

pub both_first : (word : List ℕ) (l m : Leaves) (G : Gives) (a : ValueOf G) → shortened G (both (preceded word l) m) a ≤ length word + shortened G l a
both_first [] l Less G a = omega arith
both_first (c ∷ word) l Less G a = omega (arith, weight_one G a)
both_first word l NoMore G a = omega arith

pub both_second : (word : List ℕ) (l m : Leaves) (G : Gives) (a : ValueOf G) → shortened G (both (preceded word l) m) a ≤ shortened G m a
both_second [] Less Less G a = omega arith
both_second [] NoMore Less G a = omega arith
both_second (c ∷ word) l Less G a = omega arith
both_second word l NoMore G a = omega arith
