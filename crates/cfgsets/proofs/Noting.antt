-- The productions that depend on rules: one is noted for the rules among its symbols, and those that depend on rules whose sets grew are queued.
use Rattle.std.proofs.Common.{◌≡◌, ℕ, ◌+◌, ◌<◌, ◌≤◌, ◌⊎◌, inl, inr, Bool, List, Contains, take, get_or, length, sym, ap, ◌∙◌, subst, Result, Ok, Err, IfOk}
use Rattle.std.proofs.lemmas.List.{take_all}
use Rattle.lemmas.proofs.Adding.{adds_as, adds_then}
use Rattle.lemmas.proofs.Taken.{contains_taken}
use Rattle.derivation.specs.Grammar.{Sym, Rule}
use Rattle.cfgsets.specs.Waiting.{Waits}
use Rattle.cfgsets.specs.Work.{dependents_of, Notes, DependsOnGrown}

pub notes_as : (p : ℕ) (depends_on depends_on' : ℕ → Type 0) (old new : List (List ℕ)) → ((r : ℕ) → depends_on r → depends_on' r) → ((r : ℕ) → depends_on' r → depends_on r)
    → Notes p depends_on old new → Notes p depends_on' old new
notes_as p depends_on depends_on' old new to from w = record {
  shape = w.shape;
  dependents = λ r. adds_as (λ q. (q ≡ p) × depends_on' r) (λ q i. inr (i.0, to r i.1)) (λ q i. inr (i.0, from r i.1)) (w.dependents r);
}

pub notes_then : (p : ℕ) (depends_on depends_on' : ℕ → Type 0) (old mid new : List (List ℕ)) → Notes p depends_on old mid → Notes p depends_on' mid new
    → Notes p (λ r. depends_on r ⊎ depends_on' r) old new
notes_then p depends_on depends_on' old mid new w v = record {
  shape = v.shape ∙ w.shape;
  dependents = λ r. adds_as (λ q. (q ≡ p) × (depends_on r ⊎ depends_on' r))
      (λ q h. elim h [ inl i ↦ inr (i.0, inl i.1) | inr i ↦ inr (i.0, inr i.1) ])
      (λ q h. elim h.1 [ inl i ↦ inr (inl (h.0, i)) | inr i ↦ inr (inr (h.0, i)) ])
      (adds_then (w.dependents r) (v.dependents r));
}

-- between two rules whose sets grew: the productions that depend on the rules done so far wait
pub record LettingWait (dependents : List (List ℕ)) (grown left : List Bool) (old new : List Bool) : Type 0 where
  pub shape : length new ≡ length old
  pub fewer : (r : ℕ) → Waits left r → Waits grown r
  pub same : length left ≡ length grown
  pub only : (q : ℕ) → Waits new q → Waits old q ⊎ DependsOnGrown dependents (Waits grown) q
  pub kept : (q : ℕ) → Waits old q → Waits new q
  pub done : (r q : ℕ) → Waits grown r → Contains (dependents_of dependents r) q → Waits left r ⊎ Waits new q

pub notes_rule : (p q : ℕ) (old new : List (List ℕ)) → Notes p (λ r. r ≡ q) old new → Notes p (λ r. Rule r ≡ Rule q) old new
notes_rule p q old new w = notes_as p _ _ old new (λ r e. ap Rule e) (λ r e. cc) w

-- the production was noted for the rules among the first n symbols
abbrev pub NotesLookahead : ℕ → List Sym → ℕ → List (List ℕ) → List (List ℕ) → Type 0
NotesLookahead p a n old new = Notes p (λ r. Contains (take n a) (Rule r)) old new

module _ (p : ℕ) (a : List Sym) where
  pub prefix_more : (n : ℕ) (s : Sym) (old mid new : List (List ℕ)) → n < length a → s ≡ get_or a n s → NotesLookahead p a n old mid
      → Notes p (λ r. Rule r ≡ s) mid new → NotesLookahead p a (n + 1) old new
  prefix_more n s old mid new lt is w v = notes_as p _ _ old new
      (λ r h. (contains_taken a n s lt is (Rule r)).1 h) (λ r h. (contains_taken a n s lt is (Rule r)).0 h) (notes_then p _ _ old mid new w v)

  pub prefix_all : (n : ℕ) (old new : List (List ℕ)) → length a ≤ n → NotesLookahead p a n old new → Notes p (λ r. Contains a (Rule r)) old new
  prefix_all n old new le w = subst (λ l. Notes p (λ r. Contains l (Rule r)) old new) (take_all n a le) w

-- a call that may fail noted the production for a rule
pub rule_noted : {T E : Type 0} (result : Result T E) (p n q : ℕ) (s : Sym) (old new : List (List ℕ)) → n ≡ q → s ≡ Rule q
    → IfOk result (λ _. Notes p (λ r. r ≡ n) old new) → IfOk result (λ _. Notes p (λ r. Rule r ≡ s) old new)
rule_noted (Err e) p n q s old new is at h = tt
rule_noted (Ok x) p n q s old new is at h = subst (λ y. Notes p (λ r. Rule r ≡ y) old new) (sym at)
    (notes_rule p q old new (notes_as p _ _ old new (λ r e. e ∙ is) (λ r e. e ∙ sym is) h))
