-- Repetition turn by turn, as a loop performs it.
use Rattle.std.proofs.Common.{◌≡◌, ℕ, List, [], ◌∷◌, ◌++◌, Option, Some, None, Result, Ok, Err, refl, ap, ap₂, sym, ◌∙◌, append_assoc, append-nil}
use Rattle.constructs.specs.Leaves.{OneOrEnd}
use Rattle.constructs.specs.Read.{Read, gives}
use Rattle.constructs.specs.Turns.{after, with_value, with_one, turn_outcome, many}
use Rattle.constructs.proofs.Lengths.{weight, Shortens}
use Rattle.constructs.proofs.Graphs.{turns_next, one_of_shrinks}

-- a repetition is what its first turn makes of it
pub many_next : {I F A : Type 0} {g : List ℕ → Read I F (Option A)} → Shortens (weight (OneOrEnd A)) g → (text : List ℕ)
    → (o : Result (Option A × List ℕ) F) → (g text).outcome ≡ o → many g text ≡ after (many g) (turn_outcome (g text).items o)
unfolding many
many_next {g = g} p text o e = turns_next (one_of_shrinks p) (gives [] []) text ∙ ap (λ o. after (many g) (turn_outcome (g text).items o)) e

-- values before those that follow
abbrev pub with_values : {F A : Type 0} → List A → Result (List A × List ℕ) F → Result (List A × List ℕ) F
with_values prefix (Ok (values, rest)) = Ok (prefix ++ values, rest)
with_values prefix (Err fault) = Err fault

-- items and values before those that follow: what a loop has read, and what it still has to read
abbrev pub with_prefix : {I F A : Type 0} → List I → List A → Read I F (List A) → Read I F (List A)
with_prefix items values r = record { items = items ++ r.items; outcome = with_values values r.outcome }

-- at the loop's start
pub with_prefix_nil : {I F A : Type 0} (r : Read I F (List A)) → with_prefix [] [] r ≡ r
with_prefix_nil {I = I} {F = F} {A = A} r = go r.outcome
  where
    go : (o : Result (List A × List ℕ) F) → ◌≡◌ {A = Read I F (List A)} (record { items = r.items; outcome = with_values [] o }) (record { items = r.items; outcome = o })
    go (Ok (values, rest)) = refl
    go (Err fault) = refl

-- one more value is added to the prefix
pub with_prefix_one : {I F A : Type 0} (items : List I) (values : List A) (more : List I) (a : A) (r : Read I F (List A))
    → with_prefix items values (with_one more a r) ≡ with_prefix (items ++ more) (values ++ a ∷ []) r
with_prefix_one {I = I} {F = F} {A = A} items values more a r = go r.outcome
  where
    go : (o : Result (List A × List ℕ) F) → ◌≡◌ {A = Read I F (List A)}
        (record { items = items ++ (more ++ r.items); outcome = with_values values (with_value a o) })
        (record { items = items ++ more ++ r.items; outcome = with_values (values ++ a ∷ []) o })
    go (Ok (others, rest)) = ap₂ (λ xs ys. record { items = xs; outcome = Ok (ys, rest) })
        (sym (append_assoc items more r.items)) (sym (append_assoc values (a ∷ []) others))
    go (Err fault) = ap (λ xs. record { items = xs; outcome = Err fault }) (sym (append_assoc items more r.items))

-- what a loop read and gathered from start to now, with the same left to read
pub record Prefix {I F A : Type 0} (g : List ℕ → Read I F (Option A)) (start now : List ℕ) (items : List I) (values : List A) : Type 0 where
  pub so_far : many g start ≡ with_prefix items values (many g now)

-- before the first turn
pub prefix_start : {I F A : Type 0} (g : List ℕ → Read I F (Option A)) (start : List ℕ) → Prefix g start start [] []
prefix_start g start = record { so_far = sym (with_prefix_nil (many g start)) }

module _ {I F A : Type 0} {g : List ℕ → Read I F (Option A)} (p : Shortens (weight (OneOrEnd A)) g) {start now : List ℕ} {items : List I} {values : List A}
    (prefix : Prefix g start now items values) where
  -- after one more turn
  pub prefix_one : (a : A) (rest : List ℕ) → (g now).outcome ≡ Ok (Some a, rest) → Prefix g start rest (items ++ (g now).items) (values ++ a ∷ [])
  prefix_one a rest e = record {
    so_far = prefix.so_far ∙ ap (with_prefix items values) (many_next p now _ e) ∙ with_prefix_one items values (g now).items a (many g rest);
  }

  -- after the last one
  pub prefix_done : (rest : List ℕ) → (g now).outcome ≡ Ok (None, rest)
      → many g start ≡ record { items = items ++ (g now).items; outcome = Ok (values, rest) }
  prefix_done rest e = prefix.so_far ∙ ap (with_prefix items values) (many_next p now _ e)
      ∙ ap (λ xs. record { items = items ++ (g now).items; outcome = Ok (xs, rest) }) (append-nil values)

  -- if a fault stops a turn
  pub prefix_stopped : (fault : F) → (g now).outcome ≡ Err fault → many g start ≡ record { items = items ++ (g now).items; outcome = Err fault }
  prefix_stopped fault e = prefix.so_far ∙ ap (with_prefix items values) (many_next p now _ e)
