-- Sets that are FIRST and FOLLOW say where productions are used.
use Rattle.std.proofs.Common.{◌↔◌, ◌⊎◌, inl, inr, ℕ, List, [], ◌∷◌}
use Rattle.cfgrammar.specs.Derivation.{Derives}
use Rattle.cfgrammar.specs.First.{First, Nullable}
use Rattle.cfgrammar.specs.FirstSets.{AreNullable, Begins}
use Rattle.cfgrammar.specs.Firsts.{AreFirsts, FirstSets, IsAmongFirsts, IsNullableRule}
use Rattle.cfgrammar.specs.Follow.{MayFollow}
use Rattle.cfgrammar.specs.Follows.{AreFollows}
use Rattle.cfgrammar.specs.Grammar.{Grammar, HasProduction, Sym, Rule, Token}
use Rattle.cfgrammar.specs.Table.{HasBit, Table}
use Rattle.generator_tools.specs.Ll1.{FirstOf, IsUsedAt}
use Rattle.generator_tools.specs.Inner.Sets.{IsUsedBySets}

-- sets that have more say more
more_used : (E E' : ℕ → Type 0) (F F' W W' : ℕ → ℕ → Type 0) (r t : ℕ) → ((q : ℕ) → E q → E' q) → ((q : ℕ) → F q t → F' q t) → (W r t → W' r t)
    → (a : List Sym) → IsUsedBySets E F W r a t → IsUsedBySets E' F' W' r a t
more_used E E' F F' W W' r t nullable begins follows [] h = follows h
more_used E E' F F' W W' r t nullable begins follows (Token u ∷ a) h = h
more_used E E' F F' W W' r t nullable begins follows (Rule q ∷ a) (inl f) = inl (begins q f)
more_used E E' F F' W W' r t nullable begins follows (Rule q ∷ a) (inr k) =
    inr (nullable q k.0, more_used E E' F F' W W' r t nullable begins follows a k.1)

-- symbol by symbol, as what the symbols begin with, or what follows them
module _ (E : ℕ → Type 0) (F W : ℕ → ℕ → Type 0) (r t : ℕ) where
  in_parts : (a : List Sym) → IsUsedBySets E F W r a t → Begins E F a t ⊎ (AreNullable E a × W r t)
  in_parts [] h = inr (tt, h)
  in_parts (Token u ∷ a) h = inl h
  in_parts (Rule q ∷ a) (inl f) = inl (inl f)
  in_parts (Rule q ∷ a) (inr k) = elim (in_parts a k.1) [ inl b ↦ inl (inr (k.0, b)) | inr all ↦ inr ((k.0, all.0), all.1) ]

  from_parts : (a : List Sym) → Begins E F a t ⊎ (AreNullable E a × W r t) → IsUsedBySets E F W r a t
  from_parts [] (inl b) = absurd b
  from_parts [] (inr all) = all.1
  from_parts (Token u ∷ a) (inl b) = b
  from_parts (Token u ∷ a) (inr all) = absurd all.0
  from_parts (Rule q ∷ a) (inl (inl f)) = inl f
  from_parts (Rule q ∷ a) (inl (inr k)) = inr (k.0, from_parts a (inl k.1))
  from_parts (Rule q ∷ a) (inr all) = inr (all.0.0, from_parts a (inr (all.0.1, all.1)))

module _ (g : Grammar) (x : FirstSets) (y : Table) (firsts : AreFirsts g x) (follows : AreFollows g y) (r t : ℕ) (a : List Sym)
    (nullable : AreNullable (Nullable (HasProduction g)) a ↔ Derives (HasProduction g) a [])
    (begins : Begins (Nullable (HasProduction g)) (First (HasProduction g)) a t ↔ FirstOf (HasProduction g) a t) where
  -- the sets have the token where the production is used
  pub used_at : IsUsedBySets (IsNullableRule x) (IsAmongFirsts x) (HasBit y) r a t ↔ IsUsedAt g r a t
  used_at = (
    (λ h. elim (in_parts (Nullable (HasProduction g)) (First (HasProduction g)) (MayFollow g) r t a
        (more_used (IsNullableRule x) (Nullable (HasProduction g)) (IsAmongFirsts x) (First (HasProduction g)) (HasBit y) (MayFollow g) r t
        (λ q. (firsts.empty q).0) (λ q. (firsts.first q t).0) (follows.follow r t).0 a h)) [
          | inl b ↦ inl (begins.0 b)
          | inr all ↦ inr (nullable.0 all.0, all.1)
        ]),
    (λ h. more_used (Nullable (HasProduction g)) (IsNullableRule x) (First (HasProduction g)) (IsAmongFirsts x) (MayFollow g) (HasBit y) r t
        (λ q. (firsts.empty q).1) (λ q. (firsts.first q t).1) (follows.follow r t).1 a
        (from_parts (Nullable (HasProduction g)) (First (HasProduction g)) (MayFollow g) r t a (elim h [
          | inl f ↦ inl (begins.1 f)
          | inr all ↦ inr (nullable.1 all.0, all.1)
        ]))),
  )
