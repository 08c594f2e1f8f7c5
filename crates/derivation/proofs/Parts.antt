-- What a concatenation derives is what its parts derive, one after the other.
use Rattle.std.proofs.Common.{◌≡◌, ℕ, List, [], ◌∷◌, ◌++◌, ◌⊎◌, inl, inr, append_assoc, refl, sym, ap, ◌∙◌}
use Rattle.derivation.specs.Grammar.{Sym, Rule}
use Rattle.derivation.specs.Derivation.{Derives, none, next}
use Rattle.derivation.specs.Concatenation.{DerivedInParts}

-- a symbol in a concatenation is in the first part, or in the second
record Earlier (a b x : List Sym) (s : Sym) (y : List Sym) : Type 0 where
  middle : List Sym
  prefix : a ≡ x ++ (s ∷ middle)
  back : y ≡ middle ++ b

record Later (a b x : List Sym) (s : Sym) (y : List Sym) : Type 0 where
  middle : List Sym
  prefix : x ≡ a ++ middle
  back : b ≡ middle ++ (s ∷ y)

heads : {x y : Sym} {xs ys : List Sym} → x ∷ xs ≡ y ∷ ys → x ≡ y
heads e = cc

tails : {x y : Sym} {xs ys : List Sym} → x ∷ xs ≡ y ∷ ys → xs ≡ ys
tails e = cc

position_of : (a b x : List Sym) (s : Sym) (y : List Sym) → a ++ b ≡ x ++ (s ∷ y) → Earlier a b x s y ⊎ Later a b x s y
position_of [] b x s y e = inr (record { middle = x; prefix = refl; back = e })
position_of (c ∷ a) b [] s y e = inl (record { middle = a; prefix = ap (λ h. h ∷ a) (heads e); back = sym (tails e) })
position_of (c ∷ a) b (d ∷ x) s y e = elim (position_of a b x s y (tails e)) [
  | inl h ↦ inl (record { middle = h.middle; prefix = (λ i. heads e i ∷ h.prefix i); back = h.back })
  | inr h ↦ inr (record { middle = h.middle; prefix = (λ i. sym (heads e) i ∷ h.prefix i); back = h.back })
]

module _ (P : ℕ → List Sym → Type 0) where
  pub in_parts : (a b : List Sym) {l c : List Sym} → l ≡ a ++ b → Derives P l c → DerivedInParts P a b c
  in_parts a b e none = record { prefix = a; back = b; whole = e; first = none; second = none }
  in_parts a b e (next s d) = elim (position_of a b s.before (Rule s.rule) s.after (sym e ∙ s.source)) [
    | inl h ↦
        let p = in_parts (s.before ++ (s.symbols ++ h.middle)) b
        (s.target ∙ ap (λ y. s.before ++ (s.symbols ++ y)) h.back ∙ ap (λ y. s.before ++ y) (sym (append_assoc s.symbols h.middle b))
        ∙ sym (append_assoc s.before (s.symbols ++ h.middle) b)) d in
        record {
          prefix = p.prefix;
          back = p.back;
          whole = p.whole;
          first = next (record {
            before = s.before;
            rule = s.rule;
            after = h.middle;
            symbols = s.symbols;
            has = s.has;
            source = h.prefix;
            target = refl;
          }) p.first;
          second = p.second;
        }
    | inr h ↦
        let p = in_parts a (h.middle ++ (s.symbols ++ s.after))
        (s.target ∙ ap (λ x. x ++ (s.symbols ++ s.after)) h.prefix ∙ append_assoc a h.middle (s.symbols ++ s.after)) d in
        record {
          prefix = p.prefix;
          back = p.back;
          whole = p.whole;
          first = p.first;
          second = next (record {
            before = h.middle;
            rule = s.rule;
            after = s.after;
            symbols = s.symbols;
            has = s.has;
            source = h.back;
            target = refl;
          }) p.second;
        }
  ]
