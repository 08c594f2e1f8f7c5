-- What is found by the symbols after a rule, one after the other.
use Rattle.std.proofs.Common.{◌≡◌, inl, inr, ℕ, ◌+◌, ◌-◌, ◌<◌, ◌≤◌, List, [], ◌∷◌, ◌++◌, Option, None, Some, slice_get, drop, get_or, length, map, take, take-append-drop, sym, ap, subst, ◌∙◌, arith}
use Rattle.std.proofs.lemmas.Bool.{cases_lt}
use Rattle.std.specs.Prelude.{option_map}
use Rattle.std.proofs.lemmas.List.{drop-map, drop_more, length-drop, length-map, take-take, take_all, take_more}
use Rattle.std.proofs.lemmas.Option.{get_or_from_slice_get, slice_get-get_or, slice_get-map, slice_get_past, slice_get_within}
use Rattle.cfgrammar.specs.Grammar.{Sym}
use Rattle.cfgindex.specs.declared.idxnewtype.Symbol.{Symbol}
use Rattle.cfgrammar.specs.NumberedSymbols.{sym_of}
use Rattle.cfgrammar.specs.Derivation.{Derives}
use Rattle.derivation.proofs.Concatenation.{derives_both}
use Rattle.derivation.proofs.UnitPaths.{empty_in_parts}
use Rattle.lr_states.specs.Lookaheads.{HasUsed}
use Rattle.lr_conflicts.specs.declared.examples.nodes.Node.{Node}
use Rattle.lr_conflicts.specs.declared.examples.nodes.Step.{Step}
use Rattle.lr_conflicts.specs.Inner.Ways.{ByNext, ByShown, Finds, Setting}
use Rattle.lr_conflicts.proofs.Found.{finds_as, finds_none, finds_then}

abbrev pub f : Symbol ℕ → Sym
f = sym_of (λ s. s)

tail : {A : Type 0} (i : ℕ) (xs : List A) → take (length xs - i) (drop i xs) ≡ drop i xs
tail i xs = take_all (length xs - i) (drop i xs) (let long = length-drop i xs in omega (arith, long))

-- symbols as the code has them
pub tail_of : (i : ℕ) (xs : List (Symbol ℕ)) → map f (take (length xs - i) (drop i xs)) ≡ drop i (map f xs)
tail_of i xs = ap (map f) (tail i xs) ∙ sym (drop-map f i xs)

pub symbol_at : (i : ℕ) (xs : List (Symbol ℕ)) (d x : Symbol ℕ) → i < length xs → get_or xs i d ≡ x → slice_get (map f xs) i ≡ Some (f x)
symbol_at i xs d x within is = slice_get-map f xs i ∙ ap (option_map f) (slice_get-get_or xs i d within ∙ ap Some is)

pub tail_at : (i : ℕ) (xs : List (Symbol ℕ)) (d x : Symbol ℕ) → i < length xs → get_or xs i d ≡ x → drop i (map f xs) ≡ f x ∷ map f (take (length xs - (i + 1)) (drop (i + 1) xs))
tail_at i xs d x within is =
    let long = length-map xs f in
    drop_more (map f xs) i (f x) (omega (arith, long, within)) ∙ ap (λ y. y ∷ drop (i + 1) (map f xs)) (get_or_from_slice_get (map f xs) i (f x) (f x) (symbol_at i xs d x within is))
    ∙ ap (λ l. f x ∷ l) (sym (tail_of (i + 1) xs))

module _ (S : Setting) (q rule : ℕ) (list : List Sym) where
  abbrev P : ℕ → List Sym → Type 0
  P = HasUsed S.grammar S.Used

  abbrev All : Option Node → (Node → Type 0) → List (Node × Step) → List (Node × Step) → Type 0
  All = Finds S

  -- by one of the first symbols
  pub record Below (i : ℕ) (n : Node) : Type 0 where
    pub index : ℕ
    pub below : index < i
    pub nullable : Derives P (take index list) []
    pub by : ByNext S q rule (slice_get list index) n

  abbrev At : ℕ → Node → Type 0
  At i = ByNext S q rule (slice_get list i)

  pub below_none : {from : Option Node} (es : List (Node × Step)) → All from (Below 0) es es
  below_none es = finds_none S (Below 0) es (λ n h. let low = h.below in omega (arith, low))

  pub below_more : {from : Option Node} (i : ℕ) → Derives P (take i list) [] → (old mid new : List (Node × Step)) → All from (Below i) old mid → All from (At i) mid new
      → All from (Below (i + 1)) old new
  below_more i nullable old mid new w v = finds_then S (Below i) (At i) (Below (i + 1)) old mid new
      (λ n h. elim (cases_lt h.index i) [
        | inl before ↦ inl (record { index = h.index; below = before; nullable = h.nullable; by = h.by })
        | inr past ↦
            let low = h.below in
            let same : h.index ≡ i = omega (arith, low, past) in
            inr (subst (λ m. At m n) same h.by)
      ])
      w v

  none_by : (n : Node) → ByNext S q rule None n → ⊥
  none_by n h = h

  pub below_all : {from : Option Node} (i : ℕ) → length list ≤ i → (old new : List (Node × Step)) → All from (Below i) old new → All from (ByShown S q rule list) old new
  below_all i most old new w = finds_as S (Below i) (ByShown S q rule list) old new
      (λ n h. elim (cases_lt h.index (length list)) [
        | inl within ↦ record { index = h.index; below = omega (arith, within, most); nullable = h.nullable; by = h.by }
        | inr past ↦ absurd (none_by n (subst (λ o. ByNext S q rule o n) (slice_get_past list h.index past) h.by))
      ])
      w

  module _ (i : ℕ) (x : Sym) (at : slice_get list i ≡ Some x) where
    within : i < length list
    within = slice_get_within list i x at

    front : take (i + 1) list ≡ take i list ++ x ∷ []
    front = take_more list i x within ∙ ap (λ y. take i list ++ y ∷ []) (get_or_from_slice_get list i x x at)

    pub nullable_more : Derives P (take i list) [] → Derives P (x ∷ []) [] → Derives P (take (i + 1) list) []
    nullable_more nullable one = subst (λ l. Derives P l []) (sym front) (derives_both P [] [] nullable one)

    -- if the symbol isn't nullable, nothing with it is
    module _ (some : Derives P (x ∷ []) [] → ⊥) where
      none_after : (back : List Sym) → Derives P (take (i + 1) list ++ back) [] → ⊥
      none_after back d = some (empty_in_parts P (take i list) (x ∷ []) (subst (λ l. Derives P l []) front (empty_in_parts P (take (i + 1) list) back d).0)).1

      pub not_nullable : Derives P list [] → ⊥
      not_nullable d = none_after (drop (i + 1) list) (subst (λ l. Derives P l []) (sym (take-append-drop (i + 1) list)) d)

      not_past : (index : ℕ) → i < index → Derives P (take index list) [] → ⊥
      not_past index past d = none_after (drop (i + 1) (take index list))
          (subst (λ l. Derives P l []) (sym (ap (λ l. l ++ drop (i + 1) (take index list)) (sym (take-take (i + 1) index list (omega (arith, past)))) ∙ take-append-drop (i + 1) (take index list))) d)

      pub below_stop : {from : Option Node} (old new : List (Node × Step)) → All from (Below (i + 1)) old new → All from (ByShown S q rule list) old new
      below_stop old new w = finds_as S (Below (i + 1)) (ByShown S q rule list) old new
          (λ n h. elim (cases_lt i h.index) [
            | inl past ↦ absurd (not_past h.index past h.nullable)
            | inr low ↦ record { index = h.index; below = omega (arith, low); nullable = h.nullable; by = h.by }
          ])
          w
