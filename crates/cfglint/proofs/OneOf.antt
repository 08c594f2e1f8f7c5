-- Words that a text has.
use Rattle.std.proofs.Common.{◌≡◌, ℕ, ◌+◌, ◌<◌, List, [], ◌∷◌, ◌++◌, inl, inr, Contains, length, map, take, get_or, arith, sym, subst}
use Rattle.std.specs.Borrow.{Bor}
use Rattle.std.proofs.lemmas.List.{get_or-map, length-map, map_more}
use Rattle.std.proofs.lemmas.List.Elements.{Contains-append_cases, Contains-get_or}
use Rattle.std.specs.Str.Iter.{HasSubslice}
use Rattle.cfglint.specs.Signs.{HasOneOf}

-- a text has none of some words and of one more, if it has none of them and not this one
none_more : (text word : List ℕ) (words : List (List ℕ)) → (HasOneOf text words → ⊥) → (HasSubslice text word → ⊥)
    → HasOneOf text (words ++ word ∷ []) → ⊥
none_more text word words none not has = elim (Contains-append_cases words (word ∷ []) has.word has.listed) [
  | inl before ↦ none (record { word = has.word; listed = before; there = has.there })
  | inr last ↦
      let first : last.0 ≡ 0 = omega (arith, last.1) in
      let is : word ≡ has.word = subst (λ k. get_or (word ∷ []) k has.word ≡ has.word) first last.2 in
      not (subst (HasSubslice text) (sym is) has.there)
]

module _ (text : List ℕ) (words : List (Bor (List ℕ))) (i : ℕ) (d : Bor (List ℕ)) (within : i < length words) where
  -- it has one of the words if it has that at an index
  pub one_among : HasSubslice text (get_or words i d).now → HasOneOf text (map (λ (word : Bor (List ℕ)). word.now) words)
  one_among there =
      let now = λ (word : Bor (List ℕ)). word.now in
      let there_too : i < length (map now words) = omega (arith, length-map words now, within) in
      record {
        word = (get_or words i d).now;
        listed = subst (Contains (map now words)) (get_or-map now words i d [] within) (Contains-get_or (map now words) i [] there_too);
        there = there;
      }

  -- it has none of them up to an index
  pub none_up_to : (HasOneOf text (map (λ (word : Bor (List ℕ)). word.now) (take i words)) → ⊥) → (HasSubslice text (get_or words i d).now → ⊥)
      → HasOneOf text (map (λ (word : Bor (List ℕ)). word.now) (take (i + 1) words)) → ⊥
  none_up_to none not =
      subst (λ (named : List (List ℕ)). HasOneOf text named → ⊥) (sym (map_more (λ (word : Bor (List ℕ)). word.now) words i d within))
      (none_more text (get_or words i d).now (map (λ (word : Bor (List ℕ)). word.now) (take i words)) none not)
