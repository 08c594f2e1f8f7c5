-- Marks of the tokens whose names are given, one more name at a time, and what they say about a token.
use Rattle.std.proofs.Common.{◌≡◌, ℕ, ◌+◌, ◌<◌, ◌==◌, Bool, true, false, cond, not, ◌||◌, List, [], ◌∷◌, ◌++◌, length, map, take, get_or, slice_get, slice_set, Option, Some, None, IfSome, is_some, option_map, Bor, position, bytes_eq, refl, sym, ap, subst, ◌∙◌, arith}
use Rattle.std.specs.List.{list_any}
use Rattle.std.specs.Option.{option_map_or}
use Rattle.std.proofs.lemmas.Bool.{false≢true, eq-eqb, eqb-true}
use Rattle.std.proofs.lemmas.List.{length-map, length-set, get_or-map, get_or-set_same, get_or-set_other, length-take-le, map_push, take_more}
use Rattle.std.proofs.lemmas.Option.{get_or_from_slice_get, slice_get_within}
use Rattle.std.proofs.lemmas.List.Folds.{list_any-append}
use Rattle.std.proofs.lemmas.List.Quantifiers.{position-Some}
use Rattle.std.proofs.lemmas.Map.Keys.{any_passes_from_place}
use Rattle.std.proofs.lemmas.Slice.Eq.{bytes_eq-Decides}
use Rattle.cfgrammar.specs.Accessors.{has_token_name}
use Rattle.cfgrammar.specs.Lists.{positions}
use Rattle.cfgrammar.specs.Numbered.{Numbered, NumberedToken}
use Rattle.cfgrammar.specs.TokenNames.{token_names}
use Rattle.cfgrammar.proofs.ListPositions.{first_position, no_position}
use Rattle.cfgrammar.proofs.Passing.{positions-push}
use Rattle.cfgrammar.proofs.Tests.{list_any-map}
use Rattle.lexcheck.specs.Inner.Marks.{AreMarks, names_token}
use Rattle.lexcheck.specs.LexerNames.{is_name, is_unknown}

-- what one more element shows
pub one_more : {A B : Type 0} (f : A → B) (xs : List A) (n : ℕ) (d : A) → n < length xs → take (n + 1) (map f xs) ≡ take n (map f xs) ++ f (get_or xs n d) ∷ []
one_more f xs n d within =
    take_more (map f xs) n (f d) (omega (arith, within, length-map xs f)) ∙ ap (λ e. take n (map f xs) ++ e ∷ []) (get_or-map f xs n d (f d) within)

or_false : (b : Bool) → (b || false) ≡ b
or_false true = refl
or_false false = refl

or_true : (b : Bool) → (b || true) ≡ true
or_true true = refl
or_true false = refl

-- the indices among the first elements of a list, with one more
pub positions_more : {A : Type 0} (p : A → Bool) (xs : List A) (n : ℕ) (x : A) → slice_get xs n ≡ Some x
    → positions p (take (n + 1) xs) ≡ cond (p x) (positions p (take n xs) ++ n ∷ []) (positions p (take n xs))
positions_more p xs n x there =
    let within = slice_get_within xs n x there in
    ap (positions p) (take_more xs n x within ∙ ap (λ e. take n xs ++ e ∷ []) (get_or_from_slice_get xs n x x there)) ∙ positions-push p (take n xs) x
    ∙ ap (λ k. cond (p x) (positions p (take n xs) ++ k ∷ []) (positions p (take n xs))) (length-take-le n xs (omega (arith, within)))

pub nameless : NumberedToken
nameless = record { name = None; span = None; precedence = None; printed = None; avoid_insert = false }

-- an index is found if some element passes
found_somewhere : {A : Type 0} (p : A → Bool) (xs : List A) → is_some (position p xs) ≡ list_any p xs
found_somewhere p xs = go (list_any p xs) refl
  where
    go : (b : Bool) → list_any p xs ≡ b → is_some (position p xs) ≡ b
    go true e = ap is_some (first_position p xs e)
    go false e = ap is_some (no_position p xs e)

module _ (g : Numbered) where
  -- the indices of unknown names, with one more name
  pub unknown_more : (names : List (List ℕ)) (name : List ℕ) (n : ℕ) → length names ≡ n → (o : Option ℕ) → position (has_token_name name) g.tokens ≡ o
      → positions (is_unknown (token_names g)) (names ++ name ∷ []) ≡ cond (is_some o) (positions (is_unknown (token_names g)) names) (positions (is_unknown (token_names g)) names ++ n ∷ [])
  unknown_more names name n counted o at =
      positions-push (is_unknown (token_names g)) names name
      ∙ (λ i. cond (unknown i) (positions (is_unknown (token_names g)) names ++ counted i ∷ []) (positions (is_unknown (token_names g)) names))
      ∙ go (is_some o)
    where
      unknown : is_unknown (token_names g) name ≡ not (is_some o)
      unknown = ap not (list_any-map (is_name name) (λ (token : NumberedToken). token.name) g.tokens ∙ sym (found_somewhere (has_token_name name) g.tokens) ∙ ap is_some at)

      go : (b : Bool) → cond (not b) (positions (is_unknown (token_names g)) names ++ n ∷ []) (positions (is_unknown (token_names g)) names)
          ≡ cond b (positions (is_unknown (token_names g)) names) (positions (is_unknown (token_names g)) names ++ n ∷ [])
      go true = refl
      go false = refl

  -- what one more name gives
  more : (names : List (List ℕ)) (name : List ℕ) (t : ℕ) (named : Bool) → names_token g t name ≡ named
      → list_any (names_token g t) (names ++ name ∷ []) ≡ (list_any (names_token g t) names || named)
  more names name t named is =
      list_any-append (names_token g t) names (name ∷ []) ∙ ap (λ b. list_any (names_token g t) names || b) (or_false (names_token g t name) ∙ is)

  module _ (names : List (List ℕ)) (name : List ℕ) (marks : List Bool) (are : AreMarks g names marks) where
    -- no token has the name
    pub unmarked_more : position (has_token_name name) g.tokens ≡ None → AreMarks g (names ++ name ∷ []) marks
    unmarked_more nowhere = record {
      counted = are.counted;
      each = λ t within. are.each t within
          ∙ sym (more names name t false (ap (λ o. option_map_or (λ k. k == t) o false) nowhere) ∙ or_false (list_any (names_token g t) names));
    }

    -- token k has it
    pub marked_more : (k : ℕ) → position (has_token_name name) g.tokens ≡ Some k → k < length g.tokens → AreMarks g (names ++ name ∷ []) (slice_set marks k true)
    marked_more k at inside = record {
      counted = length-set marks k true ∙ are.counted;
      each = λ t within. go t within (k == t) refl;
    }
      where
        go : (t : ℕ) → t < length g.tokens → (same : Bool) → (k == t) ≡ same
            → get_or (slice_set marks k true) t false ≡ list_any (names_token g t) (names ++ name ∷ [])
        go t within true e =
            let is : k ≡ t = eqb-true k t e in
            subst (λ i. get_or (slice_set marks k true) i false ≡ true) is (get_or-set_same marks k true false (subst (λ n. k < n) (sym are.counted) inside))
            ∙ sym (more names name t true (ap (λ o. option_map_or (λ i. i == t) o false) at ∙ e) ∙ or_true (list_any (names_token g t) names))
        go t within false e =
            get_or-set_other marks k t true false (λ is. absurd (false≢true (sym e ∙ eq-eqb k t (sym is)))) ∙ are.each t within
            ∙ sym (more names name t false (ap (λ o. option_map_or (λ i. i == t) o false) at ∙ e) ∙ or_false (list_any (names_token g t) names))

  -- two names of one token are one
  one_name : (name other : List ℕ) (token : NumberedToken) → has_token_name name token ≡ true → has_token_name other token ≡ true → name ≡ other
  one_name name other token has also = go token.name has also
    where
      go : (o : Option (List ℕ)) → option_map_or (bytes_eq name) o false ≡ true → option_map_or (bytes_eq other) o false ≡ true → name ≡ other
      go None has also = absurd (false≢true has)
      go (Some x) has also = (bytes_eq-Decides name x).0 has ∙ sym ((bytes_eq-Decides other x).0 also)

  -- if a name is found, where it is, and that the token there has it
  pub found : (name : List ℕ) (k : ℕ) → position (has_token_name name) g.tokens ≡ Some k
      → (k < length g.tokens) × (has_token_name name (get_or g.tokens k nameless) ≡ true)
  found name k at = let is = position-Some (has_token_name name) g.tokens k nameless at in (is.0, is.1)

  -- the name of a token is found
  pub not_nowhere : (name : List ℕ) → list_any (has_token_name name) g.tokens ≡ true → position (has_token_name name) g.tokens ≡ None → ⊥
  not_nowhere name some none = let no : None ≡ Some _ = sym none ∙ first_position (has_token_name name) g.tokens some in cc

  -- a token's mark says whether its name is among the names
  pub mark_of : (names : List (List ℕ)) (marks : List Bool) → AreMarks g names marks → (name : List ℕ) (k : ℕ) → position (has_token_name name) g.tokens ≡ Some k
      → get_or marks k false ≡ list_any (bytes_eq name) names
  mark_of names marks are name k at = are.each k (found name k at).0 ∙ ap (λ p. list_any p names) (λ i other. same other i)
    where
      same : (other : List ℕ) → names_token g k other ≡ bytes_eq name other
      same other = go (bytes_eq name other) refl
        where
          there : (o : Option ℕ) → position (has_token_name other) g.tokens ≡ o → bytes_eq name other ≡ false → option_map_or (λ j. j == k) o false ≡ false
          there None at_none differs = refl
          there (Some j) at_other differs = decided (j == k) refl
            where
              decided : (b : Bool) → (j == k) ≡ b → (j == k) ≡ false
              decided false e = e
              decided true e =
                  let here = subst (λ i. has_token_name other (get_or g.tokens i nameless) ≡ true) (eqb-true j k e) (found other j at_other).1 in
                  absurd (false≢true (sym differs ∙ (bytes_eq-Decides name other).1 (one_name name other (get_or g.tokens k nameless) (found name k at).1 here)))

          go : (b : Bool) → bytes_eq name other ≡ b → names_token g k other ≡ b
          go true e = ap (λ n. names_token g k n) (sym ((bytes_eq-Decides name other).0 e)) ∙ ap (λ o. option_map_or (λ j. j == k) o false) at ∙ eq-eqb k k refl
          go false e = there (position (has_token_name other) g.tokens) refl e

-- a token that shows a name has it
pub token_has_name : (tokens : List NumberedToken) (t : ℕ) (name : Option (Bor (List ℕ)))
    → option_map (λ (token : NumberedToken). token.name) (slice_get tokens t) ≡ Some (option_map (λ n. n.now) name) → IfSome name (λ n. list_any (has_token_name n.now) tokens ≡ true)
token_has_name tokens t None shown = tt
token_has_name tokens t (Some name) shown = go (slice_get tokens t) refl shown
  where
    go : (o : Option NumberedToken) → slice_get tokens t ≡ o → option_map (λ (token : NumberedToken). token.name) o ≡ Some (Some name.now)
        → list_any (has_token_name name.now) tokens ≡ true
    go None there shown = let no : None ≡ Some (Some name.now) = shown in cc
    go (Some token) there shown =
        let is : token.name ≡ Some name.now = cc in
        any_passes_from_place (has_token_name name.now) tokens t token there
        (ap (λ o. option_map_or (bytes_eq name.now) o false) is ∙ (bytes_eq-Decides name.now name.now).1 refl)

-- what is pushed, shown as a number
pub pushed_shown : {A : Type 0} (number : A → ℕ) (passes : Bool) (xs : List A) (x : A) (shown : List ℕ) (n : ℕ) → map number xs ≡ shown → number x ≡ n
    → map number (cond passes (xs ++ x ∷ []) xs) ≡ cond passes (shown ++ n ∷ []) shown
pushed_shown number true xs x shown n is here = map_push number xs x ∙ (λ i. is i ++ here i ∷ [])
pushed_shown number false xs x shown n is here = is
