-- What `split_balanced` finds is balanced, and nothing else is.
use Rattle.std.proofs.Common.{◌≡◌, ◌≢◌, ℕ, zero, suc, ◌+◌, ◌<◌, ◌≤◌, Bool, true, false, ◌||◌, List, [], ◌∷◌, ◌++◌, length, take, drop, get_or, eqb, Option, Some, None, refl, sym, ap, ap₂, subst, ◌∙◌, arith, drop-cons, add-one, append_assoc, eqb-true}
use Rattle.std.proofs.lemmas.List.{append-nil, drop_all, take_more}
use Rattle.std.proofs.lemmas.Bool.{or_parts, ne_eqb}
use Rattle.constructs.specs.Pieces.{with_first}
use Rattle.cfgwords.specs.Actions.{is_brace, Balanced, empty, other, braces, split_balanced}
use Rattle.cfgwords.specs.Inner.Ends.{IsClosedAt}

-- what is found after a prefix
abbrev pub after : List ℕ → Option (List ℕ × List ℕ) → Option (List ℕ × List ℕ)
after prefix None = None
after prefix (Some (inside, rest)) = Some (prefix ++ inside, rest)

pub after_nil : (o : Option (List ℕ × List ℕ)) → after [] o ≡ o
after_nil None = refl
after_nil (Some parts) = refl

pub after_first : (b : ℕ) (prefix : List ℕ) (o : Option (List ℕ × List ℕ)) → with_first b (after prefix o) ≡ after (b ∷ prefix) o
after_first b prefix None = refl
after_first b prefix (Some parts) = refl

pub after_twice : (prefix more : List ℕ) (o : Option (List ℕ × List ℕ)) → after prefix (after more o) ≡ after (prefix ++ more) o
after_twice prefix more None = refl
after_twice prefix more (Some (inside, rest)) = ap (λ x. Some (x, rest)) (sym (append_assoc prefix more inside))

after_one : (b : ℕ) (o : Option (List ℕ × List ℕ)) → with_first b o ≡ after (b ∷ []) o
after_one b None = refl
after_one b (Some parts) = refl

-- `split_balanced`, by the text's first byte
pub split_open : (depth : ℕ) (text : List ℕ) → split_balanced depth (123 ∷ text) ≡ after (123 ∷ []) (split_balanced (suc depth) text)
unfolding split_balanced
split_open zero text = after_one 123 (split_balanced 1 text)
split_open (suc depth) text = after_one 123 (split_balanced (suc (suc depth)) text)

pub split_close : (depth : ℕ) (text : List ℕ) → split_balanced (suc depth) (125 ∷ text) ≡ after (125 ∷ []) (split_balanced depth text)
unfolding split_balanced
split_close depth text = after_one 125 (split_balanced depth text)

pub split_ends : (text : List ℕ) → split_balanced 0 (125 ∷ text) ≡ Some ([], text)
unfolding split_balanced
split_ends text = refl

pub split_other : (depth b : ℕ) (text : List ℕ) → eqb b 123 ≡ false → eqb b 125 ≡ false → split_balanced depth (b ∷ text) ≡ after (b ∷ []) (split_balanced depth text)
unfolding split_balanced
split_other zero b text opens closes = rw (opens, closes) (after_one b (split_balanced zero text))
split_other (suc depth) b text opens closes = rw (opens, closes) (after_one b (split_balanced (suc depth) text))

pub split_end : (depth : ℕ) → split_balanced depth [] ≡ None
unfolding split_balanced
split_end depth = refl

-- a byte other than a brace
no_brace : (b : ℕ) → is_brace b ≡ false → (eqb b 123 ≡ false) × (eqb b 125 ≡ false)
no_brace b h = or_parts (eqb b 123) (eqb b 125) h

-- a balanced text doesn't change what is found after it
pub split_after : (depth : ℕ) (inside text : List ℕ) → Balanced inside → split_balanced depth (inside ++ text) ≡ after inside (split_balanced depth text)
split_after depth inside text empty = sym (after_nil (split_balanced depth text))
split_after depth inside text (other b rest h more) =
    let tests = no_brace b h in
    split_other depth b (rest ++ text) tests.0 tests.1
    ∙ ap (after (b ∷ [])) (split_after depth rest text more) ∙ after_twice (b ∷ []) rest (split_balanced depth text)
split_after depth whole text (braces inside rest first second) =
    split_open depth ((inside ++ 125 ∷ rest) ++ text)
    ∙ ap (λ x. after (123 ∷ []) (split_balanced (suc depth) x)) (append_assoc inside (125 ∷ rest) text)
    ∙ ap (after (123 ∷ [])) (split_after (suc depth) inside (125 ∷ (rest ++ text)) first)
    ∙ ap (λ o. after (123 ∷ []) (after inside o)) (split_close depth (rest ++ text) ∙ ap (after (125 ∷ [])) (split_after depth rest text second))
    ∙ ap (λ o. after (123 ∷ []) (after inside o)) (after_twice (125 ∷ []) rest (split_balanced depth text))
    ∙ ap (after (123 ∷ [])) (after_twice inside (125 ∷ rest) (split_balanced depth text))
    ∙ after_twice (123 ∷ []) (inside ++ 125 ∷ rest) (split_balanced depth text)

-- a balanced text, after depth others that each have their closing brace
abbrev pub Closes : ℕ → List ℕ → Type 0
Closes zero text = Balanced text
Closes (suc depth) text = (inside : List ℕ) × (rest : List ℕ) × Balanced inside × Closes depth rest × (text ≡ inside ++ 125 ∷ rest)

closes_other : (depth b : ℕ) (text : List ℕ) → is_brace b ≡ false → Closes depth text → Closes depth (b ∷ text)
closes_other zero b text h c = other b text h c
closes_other (suc depth) b text h (inside, rest, first, further, e) = (b ∷ inside, rest, other b inside h first, further, ap (λ x. b ∷ x) e)

closes_open : (depth : ℕ) (inside rest : List ℕ) → Balanced inside → Closes depth rest → Closes depth (123 ∷ (inside ++ 125 ∷ rest))
closes_open zero inside rest first further = braces inside rest first further
closes_open (suc depth) inside rest first (second, last, balanced, further, e) = (
  123 ∷ (inside ++ 125 ∷ second),
  last,
  braces inside second first balanced,
  further,
  ap (λ x. 123 ∷ (inside ++ 125 ∷ x)) e ∙ ap (λ x. 123 ∷ x) (sym (append_assoc inside (125 ∷ second) (125 ∷ last))),
)

-- what is found closes the open braces, and the next closing brace follows
abbrev pub Splits : ℕ → List ℕ → Option (List ℕ × List ℕ) → Type 0
Splits depth text None = Unit {0}
Splits depth text (Some (inside, rest)) = Closes depth inside × (text ≡ inside ++ 125 ∷ rest)

splits_other : (depth b : ℕ) (text : List ℕ) (o : Option (List ℕ × List ℕ)) → is_brace b ≡ false → Splits depth text o → Splits depth (b ∷ text) (after (b ∷ []) o)
splits_other depth b text None h s = tt
splits_other depth b text (Some (inside, rest)) h s = (closes_other depth b inside h s.0, ap (λ x. b ∷ x) s.1)

splits_open : (depth : ℕ) (text : List ℕ) (o : Option (List ℕ × List ℕ)) → Splits (suc depth) text o → Splits depth (123 ∷ text) (after (123 ∷ []) o)
splits_open depth text None s = tt
splits_open depth text (Some (inside, rest)) ((first, second, balanced, further, e), whole) =
    (subst (λ x. Closes depth (123 ∷ x)) (sym e) (closes_open depth first second balanced further), ap (λ x. 123 ∷ x) whole)

splits_close : (depth : ℕ) (text : List ℕ) (o : Option (List ℕ × List ℕ)) → Splits depth text o → Splits (suc depth) (125 ∷ text) (after (125 ∷ []) o)
splits_close depth text None s = tt
splits_close depth text (Some (inside, rest)) s = (([], inside, empty, s.0, refl), ap (λ x. 125 ∷ x) s.1)

-- at a closing brace
split_sound_close : (depth : ℕ) (text : List ℕ) → ((depth : ℕ) → Splits depth text (split_balanced depth text))
    → Splits depth (125 ∷ text) (split_balanced depth (125 ∷ text))
split_sound_close zero text further = subst (Splits zero (125 ∷ text)) (sym (split_ends text)) (empty, refl)
split_sound_close (suc depth) text further =
    subst (Splits (suc depth) (125 ∷ text)) (sym (split_close depth text)) (splits_close depth text (split_balanced depth text) (further depth))

pub split_sound : (depth : ℕ) (text : List ℕ) → Splits depth text (split_balanced depth text)
split_sound depth [] = subst (Splits depth []) (sym (split_end depth)) tt
split_sound depth (b ∷ text) = go (λ depth. split_sound depth text) (eqb b 123) refl (eqb b 125) refl
  where
    Here : ℕ → Type 0
    Here b = Splits depth (b ∷ text) (split_balanced depth (b ∷ text))

    go : ((depth : ℕ) → Splits depth text (split_balanced depth text)) → (t : Bool) → eqb b 123 ≡ t → (u : Bool) → eqb b 125 ≡ u → Here b
    go further true h u h' = subst Here (sym (eqb-true b 123 h))
        (subst (Splits depth (123 ∷ text)) (sym (split_open depth text)) (splits_open depth text (split_balanced (suc depth) text) (further (suc depth))))
    go further false h true h' = subst Here (sym (eqb-true b 125 h')) (split_sound_close depth text further)
    go further false h false h' = subst (Splits depth (b ∷ text)) (sym (split_other depth b text h h'))
        (splits_other depth b text (split_balanced depth text) (ap₂ (λ t u. t || u) h h') (further depth))

-- What a depth counter knows after i bytes: splitting the text is splitting its rest, from those bytes on.
pub record IsAtDepth (text : List ℕ) (i depth : ℕ) : Type 0 where
  pub bounded : depth ≤ i
  pub found : split_balanced 0 text ≡ after (take i text) (split_balanced depth (drop i text))

pub depth_start : (text : List ℕ) → IsAtDepth text 0 0
depth_start text = record { bounded = omega arith; found = sym (after_nil (split_balanced 0 text)) }

-- one byte further
passed_one : (text : List ℕ) (i depth : ℕ) → IsAtDepth text i depth → i < length text → (b : ℕ) → get_or text i 0 ≡ b → (o : Option (List ℕ × List ℕ))
    → split_balanced depth (b ∷ drop (i + 1) text) ≡ after (b ∷ []) o → split_balanced 0 text ≡ after (take (i + 1) text) o
passed_one text i depth at within b is o e =
    at.found
    ∙ ap (λ x. after (take i text) (split_balanced depth x)) (drop-cons text i 0 within ∙ ap₂ (λ x n. x ∷ drop n text) is (sym (add-one i)))
    ∙ ap (after (take i text)) e
    ∙ after_twice (take i text) (b ∷ []) o
    ∙ ap (λ x. after x o) (ap (λ b. take i text ++ b ∷ []) (sym is) ∙ sym (take_more text i 0 within))

pub depth_opens : (text : List ℕ) (i depth d : ℕ) → IsAtDepth text i depth → i < length text → get_or text i 0 ≡ 123 → d ≡ depth + 1 → IsAtDepth text (i + 1) d
depth_opens text i depth d at within is e = record {
  bounded = omega (arith, at.bounded);
  found = passed_one text i depth at within 123 is _ (split_open depth (drop (i + 1) text) ∙ ap (λ n. after (123 ∷ []) (split_balanced n (drop (i + 1) text))) (sym (e ∙ add-one depth)));
}

closes_at : (depth d : ℕ) (text : List ℕ) → depth ≡ suc d → split_balanced depth (125 ∷ text) ≡ after (125 ∷ []) (split_balanced d text)
closes_at depth d text e = ap (λ n. split_balanced n (125 ∷ text)) e ∙ split_close d text

pub depth_closes : (text : List ℕ) (i depth d : ℕ) → IsAtDepth text i depth → i < length text → get_or text i 0 ≡ 125 → d + 1 ≡ depth → IsAtDepth text (i + 1) d
depth_closes text i depth d at within is e = record {
  bounded = omega (arith, at.bounded);
  found = passed_one text i depth at within 125 is _ (closes_at depth d (drop (i + 1) text) (sym e ∙ add-one d));
}

pub depth_stays : (text : List ℕ) (i depth : ℕ) → IsAtDepth text i depth → i < length text → get_or text i 0 ≢ 123 → get_or text i 0 ≢ 125 → IsAtDepth text (i + 1) depth
depth_stays text i depth at within opens closes = record {
  bounded = omega (arith, at.bounded);
  found = passed_one text i depth at within (get_or text i 0) refl _
      (split_other depth (get_or text i 0) (drop (i + 1) text) (ne_eqb (get_or text i 0) 123 opens) (ne_eqb (get_or text i 0) 125 closes));
}

pub depth_ends : (text : List ℕ) (i depth : ℕ) → IsAtDepth text i depth → i < length text → get_or text i 0 ≡ 125 → depth ≡ 0 → IsClosedAt text i
depth_ends text i depth at within is e = record {
  splits = at.found
      ∙ ap₂ (λ x n. after (take i text) (split_balanced n x)) (drop-cons text i 0 within ∙ ap (λ b. b ∷ drop (suc i) text) is) e
      ∙ ap (after (take i text)) (split_ends (drop (suc i) text)) ∙ ap (λ x. Some (x, drop (suc i) text)) (append-nil (take i text));
  within = within;
  closes = is;
}

pub depth_unclosed : (text : List ℕ) (i depth : ℕ) → IsAtDepth text i depth → length text ≤ i → split_balanced 0 text ≡ None
depth_unclosed text i depth at over =
    at.found ∙ ap (λ x. after (take i text) (split_balanced depth x)) (drop_all i text over) ∙ ap (after (take i text)) (split_end depth)
