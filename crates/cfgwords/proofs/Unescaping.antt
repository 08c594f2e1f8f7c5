-- A text without its backslashes: up to the first one, and after it.
use Rattle.std.proofs.Common.{◌≡◌, ℕ, Bool, true, false, cond, List, [], ◌∷◌, ◌++◌, eqb, not, Option, Some, None, refl, sym, ap, ap₂, ◌∙◌, eqb-true, append_assoc}
use Rattle.std.proofs.lemmas.Bool.{ne_eqb, eqb-false}
use Rattle.std.proofs.lemmas.Option.{some_pair_parts}
use Rattle.constructs.specs.Pieces.{with_first, found_here, split_first}
use Rattle.cfgwords.specs.Strings.{unescaped}

-- a backslash is dropped, another byte stays
dropped : (b : ℕ) (text : List ℕ) → eqb 92 b ≡ true → unescaped (b ∷ text) ≡ unescaped text
dropped b text h = ap (λ x. unescaped (x ∷ text)) (sym (eqb-true 92 b h))

stays : (b : ℕ) (text : List ℕ) → eqb 92 b ≡ false → unescaped (b ∷ text) ≡ b ∷ unescaped text
stays b text h = ap (λ t. cond (not t) (b ∷ unescaped text) (unescaped text)) (ne_eqb b 92 (λ e. eqb-false 92 b h (sym e)))

-- what precedes the first backslash stays, and that one is dropped
pub unescaped_split : (text prefix after : List ℕ) → split_first (92 ∷ []) text ≡ Some (prefix, after) → unescaped text ≡ prefix ++ unescaped after
unfolding split_first
unescaped_split [] prefix after e = cc
unescaped_split (b ∷ text) prefix after e = go (unescaped_split text) (split_first (92 ∷ []) text) refl (eqb 92 b) refl e
  where
    go : ((prefix after : List ℕ) → split_first (92 ∷ []) text ≡ Some (prefix, after) → unescaped text ≡ prefix ++ unescaped after)
        → (o : Option (List ℕ × List ℕ)) → split_first (92 ∷ []) text ≡ o → (t : Bool) → eqb 92 b ≡ t
        → found_here (cond t (Some text) None) (with_first b o) ≡ Some (prefix, after) → unescaped (b ∷ text) ≡ prefix ++ unescaped after
    go further o f true h e =
        let same = some_pair_parts _ _ _ _ e in dropped b text h ∙ ap₂ (λ x y. x ++ unescaped y) same.0 same.1
    go further None f false h e = cc
    go further (Some (body, rest)) f false h e =
        let same = some_pair_parts _ _ _ _ e in
        stays b text h ∙ ap (λ x. b ∷ x) (further body rest f) ∙ ap₂ (λ x y. x ++ unescaped y) same.0 same.1

-- a text with no backslash stays as it is
pub unescaped_plain : (text : List ℕ) → split_first (92 ∷ []) text ≡ None → unescaped text ≡ text
unfolding split_first
unescaped_plain [] e = refl
unescaped_plain (b ∷ text) e = go (unescaped_plain text) (split_first (92 ∷ []) text) refl (eqb 92 b) refl e
  where
    go : (split_first (92 ∷ []) text ≡ None → unescaped text ≡ text) → (o : Option (List ℕ × List ℕ)) → split_first (92 ∷ []) text ≡ o
        → (t : Bool) → eqb 92 b ≡ t → found_here (cond t (Some text) None) (with_first b o) ≡ None → unescaped (b ∷ text) ≡ b ∷ text
    go further o f true h e = cc
    go further None f false h e = stays b text h ∙ ap (λ x. b ∷ x) (further f)
    go further (Some parts) f false h e = cc

-- gathering one more piece, up to the next backslash or the end
pub gathered_on : (text value more rest prefix after : List ℕ) → value ++ unescaped rest ≡ unescaped text → split_first (92 ∷ []) rest ≡ Some (prefix, after)
    → more ≡ value ++ prefix → more ++ unescaped after ≡ unescaped text
gathered_on text value more rest prefix after so_far split e =
    ap (λ x. x ++ unescaped after) e ∙ append_assoc value prefix (unescaped after) ∙ ap (λ x. value ++ x) (sym (unescaped_split rest prefix after split)) ∙ so_far

pub gathered_all : (text value more rest : List ℕ) → value ++ unescaped rest ≡ unescaped text → split_first (92 ∷ []) rest ≡ None
    → more ≡ value ++ rest → more ≡ unescaped text
gathered_all text value more rest so_far split e = e ∙ ap (λ x. value ++ x) (sym (unescaped_plain rest split)) ∙ so_far
