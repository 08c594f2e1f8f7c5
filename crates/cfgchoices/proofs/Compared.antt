-- Two words that are compared token by token, from the first on.
use Rattle.std.proofs.Common.{◌≡◌, ℕ, true, false, List, [], ◌∷◌, Option, Some, None, refl, sym, ap, subst, ◌∙◌, true≢false}
use Rattle.std.specs.Prelude.{MatchOption}
use Rattle.std.specs.Option.{option_cmp}
use Rattle.std.specs.Ordering.{is_ne, nat_cmp, ordering_then}
use Rattle.std.specs.declared.cmp.Ordering.{Ordering}
use Rattle.std.specs.declared.cmp.Ordering.TheVariants.{Less, Equal, Greater}
use Rattle.derivation.specs.Grammar.{Sym}
use Rattle.cfgleast.specs.Generator.{CostTables}
use Rattle.cfgchoices.specs.FirstSentence.{lexicographic}
use Rattle.cfgchoices.specs.Choices.{ChoicesGive}
use Rattle.cfgchoices.specs.Inner.Candidates.{FirstTokensAre}
use Rattle.cfgchoices.proofs.Pending.{token_prefix}

-- the word ends, or continues after its first token
abbrev pub Begins : {X : Type 0} → (X → ℕ) → (List ℕ → Type 0) → List ℕ → Option X → Type 0
Begins number Rest w token = MatchOption token (w ≡ []) (λ t. (v : List ℕ) × (w ≡ number t ∷ v) × Rest v)

-- words of which these suffixes are left to compare
pub record Rests (One Other : List ℕ → Type 0) (u v : List ℕ) : Type 0 where
  pub one : List ℕ
  pub other : List ℕ
  pub first : One one
  pub second : Other other
  pub same : lexicographic u v ≡ lexicographic one other

-- the words differ here, or these suffixes are left to compare
pub record Next (One Other : List ℕ → Type 0) (u v : List ℕ) (o : Ordering) : Type 0 where
  pub differs : is_ne o ≡ true → o ≡ lexicographic u v
  pub goes_on : is_ne o ≡ false → Rests One Other u v

-- some words are left to compare
module _ {One Other G H : List ℕ → Type 0} (all : (u v : List ℕ) → G u → H v → Rests One Other u v) (one : (u : List ℕ) × G u) (other : (v : List ℕ) × H v) where
  pub some_first : (w : List ℕ) × One w
  some_first = let r = all one.0 other.0 one.1 other.1 in (r.one, r.first)

  pub some_second : (w : List ℕ) × Other w
  some_second = let r = all one.0 other.0 one.1 other.1 in (r.other, r.second)

then_equal : (o r : Ordering) → is_ne o ≡ false → ordering_then o r ≡ r
then_equal Less r e = absurd (true≢false e)
then_equal Equal r e = refl
then_equal Greater r e = absurd (true≢false e)

then_other : (o r : Ordering) → is_ne o ≡ true → ordering_then o r ≡ o
then_other Less r e = refl
then_other Equal r e = absurd (true≢false (sym e))
then_other Greater r e = refl

module _ {X : Type 0} (number : X → ℕ) (cmp : X → X → Ordering) (shown : (a b : X) → cmp a b ≡ nat_cmp (number a) (number b)) (One Other One' Other' : List ℕ → Type 0) where
  both : (t s : X) (u v u' v' : List ℕ) → u ≡ number t ∷ u' → v ≡ number s ∷ v' → lexicographic u v ≡ ordering_then (cmp t s) (lexicographic u' v')
  both t s u v u' v' h k =
      let whole : lexicographic u v ≡ ordering_then (nat_cmp (number t) (number s)) (lexicographic u' v') = ap (λ w. lexicographic w v) h ∙ ap (lexicographic (number t ∷ u')) k in
      whole ∙ ap (λ o. ordering_then o (lexicographic u' v')) (sym (shown t s))

  -- one token of each
  pub next : (t : X) (other : Option X) (u v : List ℕ) (r : Rests One Other u v) → Begins number One' r.one (Some t) → Begins number Other' r.other other → Next One' Other' u v (option_cmp cmp (Some t) other)
  next t None u v r h k = record {
    differs = λ e.
        let whole : lexicographic r.one r.other ≡ lexicographic (number t ∷ h.0) [] = ap (λ w. lexicographic w r.other) h.1 ∙ ap (lexicographic (number t ∷ h.0)) k in
        sym (r.same ∙ whole);
    goes_on = λ e. absurd (true≢false e);
  }
  next t (Some s) u v r h k =
      let whole = r.same ∙ both t s r.one r.other h.0 k.0 h.1 k.1 in
      record {
        differs = λ e. sym (whole ∙ then_other (cmp t s) (lexicographic h.0 k.0) e);
        goes_on = λ e. record { one = h.0; other = k.0; first = h.2; second = k.2; same = whole ∙ then_equal (cmp t s) (lexicographic h.0 k.0) e };
      }

  -- the first one ends
  pub ended : (other : Option X) (u v : List ℕ) (r : Rests One Other u v) → r.one ≡ [] → Begins number Other' r.other other → option_cmp cmp None other ≡ lexicographic u v
  ended None u v r h k = let whole : lexicographic r.one r.other ≡ lexicographic [] [] = ap (λ w. lexicographic w r.other) h ∙ ap (lexicographic []) k in sym (r.same ∙ whole)
  ended (Some s) u v r h k = let whole : lexicographic r.one r.other ≡ lexicographic [] (number s ∷ k.0) = ap (λ w. lexicographic w r.other) h ∙ ap (lexicographic []) k.1 in sym (r.same ∙ whole)

-- lists that begin with different tokens
pub first_differ : (x : CostTables) (a b : List Sym) (ordering : Ordering) (f : FirstTokensAre a b ordering) → is_ne ordering ≡ true → (u v : List ℕ) → ChoicesGive x a u → ChoicesGive x b v
    → ordering ≡ lexicographic u v
first_differ x a b ordering f ne u v h k =
    let (u', begins, _) = token_prefix x f.one f.ones u (subst (λ l. ChoicesGive x l u) f.first h) in
    let (v', also, _) = token_prefix x f.other f.others v (subst (λ l. ChoicesGive x l v) f.second k) in
    let whole : lexicographic u v ≡ ordering_then (nat_cmp f.one f.other) (lexicographic u' v') = ap (λ w. lexicographic w v) begins ∙ ap (lexicographic (f.one ∷ u')) also in
    sym (whole ∙ ap (λ o. ordering_then o (lexicographic u' v')) (sym f.is) ∙ then_other ordering (lexicographic u' v') ne)
