-- The warnings of the first nodes, and of one more.
use Rattle.std.proofs.Common.{◌≡◌, ℕ, zero, suc, ◌+◌, ◌-◌, ◌<◌, ◌≤◌, inl, inr, List, [], ◌∷◌, ◌++◌, map, take, length, get_or, false, true≢false, slice_get, option_map, Option, Some, None, arith, refl, sym, ap, ◌∙◌, subst}
use Rattle.std.specs.List.{zip}
use Rattle.std.proofs.lemmas.List.{length-append, length-map, take_all, take_more}
use Rattle.std.proofs.lemmas.Option.{slice_get_within, get_or_from_slice_get, slice_get-map, same_Some}
use Rattle.std.proofs.lemmas.Bool.{cases_lt}
use Rattle.lemmas.proofs.Elements.{element_at}
use Rattle.cfgbase.specs.declared.span.Span.{Span}
use Rattle.cfgerrors.specs.Warnings.{GrammarWarning, warning_at}
use Rattle.cfgerrors.specs.declared.warning.YaccGrammarWarningKind.TheVariants.{UnusedToken}
use Rattle.cfgitems.specs.Syntax.{Syntax, Rule, entry_name}
use Rattle.cfgast.specs.Unused.{Name, IsUnused, Warned, none, taken, left, possible_warnings, rule_warning, token_warning}
use Rattle.search.specs.Reachable.{IsReachableIn, SearchState}
use Rattle.search.proofs.PathGroups.{slice_get_left}
use Rattle.cfgast.specs.Inner.Nodes.{nodes, IsNodeOf, Knows}

zip_get : {A B : Type 0} (xs : List A) (ys : List B) (i : ℕ) → i < length xs → option_map (λ p. p.1) (slice_get (zip xs ys) i) ≡ slice_get ys i
zip_get [] ys i lt = absurd (omega (arith, lt))
zip_get (x ∷ xs) [] i lt = refl
zip_get (x ∷ xs) (y ∷ ys) zero lt = refl
zip_get (x ∷ xs) (y ∷ ys) (suc i) lt = zip_get xs ys i (omega (arith, lt))

zip_first : {A B : Type 0} (xs : List A) (ys : List B) (i : ℕ) (pair : A × B) → slice_get (zip xs ys) i ≡ Some pair → slice_get xs i ≡ Some pair.0
zip_first [] ys i pair at = cc
zip_first (x ∷ xs) [] i pair at = cc
zip_first (x ∷ xs) (y ∷ ys) zero pair at = ap (option_map (λ p. p.0)) at
zip_first (x ∷ xs) (y ∷ ys) (suc i) pair at = zip_first xs ys i pair at

zip_no_longer : {A B : Type 0} (xs : List A) (ys : List B) → length (zip xs ys) ≤ length xs
zip_no_longer [] ys = omega arith
zip_no_longer (x ∷ xs) [] = omega arith
zip_no_longer (x ∷ xs) (y ∷ ys) = let rest = zip_no_longer xs ys in omega (arith, rest)

-- the elements of the second of two lists
after : {A : Type 0} (xs ys : List A) (n i : ℕ) → n ≡ length xs + i → slice_get (xs ++ ys) n ≡ slice_get ys i
after [] ys n i e = ap (slice_get ys) (omega (arith, e))
after (x ∷ xs) ys zero i e = absurd (omega (arith, e))
after (x ∷ xs) ys (suc n) i e = after xs ys n i (omega (arith, e))

module _ (s : Syntax) where
  -- the warning that a rule would have, or a token behind all rules
  pub rule_there : (i : ℕ) (rule : List ℕ × Rule) → slice_get s.rules i ≡ Some rule → slice_get (possible_warnings s) i ≡ Some (rule_warning rule)
  rule_there i rule at = slice_get_left (map rule_warning s.rules) _ i _ (slice_get-map rule_warning s.rules i ∙ ap (option_map rule_warning) at)

  token_at : (i k : ℕ) → i ≡ length s.rules + k → slice_get (possible_warnings s) i ≡ option_map token_warning (slice_get (zip s.tokens s.spans) k)
  token_at i k behind = after (map rule_warning s.rules) _ i k (behind ∙ ap (λ n. n + k) (sym (length-map s.rules rule_warning)))
      ∙ slice_get-map token_warning (zip s.tokens s.spans) k

  pub token_there : (i : ℕ) → i < nodes s → slice_get s.rules i ≡ None
      → option_map (λ span. warning_at UnusedToken span) (slice_get s.spans (i - length s.rules)) ≡ option_map (λ named. named.1) (slice_get (possible_warnings s) i)
  token_there i lt past = elim (cases_lt i (length s.rules)) [
    | inl within ↦ let (rule, there) = element_at s.rules i within in let no : None ≡ Some rule = sym past ∙ there in cc
    | inr le ↦
        let k = i - length s.rules in
        ap (option_map (λ span. warning_at UnusedToken span)) (sym (zip_get s.tokens s.spans k (omega (arith, lt, le))))
        ∙ shown (slice_get (zip s.tokens s.spans) k) ∙ ap (option_map (λ named. named.1)) (sym (token_at i k (omega (arith, le))))
  ]
    where
      shown : (o : Option (List ℕ × Span)) → option_map (λ span. warning_at UnusedToken span) (option_map (λ p. p.1) o) ≡ option_map (λ named. named.1) (option_map token_warning o)
      shown None = refl
      shown (Some pair) = refl

  -- what it is about has this node
  pub named_there : (i : ℕ) (e : Name × GrammarWarning) → slice_get (possible_warnings s) i ≡ Some e → IsNodeOf s e.0 i
  named_there i e at = elim (cases_lt i (length s.rules)) [
    | inl within ↦ let (rule, there) = element_at s.rules i within in
        subst (λ (e : Name × GrammarWarning). IsNodeOf s e.0 i) (same_Some _ _ (sym (rule_there i rule there) ∙ at))
        (slice_get-map entry_name s.rules i ∙ ap (option_map entry_name) there)
    | inr le ↦ let k = i - length s.rules in
        let behind : i ≡ length s.rules + k = omega (arith, le) in
        let (pair, there, same) = token_pair (slice_get (zip s.tokens s.spans) k) (sym (token_at i k behind) ∙ at) in
        subst (λ (e : Name × GrammarWarning). IsNodeOf s e.0 i) same (k, behind, zip_first s.tokens s.spans k pair there)
  ]
    where
      token_pair : (o : Option (List ℕ × Span)) → option_map token_warning o ≡ Some e → (pair : List ℕ × Span) × (o ≡ Some pair) × (token_warning pair ≡ e)
      token_pair None at = cc
      token_pair (Some pair) at = (pair, refl, same_Some _ _ at)

  with_one : (xs : List (Name × GrammarWarning)) (reported : List GrammarWarning) (e : Name × GrammarWarning) → Warned s xs reported → IsUnused s e.0
      → Warned s (xs ++ e ∷ []) (reported ++ e.1 ∷ [])
  with_one _ _ e none h = taken h none
  with_one _ _ e (taken {rest = xs} {warnings = reported} k w) h = taken k (with_one xs reported e w h)
  with_one _ reported e (left {rest = xs} k w) h = left k (with_one xs reported e w h)

  without_one : (xs : List (Name × GrammarWarning)) (reported : List GrammarWarning) (e : Name × GrammarWarning) → Warned s xs reported → (IsUnused s e.0 → ⊥)
      → Warned s (xs ++ e ∷ []) reported
  without_one _ _ e none h = left h none
  without_one _ _ e (taken {rest = xs} {warnings = reported} k w) h = taken k (without_one xs reported e w h)
  without_one _ reported e (left {rest = xs} k w) h = left k (without_one xs reported e w h)

  pub unused : (x : SearchState) → Knows s x → (i : ℕ) → get_or x.reachable i false ≡ false → (name : Name) → IsNodeOf s name i → IsUnused s name
  unused x knows i off name at = (
    (λ h. true≢false (sym ((knows.each i name at).1 (inl h)) ∙ off)),
    (λ h. true≢false (sym ((knows.each i name at).1 (inr h)) ∙ off)),
  )

  longer : (i : ℕ) (e : Name × GrammarWarning) → slice_get (possible_warnings s) i ≡ Some e
      → take (i + 1) (possible_warnings s) ≡ take i (possible_warnings s) ++ e ∷ []
  longer i e at = take_more (possible_warnings s) i e (slice_get_within (possible_warnings s) i e at)
      ∙ ap (λ y. take i (possible_warnings s) ++ y ∷ []) (get_or_from_slice_get (possible_warnings s) i e e at)

  module _ (i : ℕ) (reported : List GrammarWarning) (w : Warned s (take i (possible_warnings s)) reported) where
    pub warned_more : (warning pushed : GrammarWarning) (now : List GrammarWarning) → Some warning ≡ option_map (λ named. named.1) (slice_get (possible_warnings s) i)
        → ((name : Name) → IsNodeOf s name i → IsUnused s name) → pushed ≡ warning → now ≡ reported ++ pushed ∷ []
        → Warned s (take (i + 1) (possible_warnings s)) now
    warned_more warning pushed now found unused same put = go (slice_get (possible_warnings s) i) refl found
      where
        go : (o : Option (Name × GrammarWarning)) → slice_get (possible_warnings s) i ≡ o → Some warning ≡ option_map (λ named. named.1) o
            → Warned s (take (i + 1) (possible_warnings s)) now
        go None at e = cc
        go (Some named) at e =
            let is : pushed ≡ named.1 = cc in
            subst (λ l. Warned s l now) (sym (longer i named at))
            (subst (Warned s (take i (possible_warnings s) ++ named ∷ [])) (sym (put ∙ ap (λ y. reported ++ y ∷ []) is))
            (with_one (take i (possible_warnings s)) reported named w (unused named.0 (named_there i named at))))

    -- there is no node, or it isn't unused
    warned_left : ((e : Name × GrammarWarning) → slice_get (possible_warnings s) i ≡ Some e → IsUnused s e.0 → ⊥) → Warned s (take (i + 1) (possible_warnings s)) reported
    warned_left used = elim (cases_lt i (length (possible_warnings s))) [
      | inl within ↦ let (e, at) = element_at (possible_warnings s) i within in
          subst (λ l. Warned s l reported) (sym (longer i e at)) (without_one (take i (possible_warnings s)) reported e w (used e at))
      | inr past ↦ subst (λ l. Warned s l reported) (take_all i (possible_warnings s) past ∙ sym (take_all (i + 1) (possible_warnings s) (omega (arith, past)))) w
    ]

    pub warned_known : (x : SearchState) → Knows s x → IsReachableIn x i → Warned s (take (i + 1) (possible_warnings s)) reported
    warned_known x knows on = warned_left (λ e at unused.
        elim ((knows.each i e.0 (named_there i e at)).0 on) [ inl h ↦ unused.0 h | inr h ↦ unused.1 h ])

    pub warned_past : None ≡ option_map (λ named. named.1) (slice_get (possible_warnings s) i) → Warned s (take (i + 1) (possible_warnings s)) reported
    warned_past nothing = warned_left (λ e at unused. let no : None ≡ Some e.1 = nothing ∙ ap (option_map (λ named. named.1)) at in cc)

    pub warned_all : nodes s ≤ i → Warned s (possible_warnings s) reported
    warned_all all = subst (λ l. Warned s l reported) (take_all i (possible_warnings s) fewer) w
      where
        fewer : length (possible_warnings s) ≤ i
        fewer = omega (
          arith,
          all,
          length-append (map rule_warning s.rules) (map token_warning (zip s.tokens s.spans)),
          length-map s.rules rule_warning,
          length-map (zip s.tokens s.spans) token_warning,
          zip_no_longer s.tokens s.spans,
        )
