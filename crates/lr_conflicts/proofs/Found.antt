-- What is found, step by step.
use Rattle.std.proofs.Common.{◌≡◌, ◌⊎◌, inl, inr, List, [], ◌∷◌, ◌++◌, Option, Contains, append-nil, append_assoc, sym, ap, subst, ◌∙◌}
use Rattle.std.proofs.lemmas.List.Elements.{Contains-append_cases, Contains-append_left, Contains-push}
use Rattle.cfgrammar.proofs.Contained.{contains_cases, contains_none}
use Rattle.lr_conflicts.specs.declared.examples.nodes.Node.{Node}
use Rattle.lr_conflicts.specs.declared.examples.nodes.Step.{Step}
use Rattle.lr_conflicts.specs.Inner.Ways.{EachMade, Finds, HasNode, Setting, Shown, parent_of}

module _ (S : Setting) {from : Option Node} where
  -- what was found already
  pub finds_known : (F : Node → Type 0) (es : List (Node × Step)) → ((n : Node) → F n → HasNode es n) → Finds S from F es es
  finds_known F es known = record {
    more = [];
    is = sym (append-nil es);
    shown = λ n s h. absurd (contains_none (n, s) h);
    parent = λ n s h. absurd (contains_none (n, s) h);
    found = known;
  }

  -- nothing
  pub finds_none : (F : Node → Type 0) (es : List (Node × Step)) → ((n : Node) → F n → ⊥) → Finds S from F es es
  finds_none F es none = finds_known F es (λ n h. absurd (none n h))

  -- what was found stays
  pub kept : {F : Node → Type 0} {old new : List (Node × Step)} → Finds S from F old new → (n : Node) → HasNode old n → HasNode new n
  kept {old = old} w n (s, h) = (s, subst (λ l. Contains l (n, s)) (sym w.is) (Contains-append_left old w.more (n, s) h))

  pub finds_as : (F G : Node → Type 0) (old new : List (Node × Step)) → ((n : Node) → G n → F n) → Finds S from F old new → Finds S from G old new
  finds_as F G old new to w = record { more = w.more; is = w.is; shown = w.shown; parent = w.parent; found = λ n h. w.found n (to n h) }

  -- one after the other
  pub finds_then : (F G H : Node → Type 0) (old mid new : List (Node × Step)) → ((n : Node) → H n → F n ⊎ G n) → Finds S from F old mid
      → Finds S from G mid new → Finds S from H old new
  finds_then F G H old mid new to w v = record {
    more = w.more ++ v.more;
    is = v.is ∙ ap (λ l. l ++ v.more) w.is ∙ append_assoc old w.more v.more;
    shown = λ n s h. elim (Contains-append_cases w.more v.more (n, s) h) [
      | inl one ↦ w.shown n s one
      | inr two ↦ v.shown n s two
    ];
    parent = λ n s h. elim (Contains-append_cases w.more v.more (n, s) h) [
      | inl one ↦ w.parent n s one
      | inr two ↦ v.parent n s two
    ];
    found = λ n h. elim (to n h) [
      | inl one ↦ kept v n (w.found n one)
      | inr two ↦ v.found n two
    ];
  }

-- one node, by a step
pub finds_one : (S : Setting) (node : Node) (s : Step) (old new : List (Node × Step)) → new ≡ old ++ (node, s) ∷ []
    → EachMade S s (Shown S node) → Finds S (parent_of s) (λ n. n ≡ node) old new
finds_one S node s old new is shown = record {
  more = (node, s) ∷ [];
  is = is;
  shown = λ n other h. subst (λ (e : Node × Step). EachMade S e.1 (Shown S e.0)) (only (n, other) h) shown;
  parent = λ n other h. ap (λ (e : Node × Step). parent_of e.1) (sym (only (n, other) h));
  found = λ n same. (s, subst (λ m. Contains new (m, s)) (sym same) (subst (λ l. Contains l (node, s)) (sym is) (Contains-push old (node, s))));
}
  where
    only : (e : Node × Step) → Contains ((node, s) ∷ []) e → (node, s) ≡ e
    only e h = elim (contains_cases (node, s) e [] h) [
      | inl same ↦ same
      | inr none ↦ absurd (contains_none e none)
    ]
