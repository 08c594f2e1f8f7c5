-- Which rules and tokens are unused, as a search found it.
use Rattle.std.proofs.Common.{◌≡◌, ℕ, Bool, true, false, not, inl, inr, List, ◌∷◌, [], map, take, length, get_or, MatchBool, option_map, refl, sym, ap, ◌∙◌, subst, ◌<◌, ◌+◌, ◌++◌, ◌≤◌}
use Rattle.std.proofs.lemmas.List.{get_or-map, length-map, map_more, take_all}
use Rattle.std.proofs.lemmas.Option.{slice_get-map}
use Rattle.cfgitems.specs.Syntax.{Syntax, entry_name}
use Rattle.cfgast.specs.Unused.{AreUnused, IsUnused, Name, RuleName, TokenName}
use Rattle.search.specs.Reachable.{SearchState}
use Rattle.cfgast.specs.Inner.Nodes.{nodes, IsNodeOf, Knows}
use Rattle.cfgast.proofs.Nodes.{node_within}
use Rattle.cfgast.proofs.Warning.{unused}

module _ (s : Syntax) (x : SearchState) (knows : Knows s x) where
  -- a node that wasn't reached is unused, and no other is
  bit : (node : ℕ) (name : Name) → IsNodeOf s name node
      → MatchBool (get_or (map not x.reachable) node false) (IsUnused s name) (IsUnused s name → ⊥)
  bit node name at = subst (λ b. MatchBool b (IsUnused s name) (IsUnused s name → ⊥)) (sym is) (go (get_or x.reachable node false) refl)
    where
      is : get_or (map not x.reachable) node false ≡ not (get_or x.reachable node false)
      is = get_or-map not x.reachable node false false (subst (λ n. node < n) (sym knows.shape) (node_within s name node at))

      go : (b : Bool) → get_or x.reachable node false ≡ b → MatchBool (not b) (IsUnused s name) (IsUnused s name → ⊥)
      go true on = λ h. elim ((knows.each node name at).0 on) [ inl reachable ↦ h.0 reachable | inr expected ↦ h.1 expected ]
      go false off = unused s x knows node off name at

  pub are_unused : AreUnused s (map not x.reachable)
  are_unused = record {
    long = length-map x.reachable not ∙ knows.shape;
    rules = λ n rule at. bit n (RuleName rule.0) (slice_get-map entry_name s.rules n ∙ ap (option_map entry_name) at);
    tokens = λ n token at. bit (length s.rules + n) (TokenName token) (n, refl, at);
  }

  module _ (reachable : List Bool) (same : reachable ≡ x.reachable) where
    pub one_more : (n : ℕ) (items pushed : List Bool) (reached : Bool) → n < nodes s → items ≡ map not (take n reachable)
        → reached ≡ get_or x.reachable n false → pushed ≡ items ++ not reached ∷ [] → pushed ≡ map not (take (n + 1) reachable)
    one_more n items pushed reached lt e is put = put ∙ (λ i. e i ++ not (here i) ∷ []) ∙ sym (map_more not reachable n false within)
      where
        here : reached ≡ get_or reachable n false
        here = is ∙ ap (λ l. get_or l n false) (sym same)

        within : n < length reachable
        within = subst (λ m. n < m) (sym (ap (length {A = Bool}) same ∙ knows.shape)) lt

    pub each_one : (n : ℕ) (items : List Bool) → nodes s ≤ n → items ≡ map not (take n reachable) → AreUnused s items
    each_one n items all e = subst (AreUnused s) (sym (e ∙ ap (map not) (take_all n reachable past ∙ same))) are_unused
      where
        past : length reachable ≤ n
        past = subst (λ m. m ≤ n) (sym (ap (length {A = Bool}) same ∙ knows.shape)) all
