-- What a node leads to is reached in an empty search, and taken from it node by node.
use Rattle.std.proofs.Common.{◌≡◌, ◌↔◌, ◌⊎◌, inl, inr, ℕ, suc, ◌+◌, ◌<◌, ◌≤◌, Bool, true, false, List, [], ◌∷◌, ◌++◌, Contains, get_or, length, map, replicate, slice_set, arith, refl, sym, ap, ◌∙◌, subst, true≢false, length-set, get_or-set_same}
use Rattle.std.proofs.lemmas.List.{append-nil, append_assoc, length_push, map-append}
use Rattle.std.proofs.lemmas.List.Elements.{Contains-append_left, Contains-push, Contains-push_cases}
use Rattle.std.proofs.lemmas.List.Sums.{count_by-le-length}
use Rattle.lemmas.proofs.Contained.{contains_none}
use Rattle.lemmas.proofs.Elements.{get_or-set, within_from_get_or}
use Rattle.search.specs.Reachable.{IsReachableIn, Reaches, SearchState, count_reachable, unsearched}
use Rattle.search.specs.Inner.Walk.{AddsEdges, pending_from}
use Rattle.search.specs.declared.walk.Pending.{Pending}
use Rattle.search.proofs.Reaching.{Begun, begun}

module _ (Leads : ℕ → Type 0) (nodes index : ℕ) (old : List Pending) where
  -- edges to these targets were added, and to those that are queued they are still to be added
  pub record Adding (x : SearchState) (new : List Pending) : Type 0 where
    pub targets : List ℕ
    pub is : new ≡ old ++ map (pending_from index) targets
    pub all : (n : ℕ) → (Contains targets n ⊎ Contains x.waiting n) ↔ Leads n
    pub within : (n : ℕ) → Leads n → n < nodes
    pub few : length targets + length x.waiting ≤ nodes
    pub shape : length x.reachable ≡ nodes
    pub all_wait : (n : ℕ) → IsReachableIn x n → Contains x.waiting n

  pub adding_begins : (before x : SearchState) → before ≡ unsearched nodes → Reaches Leads before x → Adding x old
  adding_begins before x empty reaches = record {
    targets = [];
    is = sym (append-nil old);
    all = λ n. (
      (λ h. elim h [ inl none ↦ absurd (contains_none n none) | inr w ↦ (b.seeds n).0 ((b.all_wait n).1 w) ]),
      (λ leads. inr ((b.all_wait n).0 ((b.seeds n).1 leads))),
    );
    within = λ n leads. subst (λ m. n < m) b.shape (within_from_get_or x.reachable n false (λ e. true≢false (sym ((b.seeds n).1 leads) ∙ e)));
    few =
        let once : length x.waiting + count_reachable (unsearched nodes) ≡ 0 + count_reachable x = reached.once in
        let most = count_by-le-length (λ (b : Bool). b) x.reachable in
        let shape = b.shape in
        omega (arith, once, most, shape);
    shape = b.shape;
    all_wait = λ n. (b.all_wait n).0;
  }
    where
      b : Begun nodes Leads x
      b = begun nodes Leads before x empty reaches

      reached : Reaches Leads (unsearched nodes) x
      reached = subst (λ y. Reaches Leads y x) empty reaches

  -- one target is taken
  pub adding_goes_on : (x y : SearchState) (now new : List Pending) (node : ℕ) → x.waiting ≡ y.waiting ++ node ∷ [] → y.reachable ≡ slice_set x.reachable node false
      → new ≡ now ++ pending_from index node ∷ [] → Adding x now → Adding y new
  adding_goes_on x y now new node taken off push a = record {
    targets = a.targets ++ node ∷ [];
    is = push ∙ ap (λ l. l ++ pending_from index node ∷ []) a.is ∙ append_assoc old (map (pending_from index) a.targets) (pending_from index node ∷ [])
        ∙ ap (λ l. old ++ l) (sym (map-append (pending_from index) a.targets (node ∷ [])));
    all = λ n. (
      (λ h. (a.all n).0 (elim h [
        | inl c ↦ elim (Contains-push_cases a.targets node n c) [
          | inl before ↦ inl before
          | inr same ↦ inr (subst (Contains x.waiting) same was_queued)
        ]
        | inr c ↦ inr (subst (λ l. Contains l n) (sym taken) (Contains-append_left y.waiting (node ∷ []) n c))
      ])),
      (λ leads. elim ((a.all n).1 leads) [
        | inl c ↦ inl (Contains-append_left a.targets (node ∷ []) n c)
        | inr c ↦ elim (Contains-push_cases y.waiting node n (subst (λ l. Contains l n) taken c)) [
          | inl still ↦ inr still
          | inr same ↦ inl (subst (Contains (a.targets ++ node ∷ [])) same (Contains-push a.targets node))
        ]
      ]),
    );
    within = a.within;
    few = let few = a.few in omega (arith, few, length_push a.targets node, ap length taken ∙ length_push y.waiting node);
    shape = ap length off ∙ length-set x.reachable node false ∙ a.shape;
    all_wait = λ n h. elim (get_or-set x.reachable node n false false) [
      | inl same ↦ elim (Contains-push_cases y.waiting node n (subst (λ l. Contains l n) taken (a.all_wait n (sym same ∙ reached n h)))) [
        | inl still ↦ still
        | inr this ↦ absurd (true≢false (sym (reached n h) ∙ ap (λ m. get_or (slice_set x.reachable node false) m false) (sym this) ∙ get_or-set_same x.reachable node false false node_within))
      ]
      | inr put ↦ absurd (true≢false (sym (reached n h) ∙ put.1))
    ];
  }
    where
      was_queued : Contains x.waiting node
      was_queued = subst (λ l. Contains l node) (sym taken) (Contains-push y.waiting node)

      node_within : node < length x.reachable
      node_within = subst (λ m. node < m) (sym a.shape) (a.within node ((a.all node).0 (inr was_queued)))

      reached : (n : ℕ) → IsReachableIn y n → get_or (slice_set x.reachable node false) n false ≡ true
      reached n h = subst (λ l. get_or l n false ≡ true) off h

  all_off : (bits : List Bool) → ((n : ℕ) → get_or bits n false ≡ true → ⊥) → bits ≡ replicate (length bits) false
  all_off [] none = refl
  all_off (true ∷ bits) none = absurd (none 0 refl)
  all_off (false ∷ bits) none = ap (λ l. false ∷ l) (all_off bits (λ n. none (suc n)))

  -- none is queued any more
  pub adding_ends : (x y : SearchState) (new : List Pending) → y ≡ x → x.waiting ≡ [] → Adding x new → AddsEdges Leads nodes index old new × (y ≡ unsearched nodes)
  adding_ends x y new same empty a = (
    record {
      targets = a.targets;
      is = a.is;
      all = λ n. (
        (λ c. (a.all n).0 (inl c)),
        (λ leads. elim ((a.all n).1 leads) [ inl c ↦ c | inr c ↦ absurd (none n c) ]),
      );
      within = a.within;
      few = let few = a.few in omega (arith, few);
    },
    same ∙ nothing,
  )
    where
      none : (n : ℕ) → Contains x.waiting n → ⊥
      none n c = contains_none n (subst (λ l. Contains l n) empty c)

      nothing : x ≡ unsearched nodes
      nothing = ap (λ l. record { reachable = l; waiting = x.waiting }) (all_off x.reachable (λ n h. none n (a.all_wait n h)) ∙ ap (λ n. replicate n false) a.shape)
          ∙ ap (λ l. record { reachable = replicate nodes false; waiting = l }) empty

  -- queued nodes are nodes
  pub queued_within : (x : SearchState) (new : List Pending) → Adding x new → (n : ℕ) → Contains x.waiting n → n < length x.reachable
  queued_within x new a n c = subst (λ m. n < m) (sym a.shape) (a.within n ((a.all n).0 (inr c)))
