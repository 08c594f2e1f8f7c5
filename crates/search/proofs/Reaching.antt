-- What is reachable step by step, and a search from its seeds to its end.
use Rattle.std.proofs.Common.{◌≡◌, ℕ, ◌+◌, ◌-◌, ◌<◌, ◌⊎◌, ◌↔◌, inl, inr, Bool, true, false, List, [], ◌∷◌, ◌++◌, Contains, get_or, slice_get, slice_set, length, Some, IsTrue, arith, refl, sym, ap, ◌∙◌, subst, true≢false, length-set}
use Rattle.std.proofs.lemmas.List.{length-replicate, length_push}
use Rattle.std.proofs.lemmas.List.Elements.{Contains-append_left, Contains-push, Contains-push_cases}
use Rattle.std.proofs.lemmas.List.Sums.{count_by-le-length}
use Rattle.std.proofs.lemmas.Option.{get_or_from_slice_get}
use Rattle.lemmas.proofs.Elements.{get_or-replicate_default, set-slice_get, within_from_get_or}
use Rattle.search.specs.Reachable.{SearchState, IsReachableIn, Reachable, Reaches, count_reachable, led, seed, unsearched}
use Rattle.search.proofs.Bits.{bit_put, bits_on-fewer, bits_on-set}
use Rattle.lemmas.proofs.Adding.{adds_as, adds_then}

-- what is reachable from some is reachable from more
pub reachable_as : {A : Type 0} {Seed Seed' : A → Type 0} {Leads : A → A → Type 0} → ((a : A) → Seed a → Seed' a) → {a : A} → Reachable Seed Leads a → Reachable Seed' Leads a
reachable_as more (seed {a = a} h) = seed (more a h)
reachable_as more (led r h) = led (reachable_as more r) h

-- what is found was reached before
pub reaches_known : (Found : ℕ → Type 0) (x : SearchState) → ((n : ℕ) → Found n → IsReachableIn x n) → Reaches Found x x
reaches_known Found x known = record {
  shape = refl;
  reachable = λ n. (λ h. inl h, λ h. elim h [ inl i ↦ i | inr i ↦ known n i ]);
  fresh = λ n h. inl h;
  still = λ n h. h;
  waits = λ n h. inl h;
  once = refl;
}

pub reaches_as : (Found Found' : ℕ → Type 0) (old new : SearchState) → ((n : ℕ) → Found n → Found' n) → ((n : ℕ) → Found' n → Found n)
    → Reaches Found old new → Reaches Found' old new
reaches_as Found Found' old new to from w = record {
  shape = w.shape;
  reachable = adds_as Found' (λ n i. inr (to n i)) (λ n i. inr (from n i)) w.reachable;
  fresh = w.fresh;
  still = w.still;
  waits = w.waits;
  once = w.once;
}

pub reaches_then : (Found Found' : ℕ → Type 0) (old mid new : SearchState) → Reaches Found old mid → Reaches Found' mid new
    → Reaches (λ n. Found n ⊎ Found' n) old new
reaches_then Found Found' old mid new w v = record {
  shape = v.shape ∙ w.shape;
  reachable = adds_then w.reachable v.reachable;
  fresh = λ n h. elim (v.fresh n h) [
    | inl i ↦ elim (w.fresh n i) [ inl j ↦ inl j | inr j ↦ inr (v.still n j) ]
    | inr i ↦ inr i
  ];
  still = λ n h. v.still n (w.still n h);
  waits = λ n h. elim (v.waits n h) [
    | inl i ↦ elim (w.waits n i) [ inl j ↦ inl j | inr j ↦ inr ((v.reachable n).1 (inl j)) ]
    | inr i ↦ inr i
  ];
  once = let a = w.once in let b = v.once in omega (arith, a, b);
}

-- one node: its bit was turned on, and it is queued if the bit was off
module _ (x : SearchState) (node : ℕ) (within : node < length x.reachable) (bits : List Bool) (put : bits ≡ slice_set x.reachable node true) where
  pub reaches_new : (waiting : List ℕ) → slice_get x.reachable node ≡ Some false → waiting ≡ x.waiting ++ node ∷ []
      → Reaches (λ n. n ≡ node) x (record { reachable = bits; waiting = waiting })
  reaches_new waiting off push = record {
    shape = ap length put ∙ length-set x.reachable node true;
    reachable = turned;
    fresh = λ n h. elim ((turned n).0 h) [
      | inl i ↦ inl i
      | inr e ↦ inr (subst (λ l. Contains l n) (sym push) (subst (Contains (x.waiting ++ node ∷ [])) (sym e) (Contains-push x.waiting node)))
    ];
    still = λ n h. subst (λ l. Contains l n) (sym push) (Contains-append_left x.waiting (node ∷ []) n h);
    waits = λ n h. elim (Contains-push_cases x.waiting node n (subst (λ l. Contains l n) push h)) [ inl i ↦ inl i | inr e ↦ inr ((turned n).1 (inr (sym e))) ];
    once = let one = ap (λ l. count_reachable (record { reachable = l; waiting = waiting })) put
        ∙ bits_on-set x.reachable node within (get_or_from_slice_get x.reachable node false false off) in
        let long = ap length push ∙ length_push x.waiting node in omega (arith, one, long);
  }
    where
      turned : (n : ℕ) → IsTrue (get_or bits n false) ↔ (IsReachableIn x n ⊎ (n ≡ node))
      turned = subst (λ l. (n : ℕ) → IsTrue (get_or l n false) ↔ (IsReachableIn x n ⊎ (n ≡ node))) (sym put) (bit_put x.reachable node within)

  pub reaches_again : (waiting : List ℕ) → slice_get x.reachable node ≡ Some true → waiting ≡ x.waiting → Reaches (λ n. n ≡ node) x (record { reachable = bits; waiting = waiting })
  reaches_again waiting on same = subst (Reaches (λ n. n ≡ node) x) back
      (reaches_known _ x (λ n e. ap (λ q. get_or x.reachable q false) e ∙ get_or_from_slice_get x.reachable node true false on))
    where
      back : x ≡ record { reachable = bits; waiting = waiting }
      back = ap (λ l. record { reachable = l; waiting = x.waiting }) (sym (put ∙ set-slice_get x.reachable node true on))
          ∙ ap (λ l. record { reachable = bits; waiting = l }) (sym same)

-- what was reached first, of so many nodes, is queued
pub record Begun (nodes : ℕ) (Seed : ℕ → Type 0) (x : SearchState) : Type 0 where
  pub shape : length x.reachable ≡ nodes
  pub seeds : (n : ℕ) → (IsReachableIn x n ↔ Seed n)
  pub all_wait : (n : ℕ) → (IsReachableIn x n ↔ Contains x.waiting n)

pub begun : (nodes : ℕ) (Seed : ℕ → Type 0) (old new : SearchState) → old ≡ unsearched nodes → Reaches Seed old new → Begun nodes Seed new
begun nodes Seed old new e v = record {
  shape = w.shape ∙ length-replicate nodes false;
  seeds = λ n. ((λ h. elim ((w.reachable n).0 h) [ inl i ↦ absurd (none n i) | inr i ↦ i ]), (λ h. (w.reachable n).1 (inr h)));
  all_wait = λ n. (
    (λ h. elim (w.fresh n h) [ inl i ↦ absurd (none n i) | inr i ↦ i ]),
    (λ h. elim (w.waits n h) [ inl i ↦ absurd (omega (arith, i.1)) | inr i ↦ i ]),
  );
}
  where
    w : Reaches Seed (unsearched nodes) new
    w = subst (λ x. Reaches Seed x new) e v

    none : (n : ℕ) → IsReachableIn (unsearched nodes) n → ⊥
    none n h = true≢false (sym h ∙ get_or-replicate_default nodes n false)

-- how much there is left to do: each node that wasn't reached is queued once
abbrev pub left_to_do : SearchState → ℕ
left_to_do x = (length x.reachable - count_reachable x) + (length x.reachable - count_reachable x) + length x.waiting

pub less_to_do : (Found : ℕ → Type 0) (node : ℕ) (old mid new : SearchState) → mid.reachable ≡ old.reachable → old.waiting ≡ mid.waiting ++ node ∷ []
    → Reaches Found mid new → left_to_do new < left_to_do old
less_to_do Found node old mid new same popped v =
    let length_reachable : length mid.reachable ≡ length old.reachable = ap length same in
    let count : count_reachable mid ≡ count_reachable old = ap (λ l. count_reachable (record { reachable = l; waiting = [] })) same in
    let length_waiting : length old.waiting ≡ length mid.waiting + 1 = ap length popped ∙ length_push mid.waiting node in
    let grows = bits_on-fewer mid.reachable new.reachable (λ n h. (v.reachable n).1 (inl h)) in
    let most = count_by-le-length (λ (b : Bool). b) new.reachable in
    omega (arith, length_reachable, count, length_waiting, grows, most, v.shape, v.once)

module _ (nodes : ℕ) (Seed : ℕ → Type 0) (Leads : ℕ → ℕ → Type 0) where
  -- What was reached is reachable from the seeds. It is queued, or it is Done, and what it leads to was reached.
  pub record Searching (Done : ℕ → Type 0) (x : SearchState) : Type 0 where
    pub shape : length x.reachable ≡ nodes
    pub begins : (n : ℕ) → Seed n → IsReachableIn x n
    pub sound : (n : ℕ) → IsReachableIn x n → Reachable Seed Leads n
    pub waits : (n : ℕ) → Contains x.waiting n → IsReachableIn x n
    pub closed : (n : ℕ) → IsReachableIn x n → Contains x.waiting n ⊎ (Done n × ((m : ℕ) → Leads n m → IsReachableIn x m))

  pub search_begins : (Done : ℕ → Type 0) (x : SearchState) → Begun nodes Seed x → Searching Done x
  search_begins Done x b = record {
    shape = b.shape;
    begins = λ n h. (b.seeds n).1 h;
    sound = λ n h. seed ((b.seeds n).0 h);
    waits = λ n h. (b.all_wait n).1 h;
    closed = λ n h. inl ((b.all_wait n).0 h);
  }

  module _ (Done : ℕ → Type 0) (node : ℕ) (old mid : SearchState) (w : Searching Done old) (popped : old.waiting ≡ mid.waiting ++ node ∷ []) where
    -- a queued node was reached
    pub popped_reachable : IsReachableIn old node
    popped_reachable = w.waits node (subst (λ l. Contains l node) (sym popped) (Contains-push mid.waiting node))

    pub popped_within : node < nodes
    popped_within = subst (λ m. node < m) w.shape (within_from_get_or old.reachable node false (λ e. true≢false (sym popped_reachable ∙ e)))

    -- it is no longer queued, and was visited
    pub search_goes_on : (new : SearchState) (Done' : ℕ → Type 0) → ((n : ℕ) → Done n → Done' n) → Done' node → mid.reachable ≡ old.reachable → Reaches (Leads node) mid new → Searching Done' new
    search_goes_on new Done' more done same v = record {
      shape = v.shape ∙ ap length same ∙ w.shape;
      begins = λ n h. forth n (w.begins n h);
      sound = λ n h. elim ((v.reachable n).0 h) [ inl i ↦ w.sound n (back n i) | inr i ↦ led (w.sound node popped_reachable) i ];
      waits = λ n h. elim (v.waits n h) [
        | inl i ↦ forth n (w.waits n (subst (λ l. Contains l n) (sym popped) (Contains-append_left mid.waiting (node ∷ []) n i)))
        | inr i ↦ i
      ];
      closed = λ n h. elim (v.fresh n h) [
        | inl i ↦ elim (w.closed n (back n i)) [
          | inl j ↦ elim (Contains-push_cases mid.waiting node n (subst (λ l. Contains l n) popped j)) [
            | inl k ↦ inl (v.still n k)
            | inr e ↦ inr (subst Done' e done, λ m k. (v.reachable m).1 (inr (subst (λ q. Leads q m) (sym e) k)))
          ]
          | inr j ↦ inr (more n j.0, λ m k. forth m (j.1 m k))
        ]
        | inr i ↦ inl i
      ];
    }
      where
        back : (n : ℕ) → IsReachableIn mid n → IsReachableIn old n
        back n h = subst (λ l. IsTrue (get_or l n false)) same h

        forth : (n : ℕ) → IsReachableIn old n → IsReachableIn new n
        forth n h = (v.reachable n).1 (inl (subst (λ l. IsTrue (get_or l n false)) (sym same) h))

  -- if nothing is queued, everything reachable was reached, and is done
  pub search_ends : (Done : ℕ → Type 0) (x : SearchState) → Searching Done x → x.waiting ≡ [] → {n : ℕ} → Reachable Seed Leads n → IsReachableIn x n × Done n
  search_ends Done x w none h = (reachable h, (closed _ (reachable h)).0)
    where
      nothing : (n : ℕ) → Contains [] n → ⊥
      nothing n h = omega (arith, h.1)

      closed : (n : ℕ) → IsReachableIn x n → Done n × ((m : ℕ) → Leads n m → IsReachableIn x m)
      closed n h = elim (w.closed n h) [ inl i ↦ absurd (nothing n (subst (λ l. Contains l n) none i)) | inr i ↦ i ]

      reachable : {n : ℕ} → Reachable Seed Leads n → IsReachableIn x n
      reachable {n = n} (seed h) = w.begins n h
      reachable {n = n} (led {a = a} h k) = (closed a (reachable h)).1 n k
