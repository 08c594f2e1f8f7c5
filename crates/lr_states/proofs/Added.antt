-- Lists that are added to others, one after another.
use Rattle.std.proofs.Common.{◌≡◌, ◌==◌, ◌&&◌, Global, Vec, inl, inr, ℕ, ◌+◌, ◌<◌, Bool, true, List, [], ◌∷◌, ◌++◌, get_or, if◌then◌else◌, Contains, Some, slice_get, length, map, refl, sym, ap, subst, ◌∙◌, arith, true≢false}
use Rattle.std.specs.List.{IsDistinct, list_any}
use Rattle.std.specs.Bool.{Decides}
use Rattle.std.specs.Cmp.Lexicographic.{pointwise}
use Rattle.std.proofs.lemmas.Bool.{cases_Bool, cases_eq, cases_lt}
use Rattle.std.proofs.lemmas.Bool.Decides.{Decides-and, Decides-eqb, Decides-like}
use Rattle.std.proofs.lemmas.List.{get_or-map, get_or_append_left, get_or_push, length-map, length_push, map_push}
use Rattle.std.proofs.lemmas.Map.Keys.{apart_from_distinct}
use Rattle.std.proofs.lemmas.List.Elements.{Contains-append_left, Contains-push, Contains-push_cases}
use Rattle.std.proofs.lemmas.Option.{get_or_from_slice_get, slice_get_within}
use Rattle.cfgrammar.specs.Grammar.{Grammar}
use Rattle.cfgrammar.proofs.Contained.{contains_first, contains_later, contains_none}
use Rattle.cfgrammar.proofs.Elements.{element_at}
use Rattle.lr_states.specs.declared.Item.{Item}
use Rattle.lr_states.specs.declared.kernels.Target.{Target}
use Rattle.lr_states.specs.Inner.Kernels.{Adds, AreGoing, AreTargets, IsAmong, IsOne, IsTarget}
use Rattle.lr_states.specs.Automaton.{AreAscending}
use Rattle.lr_states.specs.Inner.Closure.{items_after}
use Rattle.lr_states.proofs.Growing.{each_pushed}

pub adds_none : (Found : List Item → Type 0) (lists : List (List Item)) → Adds Found lists lists
adds_none Found lists = record { longer = omega arith; kept = λ q within. refl; fresh = λ q past within. absurd (omega (arith, past, within)) }

adds_then : (Found Found' Both : List Item → Type 0) (old mid new : List (List Item)) → ((list : List Item) → Found list → Both list) → ((list : List Item) → Found' list → Both list)
    → Adds Found old mid → Adds Found' mid new → Adds Both old new
adds_then Found Found' Both old mid new first second a b = record {
  longer = let x = a.longer in let y = b.longer in omega (arith, x, y);
  kept = λ q within. b.kept q (let x = a.longer in omega (arith, x, within)) ∙ a.kept q within;
  fresh = λ q past within. elim (cases_lt q (length mid)) [
    | inl early ↦ first (get_or new q []) (subst Found (sym (b.kept q early)) (a.fresh q past early))
    | inr late ↦ second (get_or new q []) (b.fresh q late within)
  ];
}

-- one more list, where there was none
pub record IsExtended (lists lists' : ℕ → List Item) (n : ℕ) (list : List Item) : Type 0 where
  pub none : lists n ≡ []
  pub here : lists' n ≡ list
  pub elsewhere : (node : ℕ) → (node ≡ n → ⊥) → lists' node ≡ lists node

pub among_more : (lists lists' : ℕ → List Item) (n : ℕ) (list : List Item) → IsExtended lists lists' n list → (old mid new : List (List Item)) → Adds (IsAmong lists) old mid
    → Adds (IsOne list) mid new → Adds (IsAmong lists') old new
among_more lists lists' n list more old mid new a b = adds_then (IsAmong lists) (IsOne list) (IsAmong lists') old mid new
    (λ other h.
    let some = h.some in
    let apart : h.node ≡ n → ⊥ = λ same. omega (arith, some, ap (λ (l : List Item). length l) (h.is ∙ ap lists same ∙ more.none)) in
    record { node = h.node; is = h.is ∙ sym (more.elsewhere h.node apart); some = some })
    (λ other h. record { node = n; is = h.is ∙ sym more.here; some = h.some })
    a b

-- keys that show lists, and one more key, unless an equal one is there
module _ {K : Type 0} (show : K → List Item) (same : K → K → Bool) (keys : List K) (key : K) where
  added_new : (list : List Item) → show key ≡ list → 0 < length list → (new : List K) → new ≡ keys ++ key ∷ [] → Adds (IsOne list) (map show keys) (map show new)
  added_new list shows some new is = subst (λ l. Adds (IsOne list) (map show keys) l) (sym (ap (map show) is ∙ map_push show keys key)) (record {
    longer = let long = length_push old (show key) in omega (arith, long);
    kept = λ q within. get_or_append_left old (show key ∷ []) [] q within;
    fresh = λ q past within.
        let last : length old ≡ q = let long = length_push old (show key) in omega (arith, long, past, within) in
        let there : get_or (old ++ show key ∷ []) q [] ≡ list = get_or_push old (show key) [] q last ∙ shows in
        record { is = there; some = subst (λ l. 0 < length l) (sym there) some };
  })
    where
      old : List (List Item)
      old = map show keys

  pub key_added : (list : List Item) → show key ≡ list → 0 < length list → (new : List K) → new ≡ (if list_any (same key) keys then keys else keys ++ key ∷ [])
      → Adds (IsOne list) (map show keys) (map show new)
  key_added list shows some new is = elim (cases_Bool (list_any (same key) keys)) [
    | inl found ↦ subst (λ (l : List K). Adds (IsOne list) (map show keys) (map show l)) (sym (is ∙ ap {B = List K} (λ b. if b then keys else keys ++ key ∷ []) found)) (adds_none (IsOne list) (map show keys))
    | inr fresh ↦ added_new list shows some new (is ∙ ap {B = List K} (λ b. if b then keys else keys ++ key ∷ []) fresh)
  ]

-- kernels are equal as the code compares them
abbrev pub same_keys : Vec Item Global → Vec Item Global → Bool
same_keys x y = pointwise (λ (a b : Item). (a.production == b.production) && (a.read == b.read)) x.items y.items

-- items are equal as the code compares them
pub items_Decide : (x y : Item) → Decides ((x.production == y.production) && (x.read == y.read)) (x ≡ y)
items_Decide x y = Decides-like _
    (λ h. λ i. record { production = h.0 i; read = h.1 i })
    (λ e. (ap (λ (z : Item). z.production) e, ap (λ (z : Item). z.read) e))
    (Decides-and _ _ (Decides-eqb x.production y.production) (Decides-eqb x.read y.read))

module _ {K : Type 0} (show : K → List Item) (same : K → K → Bool) (keys : List K) where
  -- the first key
  pub key_first : (key : K) → keys ≡ [] → (new : List K) → new ≡ (if list_any (same key) keys then keys else keys ++ key ∷ []) → map show new ≡ show key ∷ []
  key_first key none new is = ap (map show) (is ∙ ap (λ (l : List K). if list_any (same key) l then l else l ++ key ∷ []) none)

  -- keys that show the same are at the same index
  module _ (decides : (x y : K) → Decides (same x y) (show x ≡ show y)) (distinct : IsDistinct same keys) where
    before_apart : (q r : ℕ) → q < r → r < length keys → get_or (map show keys) q [] ≡ get_or (map show keys) r [] → ⊥
    before_apart q r less within e =
        let (x, read) = element_at keys q (omega (arith, less, within)) in
        let first = get_or-map show keys q x [] (omega (arith, less, within)) in
        let second = get_or-map show keys r x [] within in
        true≢false (sym ((decides (get_or keys q x) (get_or keys r x)).1 (sym first ∙ e ∙ second)) ∙ apart_from_distinct same keys q r x distinct less within)

    pub keys_apart : (q r : ℕ) → q < length (map show keys) → r < length (map show keys) → get_or (map show keys) q [] ≡ get_or (map show keys) r [] → q ≡ r
    keys_apart q r within inside e =
        let long = length-map keys show in
        elim (cases_lt q r) [
          | inl less ↦ absurd (before_apart q r less (omega (arith, inside, long)) e)
          | inr more ↦ elim (cases_eq q r) [
            | inl equal ↦ equal
            | inr apart ↦ absurd (before_apart r q (omega (arith, more, apart)) (omega (arith, within, long)) (sym e))
          ]
        ]

-- the number of a key that was inserted
pub key_numbered : {K : Type 0} (show : K → List Item) (same : K → K → Bool) → ((x y : K) → Decides (same x y) (show x ≡ show y)) → (keys : List K) (key : K) (r : ℕ)
    → (k : K) × (slice_get keys r ≡ Some k) × (same key k ≡ true) → get_or (map show keys) r [] ≡ show key
key_numbered show same decides keys key r (k, read, equal) =
    get_or-map show keys r k [] (slice_get_within keys r k read) ∙ ap show (get_or_from_slice_get keys r k k read) ∙ sym ((decides key k).0 equal)

-- targets stay what they are when more kernels are added
target_kept : (lists : ℕ → List Item) (Found : List Item → Type 0) (old new : List (List Item)) → Adds Found old new → (t : Target) → IsTarget lists old t → IsTarget lists new t
target_kept lists Found old new adds t is = record {
  within = let longer = adds.longer in let within = is.within in omega (arith, longer, within);
  is = adds.kept t.state is.within ∙ is.is;
  some = is.some;
}

ascending_push : (targets : List Target) (target : Target) → AreAscending targets → ((other : Target) → Contains targets other → other.symbol < target.symbol)
    → AreAscending (targets ++ target ∷ [])
ascending_push [] target ascending below = ((λ other h. absurd (contains_none other h)), tt)
ascending_push (first ∷ targets) target ascending below = (
  (λ other h. elim (Contains-push_cases targets target other h) [
    | inl early ↦ ascending.0 other early
    | inr last ↦ subst (λ (t : Target). first.symbol < t.symbol) last (below first (contains_first first targets))
  ]),
  ascending_push targets target ascending.1 (λ other h. below other (contains_later first other targets h)),
)

-- the target for one more list
module _ (lists lists' : ℕ → List Item) (n : ℕ) (list : List Item) (extended : IsExtended lists lists' n list) (some : 0 < length list) where
  pub targets_more : (Found : List Item → Type 0) (old new : List (List Item)) → Adds Found old new → (targets : List Target) → AreTargets lists old targets
      → ((target : Target) → Contains targets target → target.symbol < n) → (r : ℕ) → r < length new → get_or new r [] ≡ list
      → (more : List Target) → more ≡ targets ++ (record { symbol = n; state = r }) ∷ [] → AreTargets lists' new more
  targets_more Found old new adds targets are below r within at more is = subst (AreTargets lists' new) (sym is) (record {
    sound = λ t h. elim (Contains-push_cases targets target t h) [
      | inl early ↦
          let kept = target_kept lists Found old new adds t (are.sound t early) in
          let under = below t early in
          let same = extended.elsewhere t.symbol (λ e. omega (arith, under, e)) in
          record { within = kept.within; is = kept.is ∙ sym same; some = subst (λ l. 0 < length l) (sym same) kept.some }
      | inr last ↦ subst (IsTarget lists' new) last (record {
        within = within;
        is = at ∙ sym extended.here;
        some = subst (λ l. 0 < length l) (sym extended.here) some;
      })
    ];
    all = λ node filled. elim (cases_eq node n) [
      | inl same ↦ (r, subst (λ m. Contains (targets ++ target ∷ []) (record { symbol = m; state = r })) (sym same) (Contains-push targets target))
      | inr apart ↦
          let (s, among) = are.all node (subst (λ l. 0 < length l) (extended.elsewhere node apart) filled) in
          (s, Contains-append_left targets (target ∷ []) (record { symbol = node; state = s }) among)
    ];
    ascending = ascending_push targets target are.ascending below;
  })
    where
      target : Target
      target = record { symbol = n; state = r }

-- one more state's targets
module _ (g : Grammar) where
  pub going_none : (kernels : List (List Item)) → AreGoing g kernels [] []
  going_none kernels = record { count = refl; each = λ q within. absurd (omega (arith, within)) }

  pub going_more : (Found : List Item → Type 0) (kernels new states more : List (List Item)) (targets more_targets : List (List Target)) (items : List Item) (own : List Target) → AreGoing g kernels states targets
      → Adds Found kernels new → AreTargets (items_after g items) new own → more ≡ states ++ items ∷ [] → more_targets ≡ targets ++ own ∷ [] → AreGoing g new more more_targets
  going_more Found kernels new states more targets more_targets items own are adds has is same = record {
    count = ap length same ∙ length_push targets own ∙ ap (λ n. n + 1) are.count ∙ sym long;
    each = λ q within. each_pushed (λ p l. AreTargets (items_after g (get_or more p [])) new l) targets more_targets own [] (length states) same are.count
        (λ p low.
        let before = are.each p low in
        let old : get_or more p [] ≡ get_or states p [] = ap (λ l. get_or l p []) is ∙ get_or_append_left states (items ∷ []) [] p low in
        subst (λ l. AreTargets (items_after g l) new (get_or targets p [])) (sym old) (record {
          sound = λ t h. target_kept (items_after g (get_or states p [])) Found kernels new adds t (before.sound t h);
          all = before.all;
          ascending = before.ascending;
        }))
        (subst (λ l. AreTargets (items_after g l) new own) (sym (ap (λ l. get_or l (length states) []) is ∙ get_or_push states items [] (length states) refl)) has)
        q (omega (arith, within, long));
  }
    where
      long : length more ≡ length states + 1
      long = ap length is ∙ length_push states items
