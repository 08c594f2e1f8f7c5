-- Kernels that were found and states that were visited: each viable prefix is that of a state once all kernels are visited.
use Rattle.std.proofs.Common.{◌≡◌, Option, None, Some, ◌↔◌, inl, inr, ℕ, ◌+◌, ◌-◌, ◌<◌, ◌≤◌, List, [], ◌∷◌, ◌++◌, Contains, get_or, length, append-nil, append_assoc, refl, sym, ap, subst, ◌∙◌, arith}
use Rattle.std.proofs.lemmas.Bool.{cases_lt}
use Rattle.std.proofs.lemmas.List.{length_push}
use Rattle.std.proofs.lemmas.List.Elements.{Contains-get_or}
use Rattle.cfgrammar.specs.Grammar.{Grammar, IsGrammar, IsSymbolOf, Sym}
use Rattle.cfgrammar.proofs.Contained.{contains_none}
use Rattle.search.proofs.PathGroups.{contains_at, contains_there}
use Rattle.lr_states.specs.declared.Item.{Item}
use Rattle.lr_states.specs.declared.kernels.Target.{Target}
use Rattle.lr_states.specs.Inner.Closure.{AreAdvanced, IsClosure, IsKernelOf, items_after, node_of}
use Rattle.lr_states.specs.Viable.{AreStates, IsStateOf, IsValid, IsViable, item_at}
use Rattle.lr_states.specs.Inner.Kernels.{Adds, AreGoing, IsAmong}
use Rattle.lr_states.specs.Automaton.{AreGotos, HaveTargets, IsGoto, target_of}
use Rattle.lr_states.proofs.Closed.{closure_sorted, closure_state, kernel_next, next_symbol, next_viable}
use Rattle.lr_states.proofs.Growing.{each_pushed}
use Rattle.lr_states.proofs.Order.{sorted_same}
use Rattle.lr_states.proofs.Places.{target_found}
use Rattle.lr_states.proofs.Spines.{IsRead, none_read, viable_prefix, viable_read}
use Rattle.lr_states.proofs.Stepped.{steps_advanced}
use Rattle.lr_states.proofs.Targets.{target_state}

contains_some : (xs : List Item) → 0 < length xs → (x : Item) × Contains xs x
contains_some xs some = (get_or xs 0 (item_at 0 0), Contains-get_or xs 0 (item_at 0 0) some)

some_contained : (xs : List Item) (x : Item) → Contains xs x → 0 < length xs
some_contained xs x h = let within = h.1 in omega (arith, within)

module _ (g : Grammar) (Used : ℕ → Type 0) where
  -- the kernel is that of a viable prefix
  pub record IsReached (kernel : List Item) : Type 0 where
    pub prefix : List Sym
    pub is : IsKernelOf g Used prefix kernel
    pub viable : IsViable g Used prefix

  pub record AreExplored (kernels states : List (List Item)) : Type 0 where
    pub some : 0 < length kernels
    pub first : get_or kernels 0 [] ≡ []
    pub upto : length states ≤ length kernels
    pub each : (q : ℕ) → q < length kernels → IsReached (get_or kernels q [])
    pub closures : (q : ℕ) → q < length states → IsClosure g Used (get_or kernels q []) (get_or states q [])

  -- the empty prefix has no items with symbols read
  pub kernel_first : IsKernelOf g Used [] []
  kernel_first = record {
    all = λ item. (
      (λ h. absurd (contains_none item h)),
      (λ h. absurd (none_read_at item h.0 h.1)),
    );
    empty = λ e. refl;
    sorted = tt;
  }
    where
      none_read_at : (item : Item) → 0 < item.read → IsValid g Used [] item → ⊥
      none_read_at item some v =
          let i = item.read - 1 in
          let more : item.read ≡ i + 1 = omega (arith, some) in
          none_read g Used item.production i (subst (λ n. IsValid g Used [] (item_at item.production n)) more v)

  pub explored_first : (kernels : List (List Item)) → kernels ≡ [] ∷ [] → IsViable g Used [] → AreExplored kernels []
  explored_first kernels is viable = subst (λ l. AreExplored l []) (sym is) (record {
    some = omega arith;
    first = refl;
    upto = omega arith;
    each = λ q within.
        let zero : q ≡ 0 = omega (arith, within) in
        let empty : get_or {A = List Item} ([] ∷ []) q [] ≡ [] = ap (λ n. get_or {A = List Item} ([] ∷ []) n []) zero in
        subst IsReached (sym empty) (record { prefix = []; is = kernel_first; viable = viable });
    closures = λ q within. absurd (omega (arith, within));
  })

  module _ (grammar : IsGrammar g) (kernels states : List (List Item)) (are : AreExplored kernels states) where
    -- the kernel of a state that comes after one is that of a viable prefix
    successor_reached : (q : ℕ) → q < length kernels → (items list : List Item) → IsClosure g Used (get_or kernels q []) items → IsAmong (items_after g items) list → IsReached list
    successor_reached q within items list closure s =
        let reached = are.each q within in
        let state = closure_state g Used reached.prefix (get_or kernels q []) reached.is items closure in
        let sorted = closure_sorted g Used reached.prefix (get_or kernels q []) reached.is items closure in
        let advanced = subst (AreAdvanced g items s.node) (sym s.is) (steps_advanced g s.node items) in
        let (item, among) = contains_some list s.some in
        let (x, kernel) = next_viable g grammar Used reached.prefix items state sorted s.node list advanced item among in
        record { prefix = reached.prefix ++ x ∷ []; is = kernel; viable = record { item = item; is = ((kernel.all item).0 among).1 } }

    -- one more state is visited
    pub explored_more : (items : List Item) (kernels' states' : List (List Item)) → length states < length kernels → IsClosure g Used (get_or kernels (length states) []) items
        → Adds (IsAmong (items_after g items)) kernels kernels' → states' ≡ states ++ items ∷ [] → AreExplored kernels' states'
    explored_more items kernels' states' room closure adds is = record {
      some = let longer = adds.longer in omega (arith, longer, room);
      first = adds.kept 0 are.some ∙ are.first;
      upto = let longer = adds.longer in omega (arith, longer, room, long);
      each = λ q within. elim (cases_lt q (length kernels)) [
        | inl early ↦ subst IsReached (sym (adds.kept q early)) (are.each q early)
        | inr late ↦ successor_reached (length states) room items (get_or kernels' q []) closure (adds.fresh q late within)
      ];
      closures = λ q within. each_pushed (λ p l. IsClosure g Used (get_or kernels' p []) l) states states' items [] (length states) is refl
          (λ p early. subst (λ k. IsClosure g Used k (get_or states p [])) (sym (adds.kept p (omega (arith, early, room)))) (are.closures p early))
          (subst (λ k. IsClosure g Used k items) (sym (adds.kept (length states) room)) closure)
          q (omega (arith, within, long));
    }
      where
        long : length states' ≡ length states + 1
        long = ap length is ∙ length_push states items

    -- the item after a symbol is read is among those after the symbol
    item_after_read : (prefix : List Sym) (items : List Item) → IsStateOf g Used prefix items → (x : Sym) (w : IsRead g Used prefix x)
        → Contains (items_after g items (node_of g x)) (item_at w.production (w.read + 1))
    item_after_read prefix items state x w = ((steps_advanced g (node_of g x) items).all (item_at w.production (w.read + 1))).1
        (record { read = w.read; is = refl; from = (state (item_at w.production w.read)).1 w.valid; symbol = x; next = w.next; at = refl })

    module _ (done : length kernels ≤ length states) (targets : List (List Target)) (going : AreGoing g kernels states targets) where
      -- the state of a prefix
      record IsListed (prefix : List Sym) : Type 0 where
        number : ℕ
        within : number < length kernels
        kernel : IsKernelOf g Used prefix (get_or kernels number [])

      state_of : (prefix : List Sym) (h : IsListed prefix) → IsStateOf g Used prefix (get_or states h.number [])
      state_of prefix h = let below = h.within in
          closure_state g Used prefix (get_or kernels h.number []) h.kernel (get_or states h.number []) (are.closures h.number (omega (arith, below, done)))

      listed_next : (prefix : List Sym) (x : Sym) → IsListed prefix → IsRead g Used prefix x → IsListed (prefix ++ x ∷ [])
      listed_next prefix x h w =
          let below = h.within in
          let inside : h.number < length states = omega (arith, below, done) in
          let items = get_or states h.number [] in
          let node = node_of g x in
          let list = items_after g items node in
          let state = state_of prefix h in
          let sorted = closure_sorted g Used prefix (get_or kernels h.number []) h.kernel items (are.closures h.number inside) in
          let new = item_at w.production (w.read + 1) in
          let among = item_after_read prefix items state x w in
          let (r, has) = (going.each h.number inside).all node (some_contained list new among) in
          let target = (going.each h.number inside).sound (record { symbol = node; state = r }) has in
          record {
            number = r;
            within = target.within;
            kernel = subst (IsKernelOf g Used (prefix ++ x ∷ [])) (sym target.is)
                (kernel_next g grammar Used prefix items state sorted node list (steps_advanced g node items) x
                (next_symbol g grammar (item_at w.production w.read) x w.next) refl new among);
          }

      listed_onwards : (prefix rest : List Sym) → IsListed prefix → IsViable g Used (prefix ++ rest) → IsListed (prefix ++ rest)
      listed_onwards prefix [] h viable = subst IsListed (sym (append-nil prefix)) h
      listed_onwards prefix (x ∷ rest) h viable =
          let split = append_assoc prefix (x ∷ []) rest in
          let further = subst (IsViable g Used) (sym split) viable in
          let w = viable_read g Used prefix x (viable_prefix g Used (prefix ++ x ∷ []) rest further) in
          subst IsListed split (listed_onwards (prefix ++ x ∷ []) rest (listed_next prefix x h w) further)

      listed : (prefix : List Sym) → IsViable g Used prefix → IsListed prefix
      listed prefix viable = listed_onwards [] prefix (record { number = 0; within = are.some; kernel = subst (IsKernelOf g Used []) (sym are.first) kernel_first }) viable

      -- a state has one kernel
      kernels_same : (q r : ℕ) → q < length kernels → r < length kernels
          → ((item : Item) → Contains (get_or states q []) item ↔ Contains (get_or states r []) item) → get_or kernels q [] ≡ get_or kernels r []
      kernels_same q r within inside same =
          let a = are.each q within in
          let b = are.each r inside in
          let here = closure_state g Used a.prefix (get_or kernels q []) a.is (get_or states q []) (are.closures q (omega (arith, within, done))) in
          let there = closure_state g Used b.prefix (get_or kernels r []) b.is (get_or states r []) (are.closures r (omega (arith, inside, done))) in
          sorted_same (get_or kernels q []) (get_or kernels r []) a.is.sorted b.is.sorted
          (λ item h. let v = (a.is.all item).0 h in (b.is.all item).1 (v.0, (there item).0 ((same item).0 ((here item).1 v.1))))
          (λ item h. let v = (b.is.all item).0 h in (a.is.all item).1 (v.0, (here item).0 ((same item).1 ((there item).1 v.1))))

      pub explored_states : ((q r : ℕ) → q < length kernels → r < length kernels → get_or kernels q [] ≡ get_or kernels r [] → q ≡ r) → AreStates g Used states
      explored_states apart = record {
        each = λ prefix viable.
            let h = listed prefix viable in
            let below = h.within in
            (h.number, omega (arith, below, done), state_of prefix h);
        only = λ q within.
            let upto = are.upto in
            let inside : q < length kernels = omega (arith, within, upto) in
            let a = are.each q inside in
            (a.prefix, a.viable, closure_state g Used a.prefix (get_or kernels q []) a.is (get_or states q []) (are.closures q within));
        distinct = λ q r within inside same.
            let upto = are.upto in
            let first : q < length kernels = omega (arith, within, upto) in
            let second : r < length kernels = omega (arith, inside, upto) in
            apart q r first second (kernels_same q r first second same);
        first = λ some. state_of [] (record { number = 0; within = are.some; kernel = subst (IsKernelOf g Used []) (sym are.first) kernel_first });
        sorted = λ q within.
            let upto = are.upto in
            let a = are.each q (omega (arith, within, upto)) in
            closure_sorted g Used a.prefix (get_or kernels q []) a.is (get_or states q []) (are.closures q within);
      }

      goto_at : (q : ℕ) → q < length states → (x : Sym) → IsSymbolOf g x → (o : Option ℕ) → target_of (get_or targets q []) (node_of g x) ≡ o → IsGoto g Used states q x o
      goto_at q within x symbol None none = λ prefix state viable.
          let items = get_or states q [] in
          let w = viable_read g Used prefix x viable in
          let among = item_after_read prefix items state x w in
          let (r, has) = (going.each q within).all (node_of g x) (some_contained (items_after g items (node_of g x)) (item_at w.production (w.read + 1)) among) in
          let (i, at) = contains_at (get_or targets q []) (record { symbol = node_of g x; state = r }) has in
          let some = target_state (get_or targets q []) (going.each q within).ascending i (record { symbol = node_of g x; state = r }) at in
          absurd (cc)
      goto_at q within x symbol (Some r) leads =
          let (i, at) = target_found (get_or targets q []) (node_of g x) r leads in
          let has = contains_there (get_or targets q []) i (record { symbol = node_of g x; state = r }) at in
          let target = (going.each q within).sound (record { symbol = node_of g x; state = r }) has in
          let there = target.within in
          let upto = are.upto in
          let inside : r < length states = omega (arith, there, done) in
          let items = get_or states q [] in
          let list = items_after g items (node_of g x) in
          let a = are.each q (omega (arith, within, upto)) in
          let sorted = closure_sorted g Used a.prefix (get_or kernels q []) a.is items (are.closures q within) in
          let (item, among) = contains_some list target.some in (
            inside,
            λ prefix state.
                let kernel = kernel_next g grammar Used prefix items state sorted (node_of g x) list (steps_advanced g (node_of g x) items) x symbol refl item among in
                closure_state g Used (prefix ++ x ∷ []) (get_or kernels r []) (subst (IsKernelOf g Used (prefix ++ x ∷ [])) (sym target.is) kernel) (get_or states r []) (are.closures r inside),
          )

      pub explored_gotos : AreGotos g Used (record { rules = g.rules; states = states; targets = targets })
      explored_gotos q within x symbol = goto_at q within x symbol (target_of (get_or targets q []) (node_of g x)) refl

-- the symbols of the targets are next in items
pub explored_targets : (g : Grammar) → IsGrammar g → (kernels states : List (List Item)) (targets : List (List Target)) → AreGoing g kernels states targets
    → HaveTargets g (record { rules = g.rules; states = states; targets = targets })
explored_targets g grammar kernels states targets are = record {
  rules = refl;
  count = are.count;
  symbols = λ q within target h.
      let items = get_or states q [] in
      let (item, among) = contains_some (items_after g items target.symbol) ((are.each q within).sound target h).some in
      let a = ((steps_advanced g target.symbol items).all item).0 among in
      (a.symbol, next_symbol g grammar (item_at item.production a.read) a.symbol a.next, a.at);
  ascending = λ q within. (are.each q within).ascending;
}
