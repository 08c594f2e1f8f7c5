-- A walk that finds components: each of its steps keeps true what is known.
use Rattle.std.proofs.Common.{◌≡◌, ℕ, suc, ◌+◌, ◌*◌, ◌<◌, ◌≤◌, ◌⊎◌, ◌↔◌, inl, inr, true, false, cond, ltb, List, [], ◌∷◌, ◌++◌, Some, Contains, get_or, length, map, replicate, slice_get, slice_index, slice_set, take, arith, refl, sym, ap, ◌∙◌, subst, get_or-set_same, get_or-set_other, length-append, length-set}
use Rattle.std.specs.List.{count_by}
use Rattle.std.proofs.lemmas.Bool.{cases_lt, le-ltb, lt-ltb}
use Rattle.std.proofs.lemmas.List.{get_or_append_left, get_or_past, get_or_push, get_or-map, get_or-take, length-map, length-replicate, length-take-le, length_push}
use Rattle.std.proofs.lemmas.List.Elements.{Contains-append_left, Contains-append_right, Contains-push, Contains-push_cases}
use Rattle.std.proofs.lemmas.List.Sums.{count_by-le-length, sum_by-cons, sum_by-set}
use Rattle.std.proofs.lemmas.Option.{slice_get_within}
use Rattle.lemmas.proofs.Contained.{contains_first, contains_mapped, contains_none, contains_one, contains_source}
use Rattle.lemmas.proofs.Elements.{get_or-replicate_default, get_or-set, slice_get_push}
use Rattle.search.specs.declared.walk.Group.{Group}
use Rattle.search.specs.declared.walk.Known.{Known}
use Rattle.search.specs.declared.walk.Known.TheVariants.{New, Open, Settled}
use Rattle.search.specs.declared.walk.Pending.{Pending}
use Rattle.search.specs.Components.{AreComponents, AreMembers, ReachableFrom}
use Rattle.search.specs.Reachable.{led, seed}
use Rattle.search.specs.Inner.Walk.{AreKnown, AreRising, IsFollowed, IsLast, IsNoLater, IsPath, IsPending, IsSettled, NoneNew, is_new, joined, known_of, left_to_look, number_of, pending_from, settle, settled, taken, waits}
use Rattle.search.proofs.PathGroups.{before_last, contains_at, in_rest, not_last, rising_prefix, rising_push, slice_get_cases, slice_get_left, some_group, up_to_last}

module _ (Leads : ℕ → ℕ → Type 0) where
  reachable_itself : (a : ℕ) → ReachableFrom Leads a a
  reachable_itself a = seed refl

  reachable_by : (a b : ℕ) → Leads a b → ReachableFrom Leads a b
  reachable_by a b leads = led (reachable_itself a) leads

  reachable_through : (a b c : ℕ) → ReachableFrom Leads a b → ReachableFrom Leads b c → ReachableFrom Leads a c
  reachable_through a b c there (seed e) = subst (ReachableFrom Leads a) (sym e) there
  reachable_through a b c there (led {a = d} h leads) = led (reachable_through a b d there h) leads

  -- what a settled node leads to is settled
  settled_onward : (known : List Known) → ((a b : ℕ) → IsSettled known a → Leads a b → IsSettled known b) → (a b : ℕ) → ReachableFrom Leads a b
      → IsSettled known a → IsSettled known b
  settled_onward known closed a b (seed e) h = subst (IsSettled known) (sym e) h
  settled_onward known closed a b (led {a = d} r leads) h = closed d b (settled_onward known closed a d r h) leads

pub known_as : {Leads : ℕ → ℕ → Type 0} {nodes : ℕ} {known known' : List Known} {path path' : List ℕ} {groups groups' : List Group} {pending pending' : List Pending}
    {count count' : ℕ} → known' ≡ known → path' ≡ path → groups' ≡ groups → pending' ≡ pending → count' ≡ count
    → AreKnown Leads nodes known path groups pending count [] → AreKnown Leads nodes known' path' groups' pending' count' []
known_as {Leads = Leads} {nodes = nodes} a b c d e = subst (λ T. T) (sym (λ i. AreKnown Leads nodes (a i) (b i) (c i) (d i) (e i) []))

module _ (Leads : ℕ → ℕ → Type 0) (nodes : ℕ) (known : List Known) (path : List ℕ) (groups : List Group) (pending : List Pending) (count : ℕ) where
  -- an edge in hand is followed
  module _ (e : Pending) (s : AreKnown Leads nodes known path groups pending count (e ∷ [])) where
    -- it leads to a settled node
    pub passed : IsSettled known e.to → AreKnown Leads nodes known path groups pending count []
    passed h = record {
      numbered = s.numbered;
      on_path = s.on_path;
      within = s.within;
      rising = s.rising;
      inside = s.inside;
      first = s.first;
      chain = s.chain;
      followed = λ i to lt has. elim (s.followed i to lt has) [
        | settled k ↦ settled k
        | joined index is never ↦ joined index is never
        | waits c ↦ waits c
        | taken c ↦ settled (subst (λ (p : Pending). IsSettled known p.to) (contains_one e _ c) h)
      ];
      left = s.left;
      bounded = s.bounded;
    }

    module _ (leads : (index : ℕ) → index < length path → ReachableFrom Leads (slice_index path index) e.to) where
      -- it leads to a node of the path, and the groups after that are joined to the node's
      module _ (index : ℕ) (is : known_of known e.to ≡ Open index) (now : List Group) (rising : AreRising now)
          (kept : (g : Group) → Contains now g ↔ (Contains groups g × (g.start ≤ index))) (fewer : length now ≤ length groups) where
        there : (index < length path) × (slice_index path index ≡ e.to)
        there = s.on_path.positions e.to index is

        pub rejoined : AreKnown Leads nodes known path now pending count []
        rejoined = record {
          numbered = s.numbered;
          on_path = s.on_path;
          within = s.within;
          rising = rising;
          inside = λ g c. s.inside g ((kept g).0 c).0;
          first = λ more. let f = s.first more in (f.0, (kept f.0).1 (f.1, omega (arith, f.2)), f.2);
          chain = λ i k lt_i lt_k never. elim (cases_lt i index) [
            | inl before ↦ s.chain i k lt_i lt_k (λ g c le. never g ((kept g).1 (c, omega (arith, le, before))) le)
            | inr past ↦ reachable_through Leads (slice_index path i) e.to (slice_index path k) (leads i lt_i)
                (subst (λ r. ReachableFrom Leads r (slice_index path k)) there.1
                (s.chain index k there.0 lt_k (λ g c le. never g ((kept g).1 (c, le)) (omega (arith, le, past)))))
          ];
          followed = λ i to lt has. elim (s.followed i to lt has) [
            | settled k ↦ settled k
            | joined j is never ↦ joined j is (λ g c. never g ((kept g).0 c).0)
            | waits c ↦ waits c
            | taken c ↦ joined index (subst (λ (p : Pending). known_of known p.to ≡ Open index) (contains_one e _ c) is) (λ g c le. ((kept g).0 c).1)
          ];
          left = λ k one at. let p = s.left k one at in
              record { from = p.from; leads = p.leads; within = p.within; of = λ g c. p.of g ((kept g).0 c).0 };
          bounded = let bounded = s.bounded in omega (arith, bounded, fewer);
        }

      -- it leads to a new node, which is entered, and edges to these targets are added
      module _ (within : e.to < nodes) (new : known_of known e.to ≡ New) (targets : List ℕ) (all : (n : ℕ) → Contains targets n ↔ Leads e.to n)
          (leads_within : (n : ℕ) → Leads e.to n → n < nodes) (few : length targets ≤ nodes) where
        abbrev entered_known : List Known
        entered_known = slice_set known e.to (Open (length path))

        abbrev longer : List ℕ
        longer = path ++ e.to ∷ []

        abbrev group : Group
        group = record { start = length path; pending = length pending }

        abbrev more_groups : List Group
        more_groups = groups ++ group ∷ []

        abbrev added : List Pending
        added = map (pending_from (length path)) targets

        own : known_of entered_known e.to ≡ Open (length path)
        own = get_or-set_same known e.to (Open (length path)) New (subst (λ n. e.to < n) (sym s.numbered.entries) within)

        kept : (r : ℕ) (k : Known) → (k ≡ New → ⊥) → known_of known r ≡ k → known_of entered_known r ≡ k
        kept r k not is = get_or-set_other known e.to r (Open (length path)) New (λ same. not (sym is ∙ ap (known_of known) same ∙ new)) ∙ is

        kept_open : (r i : ℕ) → known_of known r ≡ Open i → known_of entered_known r ≡ Open i
        kept_open r i is = kept r (Open i) (λ w. cc) is

        kept_settled : (r c : ℕ) → known_of known r ≡ Settled c → known_of entered_known r ≡ Settled c
        kept_settled r c is = kept r (Settled c) (λ w. cc) is

        settled_before : (r c : ℕ) → known_of entered_known r ≡ Settled c → known_of known r ≡ Settled c
        settled_before r c is = elim (get_or-set known e.to r (Open (length path)) New) [
          | inl same ↦ sym same ∙ is
          | inr put ↦ let w : Open (length path) ≡ Settled c = sym put.1 ∙ is in absurd (cc)
        ]

        at_old : (i : ℕ) → i < length path → slice_index longer i ≡ slice_index path i
        at_old i lt = get_or_append_left path (e.to ∷ []) 0 i lt

        at_own : slice_index longer (length path) ≡ e.to
        at_own = get_or_push path e.to 0 (length path) refl

        longer_by : length longer ≡ length path + 1
        longer_by = length_push path e.to

        up_to_path : (g : Group) → Contains more_groups g → (g.start ≤ length path) × (g.pending ≤ length pending)
        up_to_path g c = elim (Contains-push_cases groups group g c) [
          | inl old ↦ let b = s.inside g old in (omega (arith, b.0), b.1)
          | inr same ↦ subst (λ (h : Group). (h.start ≤ length path) × (h.pending ≤ length pending)) same (omega arith, omega arith)
        ]

        no_later : (i k : ℕ) → i < length path → IsNoLater groups i k → IsNoLater more_groups i k
        no_later i k lt never g c le = elim (Contains-push_cases groups group g c) [
          | inl old ↦ never g old le
          | inr same ↦ let past : length path ≤ i = subst (λ (h : Group). h.start ≤ i) (sym same) le in absurd (omega (arith, past, lt))
        ]

        longer_path : IsPath entered_known longer
        longer_path = record {
          positions = λ r i is. elim (get_or-set known e.to r (Open (length path)) New) [
            | inl same ↦ let old = s.on_path.positions r i (sym same ∙ is) in (omega (arith, old.0, longer_by), at_old i old.0 ∙ old.1)
            | inr put ↦
                let w : Open (length path) ≡ Open i = sym put.1 ∙ is in
                let at : length path ≡ i = cc in
                (omega (arith, at, longer_by), subst (λ n. slice_index longer n ≡ r) at (at_own ∙ sym put.0))
          ];
          opened = λ i lt. elim (cases_lt i (length path)) [
            | inl old ↦ subst (λ r. known_of entered_known r ≡ Open i) (sym (at_old i old)) (kept_open (slice_index path i) i (s.on_path.opened i old))
            | inr past ↦
                let at : i ≡ length path = omega (arith, past, lt, longer_by) in
                subst (λ n. known_of entered_known (slice_index longer n) ≡ Open n) (sym at) (subst (λ r. known_of entered_known r ≡ Open (length path)) (sym at_own) own)
          ];
        }

        chain : (i k : ℕ) → i < length longer → k < length longer → IsNoLater more_groups i k
            → ReachableFrom Leads (slice_index longer i) (slice_index longer k)
        chain i k lt_i lt_k never = elim (cases_lt i (length path)) [
          | inl old_i ↦ subst (λ r. ReachableFrom Leads r (slice_index longer k)) (sym (at_old i old_i)) (elim (cases_lt k (length path)) [
            | inl old_k ↦ subst (ReachableFrom Leads (slice_index path i)) (sym (at_old k old_k))
                (s.chain i k old_i old_k (λ g c. never g (Contains-append_left groups (group ∷ []) g c)))
            | inr past ↦
                let at : length path ≡ k = omega (arith, past, lt_k, longer_by) in
                subst (λ n. ReachableFrom Leads (slice_index path i) (slice_index longer n)) at
                (subst (ReachableFrom Leads (slice_index path i)) (sym at_own) (leads i old_i))
          ])
          | inr past ↦
              let at : i ≡ length path = omega (arith, past, lt_i, longer_by) in
              let le : length path ≤ k = never group (Contains-push groups group) (omega (arith, at)) in
              let same : i ≡ k = omega (arith, at, le, lt_k, longer_by) in
              subst (λ n. ReachableFrom Leads (slice_index longer i) (slice_index longer n)) same (reachable_itself Leads (slice_index longer i))
        ]

        followed : (i to : ℕ) → i < length longer → Leads (slice_index longer i) to → IsFollowed entered_known more_groups (pending ++ added) [] i to
        followed i to lt has = elim (cases_lt i (length path)) [
          | inl old ↦ elim (s.followed i to old (subst (λ r. Leads r to) (at_old i old) has)) [
            | settled h ↦ settled (h.0, kept_settled to h.0 h.1)
            | joined j is never ↦ joined j (kept_open to j is) (no_later i j old never)
            | waits c ↦ waits (Contains-append_left pending added _ c)
            | taken c ↦ joined (length path) (subst (λ (p : Pending). known_of entered_known p.to ≡ Open (length path)) (contains_one e _ c) own)
                (λ g c le. (up_to_path g c).0)
          ]
          | inr past ↦
              let at : length path ≡ i = omega (arith, past, lt, longer_by) in
              let here : Leads e.to to = subst (λ r. Leads r to) (ap (slice_index longer) (sym at) ∙ at_own) has in
              subst (λ n. IsFollowed entered_known more_groups (pending ++ added) [] n to) at
              (waits (Contains-append_right pending added _ (contains_mapped (pending_from (length path)) targets to ((all to).1 here))))
        ]

        left : (k : ℕ) (one : Pending) → slice_get (pending ++ added) k ≡ Some one → IsPending Leads nodes longer more_groups k one
        left k one at = elim (slice_get_cases pending added k one at) [
          | inl old ↦
              let p = s.left k one old in
              let lt = slice_get_within pending k one old in
              record {
                from = let f = p.from in omega (arith, f, longer_by);
                leads = subst (λ r. Leads r one.to) (sym (at_old one.from p.from)) p.leads;
                within = p.within;
                of = λ g c. elim (Contains-push_cases groups group g c) [
                  | inl before ↦ p.of g before
                  | inr same ↦ subst (λ (h : Group). (h.pending ≤ k) ↔ (h.start ≤ one.from)) same
                      ((λ le. absurd (omega (arith, le, lt))), (λ le. let f = p.from in absurd (omega (arith, le, f))))
                ];
              }
          | inr new ↦
              let w = contains_source (pending_from (length path)) targets one new.1 in
              subst (IsPending Leads nodes longer more_groups k) w.2 (record {
                from = omega (arith, longer_by);
                leads = subst (λ r. Leads r w.0) (sym at_own) ((all w.0).0 w.1);
                within = leads_within w.0 ((all w.0).0 w.1);
                of = λ g c. let b = up_to_path g c in ((λ le. b.0), (λ le. omega (arith, b.1, new.0)));
              })
        ]

        fewer : count_by is_new entered_known + 1 ≡ count_by is_new known
        fewer = omega (
          arith,
          sum_by-set (λ (k : Known). cond (is_new k) 1 0) known e.to (Open (length path)) New (subst (λ n. e.to < n) (sym s.numbered.entries) within),
          ap (λ (k : Known). cond {A = ℕ} (is_new k) 1 0) new,
        )

        pub entered : AreKnown Leads nodes entered_known longer more_groups (pending ++ added) count []
        entered = record {
          numbered = record {
            entries = length-set known e.to (Open (length path)) ∙ s.numbered.entries;
            below = λ r c is. s.numbered.below r c (settled_before r c is);
            some = λ c lt. let n = s.numbered.some c lt in (n.0, kept_settled n.0 c n.1);
            closed = λ a b h leads. let k = s.numbered.closed a b (h.0, settled_before a h.0 h.1) leads in (k.0, kept_settled b k.0 k.1);
            same = λ a b c is_a is_b. s.numbered.same a b c (settled_before a c is_a) (settled_before b c is_b);
            different = λ a b c d is_a is_b. s.numbered.different a b c d (settled_before a c is_a) (settled_before b d is_b);
            order = λ a b c d is_a leads is_b. s.numbered.order a b c d (settled_before a c is_a) leads (settled_before b d is_b);
          };
          on_path = longer_path;
          within = λ i lt. elim (cases_lt i (length path)) [
            | inl old ↦ subst (λ r. r < nodes) (sym (at_old i old)) (s.within i old)
            | inr past ↦
                let at : length path ≡ i = omega (arith, past, lt, longer_by) in
                subst (λ n. slice_index longer n < nodes) at (subst (λ r. r < nodes) (sym at_own) within)
          ];
          rising = rising_push groups group s.rising s.inside;
          inside = λ g c. let b = up_to_path g c in (omega (arith, b.0, longer_by), omega (arith, b.1, length-append pending added));
          first = λ more. elim (cases_lt 0 (length path)) [
            | inl some ↦ let f = s.first some in (f.0, Contains-append_left groups (group ∷ []) f.0 f.1, f.2)
            | inr none ↦ (group, Contains-push groups group, omega (arith, none))
          ];
          chain = chain;
          followed = followed;
          left = left;
          bounded = let bounded = s.bounded in omega (arith, bounded, fewer, length_push groups group);
        }

        pub less_after : left_to_look nodes entered_known more_groups (pending ++ added) ≤ left_to_look nodes known groups pending
        less_after =
            let product : (nodes + 2) * (count_by is_new entered_known + 1) ≡ (nodes + 2) * count_by is_new known = ap (λ n. (nodes + 2) * n) fewer in
            omega (arith, product, few, length-append pending added, length-map targets (pending_from (length path)), length_push groups group)

  module _ (s : AreKnown Leads nodes known path groups pending count []) (group : Group) (last : IsLast groups group) where
    here : Contains groups group
    here = subst (λ l. Contains l group) (sym last.is) (Contains-push last.rest group)

    pub inside_path : group.start < length path
    inside_path = (s.inside group here).0

    pub room : count < length known
    room = let bounded = s.bounded in let entries = s.numbered.entries in omega (arith, bounded, entries, some_group groups group last)

    -- a pending edge of the last group is taken
    module _ (rest : List Pending) (e : Pending) (is : pending ≡ rest ++ e ∷ []) (more : group.pending ≤ length rest) where
      one : IsPending Leads nodes path groups (length rest) e
      one = s.left (length rest) e (subst (λ l. slice_get l (length rest) ≡ Some e) (sym is) (slice_get_push rest e (length rest) refl))

      pub taken_within : e.to < nodes
      taken_within = one.within

      pub taken_leads : (i : ℕ) → i < length path → ReachableFrom Leads (slice_index path i) e.to
      taken_leads i lt = reachable_through Leads (slice_index path i) (slice_index path e.from) e.to
          (s.chain i e.from lt one.from (λ g c le. let b = up_to_last groups last.rest group last.is s.rising g c in (one.of g c).0 (omega (arith, b.1, more))))
          (reachable_by Leads (slice_index path e.from) e.to one.leads)

      pub taken_one : AreKnown Leads nodes known path groups rest count (e ∷ [])
      taken_one = record {
        numbered = s.numbered;
        on_path = s.on_path;
        within = s.within;
        rising = s.rising;
        inside = λ g c. let b = up_to_last groups last.rest group last.is s.rising g c in ((s.inside g c).0, omega (arith, b.1, more));
        first = s.first;
        chain = s.chain;
        followed = λ i to lt has. elim (s.followed i to lt has) [
          | settled k ↦ settled k
          | joined j is never ↦ joined j is never
          | waits c ↦ elim (Contains-push_cases rest e _ (subst (λ l. Contains l (record { from = i; to = to })) is c)) [
            | inl before ↦ waits before
            | inr same ↦ taken (subst (Contains (e ∷ [])) same (contains_first e []))
          ]
          | taken c ↦ absurd (contains_none _ c)
        ];
        left = λ k one there. s.left k one (subst (λ l. slice_get l k ≡ Some one) (sym is) (slice_get_left rest (e ∷ []) k one there));
        bounded = s.bounded;
      }

    -- the last group has no pending edge, and is settled
    module _ (done : length pending ≤ group.pending) (now : List Known) (entries : length now ≡ length known)
        (is : (r : ℕ) → known_of now r ≡ settle group.start count (known_of known r)) where
      abbrev start : ℕ
      start = group.start

      abbrev before : List ℕ
      before = take group.start path

      still_settled : (r other : ℕ) → known_of known r ≡ Settled other → known_of now r ≡ Settled other
      still_settled r other at = is r ∙ ap (settle start count) at

      still_open : (r i : ℕ) → known_of known r ≡ Open i → i < start → known_of now r ≡ Open i
      still_open r i at lt = is r ∙ ap (settle start count) at ∙ ap (λ b. cond b (Open i) (Settled count)) (lt-ltb i start lt)

      now_settled : (r i : ℕ) → known_of known r ≡ Open i → start ≤ i → known_of now r ≡ Settled count
      now_settled r i at le = is r ∙ ap (settle start count) at ∙ ap (λ b. cond b (Open i) (Settled count)) (le-ltb i start le)

      -- a node of the last group
      record WasLast (r other : ℕ) : Type 0 where
        index : ℕ
        is_open : known_of known r ≡ Open index
        from : start ≤ index
        same : count ≡ other

      was_settled : (r other : ℕ) → known_of now r ≡ Settled other → (known_of known r ≡ Settled other) ⊎ WasLast r other
      was_settled r other at = go (known_of known r) refl (sym (is r) ∙ at)
        where
          go : (k : Known) → known_of known r ≡ k → settle start count k ≡ Settled other → (known_of known r ≡ Settled other) ⊎ WasLast r other
          go New e w = absurd (cc)
          go (Settled c) e w = inl (e ∙ w)
          go (Open i) e w = elim (cases_lt i start) [
            | inl lt ↦ let v : Open i ≡ Settled other = sym (ap (λ b. cond b (Open i) (Settled count)) (lt-ltb i start lt)) ∙ w in absurd (cc)
            | inr le ↦
                let v : Settled count ≡ Settled other = sym (ap (λ b. cond b (Open i) (Settled count)) (le-ltb i start le)) ∙ w in
                inr (record { index = i; is_open = e; from = le; same = cc })
          ]

      was_open : (r i : ℕ) → known_of now r ≡ Open i → (known_of known r ≡ Open i) × (i < start)
      was_open r i at = go (known_of known r) refl (sym (is r) ∙ at)
        where
          go : (k : Known) → known_of known r ≡ k → settle start count k ≡ Open i → (known_of known r ≡ Open i) × (i < start)
          go New e w = absurd (cc)
          go (Settled c) e w = absurd (cc)
          go (Open j) e w = elim (cases_lt j start) [
            | inl lt ↦
                let v : Open j ≡ Open i = sym (ap (λ b. cond b (Open j) (Settled count)) (lt-ltb j start lt)) ∙ w in
                let same : j ≡ i = cc in
                (e ∙ v, omega (arith, same, lt))
            | inr le ↦ let v : Settled count ≡ Open i = sym (ap (λ b. cond b (Open j) (Settled count)) (le-ltb j start le)) ∙ w in absurd (cc)
          ]

      before_length : length before ≡ start
      before_length = length-take-le start path (omega (arith, inside_path))

      at : (i : ℕ) → i < start → slice_index before i ≡ slice_index path i
      at i lt = get_or-take start path i 0 lt

      -- edges of the last group lead to settled nodes
      complete : (i to : ℕ) → start ≤ i → i < length path → Leads (slice_index path i) to → IsSettled now to
      complete i to le lt has = elim (s.followed i to lt has) [
        | settled k ↦ (k.0, still_settled to k.0 k.1)
        | joined j at never ↦ (count, now_settled to j at (never group here le))
        | waits c ↦
            let k = contains_at pending _ c in
            let p = s.left k.0 _ k.1 in
            let from : group.pending ≤ k.0 = (p.of group here).1 le in
            let within = slice_get_within pending k.0 _ k.1 in
            absurd (omega (arith, from, within, done))
        | taken c ↦ absurd (contains_none _ c)
      ]

      -- nodes of the last group lead to each other
      joint : (a b other : ℕ) → WasLast a other → WasLast b other → ReachableFrom Leads a b
      joint a b other w v =
          let p = s.on_path.positions a w.index w.is_open in
          let q = s.on_path.positions b v.index v.is_open in
          subst (λ r. ReachableFrom Leads r b) p.1 (subst (ReachableFrom Leads (slice_index path w.index)) q.1
          (s.chain w.index v.index p.0 q.0 (λ g c le. let b = up_to_last groups last.rest group last.is s.rising g c in let from = v.from in omega (arith, b.0, from))))

      same : (a b other : ℕ) → known_of now a ≡ Settled other → known_of now b ≡ Settled other → ReachableFrom Leads a b
      same a b other is_a is_b = elim (was_settled a other is_a) [
        | inl old_a ↦ elim (was_settled b other is_b) [
          | inl old_b ↦ s.numbered.same a b other old_a old_b
          | inr new_b ↦ absurd (let b = s.numbered.below a other old_a in omega (arith, b, new_b.same))
        ]
        | inr new_a ↦ elim (was_settled b other is_b) [
          | inl old_b ↦ absurd (let b' = s.numbered.below b other old_b in omega (arith, b', new_a.same))
          | inr new_b ↦ joint a b other new_a new_b
        ]
      ]

      -- no settled node leads to a node of the last group
      not_back : (a b c d : ℕ) → known_of known a ≡ Settled c → WasLast b d → ReachableFrom Leads a b → ⊥
      not_back a b c d old w r =
          let k = settled_onward Leads known s.numbered.closed a b r (c, old) in
          let v : Open w.index ≡ Settled k.0 = sym w.is_open ∙ k.1 in
          absurd (cc)

      different : (a b c d : ℕ) → known_of now a ≡ Settled c → known_of now b ≡ Settled d → ReachableFrom Leads a b → ReachableFrom Leads b a → c ≡ d
      different a b c d is_a is_b there back = elim (was_settled a c is_a) [
        | inl old_a ↦ elim (was_settled b d is_b) [
          | inl old_b ↦ s.numbered.different a b c d old_a old_b there back
          | inr new_b ↦ absurd (not_back a b c d old_a new_b there)
        ]
        | inr new_a ↦ elim (was_settled b d is_b) [
          | inl old_b ↦ absurd (not_back b a d c old_b new_a back)
          | inr new_b ↦ sym new_a.same ∙ new_b.same
        ]
      ]

      -- no settled node leads to a later component
      order : (a b c d : ℕ) → known_of now a ≡ Settled c → Leads a b → known_of now b ≡ Settled d → d ≤ c
      order a b c d is_a leads is_b = elim (was_settled b d is_b) [
        | inl old_b ↦ elim (was_settled a c is_a) [
          | inl old_a ↦ s.numbered.order a b c d old_a leads old_b
          | inr new_a ↦ let b' = s.numbered.below b d old_b in omega (arith, b', new_a.same)
        ]
        | inr new_b ↦ elim (was_settled a c is_a) [
          | inl old_a ↦ absurd (not_back a b c d old_a new_b (reachable_by Leads a b leads))
          | inr new_a ↦ omega (arith, new_a.same, new_b.same)
        ]
      ]

      settle_new : (k : Known) → is_new (settle start count k) ≡ is_new k
      settle_new New = refl
      settle_new (Settled c) = refl
      settle_new (Open j) = elim (ltb j start) as (λ b. is_new (cond b (Open j) (Settled count)) ≡ false) [ true ↦ refl | false ↦ refl ]

      equal_counts : (xs ys : List Known) → length xs ≡ length ys → ((r : ℕ) → is_new (known_of xs r) ≡ is_new (known_of ys r))
          → count_by is_new xs ≡ count_by is_new ys
      equal_counts [] [] e h = refl
      equal_counts [] (y ∷ ys) e h = absurd (omega (arith, e))
      equal_counts (x ∷ xs) [] e h = absurd (omega (arith, e))
      equal_counts (x ∷ xs) (y ∷ ys) e h =
          let rest = equal_counts xs ys (omega (arith, e)) (λ r. h (suc r)) in
          let first : cond {A = ℕ} (is_new x) 1 0 ≡ cond (is_new y) 1 0 = ap (λ b. cond b 1 0) (h 0) in
          omega (arith, first, rest, sum_by-cons (λ (k : Known). cond (is_new k) 1 0) x xs, sum_by-cons (λ (k : Known). cond (is_new k) 1 0) y ys)

      same_count : count_by is_new now ≡ count_by is_new known
      same_count = equal_counts now known entries (λ r. ap is_new (is r) ∙ settle_new (known_of known r))

      one_more : count + 1 + length last.rest + count_by is_new now ≤ nodes
      one_more = let bounded = s.bounded in omega (arith, bounded, same_count, ap length last.is ∙ length_push last.rest group)

      pub settled_last : AreKnown Leads nodes now before last.rest pending (count + 1) []
      settled_last = record {
        numbered = record {
          entries = entries ∙ s.numbered.entries;
          below = λ r c here. elim (was_settled r c here) [
            | inl old ↦ let b = s.numbered.below r c old in omega (arith, b)
            | inr w ↦ let same = w.same in omega (arith, same)
          ];
          some = λ c lt. elim (cases_lt c count) [
            | inl less ↦ let n = s.numbered.some c less in (n.0, still_settled n.0 c n.1)
            | inr past ↦
                let this : count ≡ c = omega (arith, lt, past) in (
                  slice_index path start,
                  subst (λ n. known_of now (slice_index path start) ≡ Settled n) this
                      (now_settled (slice_index path start) start (s.on_path.opened start inside_path) (omega arith)),
                )
          ];
          closed = λ a b h leads. elim (was_settled a h.0 h.1) [
            | inl old ↦ let k = s.numbered.closed a b (h.0, old) leads in (k.0, still_settled b k.0 k.1)
            | inr w ↦ let p = s.on_path.positions a w.index w.is_open in
                complete w.index b w.from p.0 (subst (λ n. Leads n b) (sym p.1) leads)
          ];
          same = same;
          different = different;
          order = order;
        };
        on_path = record {
          positions = λ r i here. let w = was_open r i here in (omega (arith, w.1, before_length), at i w.1 ∙ (s.on_path.positions r i w.0).1);
          opened = λ i lt. let lower : i < start = omega (arith, lt, before_length) in
              subst (λ r. known_of now r ≡ Open i) (sym (at i lower)) (still_open (slice_index path i) i (s.on_path.opened i (omega (arith, lower, inside_path))) lower);
        };
        within = λ i lt. let lower : i < start = omega (arith, lt, before_length) in
            subst (λ r. r < nodes) (sym (at i lower)) (s.within i (omega (arith, lower, inside_path)));
        bounded = one_more;
        rising = rising_prefix groups last.rest (group ∷ []) last.is s.rising;
        inside = λ g c.
            let b = before_last groups last.rest group last.is s.rising g c in
            (omega (arith, b.0, before_length), (s.inside g (in_rest groups last.rest group last.is s.rising g c)).1);
        first = λ more. let f = s.first (omega (arith, inside_path)) in
            (f.0, not_last groups last.rest group last.is s.rising f.0 f.1 (omega (arith, more, before_length, f.2)), f.2);
        chain = λ i k lt_i lt_k never.
            let lower_i : i < start = omega (arith, lt_i, before_length) in
            let lower_k : k < start = omega (arith, lt_k, before_length) in
            subst (λ r. ReachableFrom Leads r (slice_index before k)) (sym (at i lower_i))
            (subst (ReachableFrom Leads (slice_index path i)) (sym (at k lower_k))
            (s.chain i k (omega (arith, lower_i, inside_path)) (omega (arith, lower_k, inside_path))
            (λ g c le. never g (not_last groups last.rest group last.is s.rising g c (omega (arith, le, lower_i))) le)));
        followed = λ i to lt has.
            let lower : i < start = omega (arith, lt, before_length) in
            elim (s.followed i to (omega (arith, lower, inside_path)) (subst (λ r. Leads r to) (at i lower) has)) [
              | settled k ↦ settled (k.0, still_settled to k.0 k.1)
              | joined j is never ↦ elim (cases_lt j start) [
                | inl lt ↦ joined j (still_open to j is lt) (λ g c. never g (in_rest groups last.rest group last.is s.rising g c))
                | inr le ↦ settled (count, now_settled to j is le)
              ]
              | waits c ↦ waits c
              | taken c ↦ taken c
            ];
        left = λ k one there.
            let p = s.left k one there in
            let lower : one.from < start = elim (cases_lt one.from start) [
              | inl lt ↦ lt
              | inr le ↦
                  let from : group.pending ≤ k = (p.of group here).1 le in
                  let within = slice_get_within pending k one there in
                  absurd (omega (arith, from, within, done))
            ] in
            record {
              from = omega (arith, lower, before_length);
              leads = subst (λ r. Leads r one.to) (sym (at one.from lower)) p.leads;
              within = p.within;
              of = λ g c. p.of g (in_rest groups last.rest group last.is s.rising g c);
            };
      }

      pub settled_less : left_to_look nodes now last.rest pending < left_to_look nodes known groups pending
      settled_less =
          let product : (nodes + 2) * count_by is_new now ≡ (nodes + 2) * count_by is_new known = ap (λ n. (nodes + 2) * n) same_count in
          omega (arith, product, ap length last.is ∙ length_push last.rest group)

-- each node of the path from the start on was settled, and no other node
pub settled_path : (old now : List Known) (path : List ℕ) (start end number : ℕ) → IsPath old path → length path ≤ end
    → ((i : ℕ) → start ≤ i → i < end → known_of now (slice_index path i) ≡ Settled number)
    → ((r : ℕ) → ((i : ℕ) → start ≤ i → i < end → known_of old r ≡ Open i → ⊥) → known_of now r ≡ known_of old r)
    → (r : ℕ) → known_of now r ≡ settle start number (known_of old r)
settled_path old now path start end number on_path whole done rest r = go (known_of old r) refl
  where
    go : (k : Known) → known_of old r ≡ k → known_of now r ≡ settle start number k
    go New e = rest r (λ i le lt is. let v : New ≡ Open i = sym e ∙ is in absurd (cc)) ∙ e
    go (Settled c) e = rest r (λ i le lt is. let v : Settled c ≡ Open i = sym e ∙ is in absurd (cc)) ∙ e
    go (Open i) e = elim (cases_lt i start) [
      | inl lt ↦
          rest r (λ j le lt' is. let v : Open i ≡ Open j = sym e ∙ is in let w : i ≡ j = cc in absurd (omega (arith, w, lt, le))) ∙ e
          ∙ sym (ap (λ b. cond b (Open i) (Settled number)) (lt-ltb i start lt))
      | inr le ↦
          let p = on_path.positions r i e in
          subst (λ n. known_of now n ≡ Settled number) p.1 (done i le (omega (arith, p.0, whole)))
          ∙ sym (ap (λ b. cond b (Open i) (Settled number)) (le-ltb i start le))
    ]

-- nothing is known
pub nothing_known : (Leads : ℕ → ℕ → Type 0) (nodes : ℕ) → AreKnown Leads nodes (replicate nodes New) [] [] [] 0 []
nothing_known Leads nodes = record {
  numbered = record {
    entries = length-replicate nodes New;
    below = λ r c h. absurd (not_settled r c h);
    some = λ c lt. absurd (omega (arith, lt));
    closed = λ a b h leads. absurd (not_settled a h.0 h.1);
    same = λ a b c is_a is_b. absurd (not_settled a c is_a);
    different = λ a b c d is_a is_b there back. absurd (not_settled a c is_a);
    order = λ a b c d is_a leads is_b. absurd (not_settled a c is_a);
  };
  on_path = record { positions = λ r i h. let v : New ≡ Open i = sym (none r) ∙ h in absurd (cc); opened = λ i lt. absurd (omega (arith, lt)) };
  within = λ i lt. absurd (omega (arith, lt));
  rising = λ i j g h at_i at_j less. let lt = slice_get_within [] i g at_i in absurd (omega (arith, lt));
  inside = λ g c. absurd (contains_none g c);
  first = λ more. absurd (omega (arith, more));
  chain = λ i k lt_i lt_k never. absurd (omega (arith, lt_i));
  followed = λ i to lt leads. absurd (omega (arith, lt));
  left = λ k one at. let lt = slice_get_within [] k one at in absurd (omega (arith, lt));
  bounded = let all = count_by-le-length is_new (replicate nodes New) in omega (arith, all, length-replicate nodes New);
}
  where
    none : (r : ℕ) → known_of (replicate nodes New) r ≡ New
    none r = get_or-replicate_default nodes r New

    not_settled : (r c : ℕ) → known_of (replicate nodes New) r ≡ Settled c → ⊥
    not_settled r c h = let v : New ≡ Settled c = sym (none r) ∙ h in absurd (cc)

-- a node that was entered is not new later
pub stays_entered : (old now : List Known) (node : ℕ) → NoneNew old now → is_new (known_of old node) ≡ false → is_new (known_of now node) ≡ false
stays_entered old now node none entered = go (known_of now node) refl
  where
    go : (k : Known) → known_of now node ≡ k → is_new (known_of now node) ≡ false
    go New e = let v : true ≡ false = sym (ap is_new (none node e)) ∙ entered in absurd (cc)
    go (Open i) e = ap is_new e
    go (Settled c) e = ap is_new e

-- without groups there is no path
module _ (Leads : ℕ → ℕ → Type 0) (nodes : ℕ) (known : List Known) (path : List ℕ) (groups : List Group) (pending : List Pending) (count : ℕ)
    (s : AreKnown Leads nodes known path groups pending count []) (none : groups ≡ []) where
  pub no_path : (i : ℕ) → i < length path → ⊥
  no_path i lt = let f = s.first (omega (arith, lt)) in contains_none f.0 (subst (λ l. Contains l f.0) none f.1)

  -- so any edge may be in hand
  pub hands : (e : Pending) → AreKnown Leads nodes known path groups pending count (e ∷ [])
  hands e = record {
    numbered = s.numbered;
    on_path = s.on_path;
    within = s.within;
    rising = s.rising;
    inside = s.inside;
    first = s.first;
    chain = s.chain;
    followed = λ i to lt leads. absurd (no_path i lt);
    left = s.left;
    bounded = s.bounded;
  }

  -- and all nodes that were entered are settled
  module _ (entered : (node : ℕ) → node < nodes → is_new (known_of known node) ≡ false) (numbers : List ℕ) (are : numbers ≡ map number_of known) where
    number : (n : ℕ) → n < nodes → known_of known n ≡ Settled (slice_index numbers n)
    number n lt = go (known_of known n) refl
      where
        go : (k : Known) → known_of known n ≡ k → known_of known n ≡ Settled (slice_index numbers n)
        go New e = let v : true ≡ false = sym (ap is_new e) ∙ entered n lt in absurd (cc)
        go (Open i) e = absurd (no_path i (s.on_path.positions n i e).0)
        go (Settled c) e = e
            ∙ ap Settled (sym (ap (λ l. slice_index l n) are ∙ get_or-map number_of known n New 0 (subst (λ m. n < m) (sym s.numbered.entries) lt) ∙ ap number_of e))

    pub numbered : length numbers ≡ nodes
    numbered = ap length are ∙ length-map known number_of ∙ s.numbered.entries

    pub numbers_below : (n : ℕ) → n < length numbers → slice_index numbers n < count
    numbers_below n lt = s.numbered.below n (slice_index numbers n) (number n (subst (λ m. n < m) numbered lt))

    inside : (n c : ℕ) → known_of known n ≡ Settled c → n < nodes
    inside n c h = elim (cases_lt n (length known)) [
      | inl lt ↦ subst (λ m. n < m) s.numbered.entries lt
      | inr past ↦ let v : New ≡ Settled c = sym (get_or_past known n New past) ∙ h in absurd (cc)
    ]

    same_number : (n c d : ℕ) → known_of known n ≡ Settled c → known_of known n ≡ Settled d → c ≡ d
    same_number n c d is_c is_d = ap number_of (sym is_c ∙ is_d)

    pub all_settled : (members : List (List ℕ)) → length members ≡ count
        → ((c : ℕ) → AreMembers numbers (length numbers) c (get_or members c [])) → AreComponents Leads nodes numbers members
    all_settled members long each = record {
      entries = numbered;
      within = λ n lt. subst (λ m. slice_index numbers n < m) (sym long) (s.numbered.below n (slice_index numbers n) (number n lt));
      each = λ c. subst (λ m. AreMembers numbers m c (get_or members c [])) numbered (each c);
      some = λ c lt.
          let n = s.numbered.some c (subst (λ m. c < m) long lt) in
          let within = inside n.0 c n.1 in
          (n.0, ((each c).all n.0).1 (subst (λ m. n.0 < m) (sym numbered) within, same_number n.0 (slice_index numbers n.0) c (number n.0 within) n.1));
      same = λ a b lt_a lt_b. (
        (λ h.
            let other : known_of known b ≡ Settled (slice_index numbers a) = number b lt_b ∙ ap Settled (sym h) in
            (s.numbered.same a b (slice_index numbers a) (number a lt_a) other, s.numbered.same b a (slice_index numbers a) other (number a lt_a))),
        (λ h. s.numbered.different a b (slice_index numbers a) (slice_index numbers b) (number a lt_a) (number b lt_b) h.0 h.1),
      );
      order = λ a b lt leads.
          let on = s.numbered.closed a b (slice_index numbers a, number a lt) leads in
          let within = inside b on.0 on.1 in
          (within, s.numbered.order a b (slice_index numbers a) (slice_index numbers b) (number a lt) leads (number b within));
    }
