-- Whatever a derivation shows is reached.
use Rattle.std.proofs.Common.{◌≡◌, ℕ, zero, suc, ◌+◌, ◌<◌, ◌≤◌, Bool, true, false, IsTrue, List, [], ◌∷◌, ◌++◌, Some, slice_get, drop, length, take, append_assoc, length-append, add-one, refl, sym, ap, subst, ◌∙◌, arith}
use Rattle.std.proofs.lemmas.List.{take_at, take_more, drop_at, length_push}
use Rattle.std.proofs.lemmas.Option.{get_or_from_slice_get}
use Rattle.search.specs.Reachable.{led, seed}
use Rattle.cfgrammar.specs.Grammar.{Sym, Rule, Token}
use Rattle.cfgrammar.specs.Derivation.{Derives}
use Rattle.cfgrammar.specs.First.{Nullable}
use Rattle.cfgrammar.specs.FirstSets.{Begins, IsClosed}
use Rattle.cfgrammar.specs.Openings.{nth_production}
use Rattle.cfgrammar.proofs.Elements.{element_at}
use Rattle.derivation.proofs.Firsts.{begins_derived, derived_closed}
use Rattle.lr_states.specs.declared.Item.{Item}
use Rattle.lr_states.specs.Viable.{HasNext, Spine, inner, item_at, start}
use Rattle.lr_states.proofs.Spines.{slice_at}
use Rattle.lr_states.specs.Lookaheads.{HasUsed, MayBegin, Shows, begins, ends}
use Rattle.lr_states.proofs.Firsts.{SymbolBegins, begins_in, begins_none, begins_shows, first, second}
use Rattle.lr_conflicts.specs.declared.examples.nodes.Node.{Node}
use Rattle.lr_conflicts.specs.Inner.Ways.{ByNext, ByShown, IsReached, Setting, back_of, item_node, opened_node, run}
use Rattle.lr_conflicts.specs.Inner.Ways as ways
use Rattle.lr_conflicts.proofs.Runs.{one_run, run_split}

-- what comes after the symbol at the end of a list
rest_at : (read rest : List Sym) (x : Sym) → drop (length read + 1) (read ++ x ∷ rest) ≡ rest
rest_at read rest x = ap (drop (length read + 1)) (sym (append_assoc read (x ∷ []) rest)) ∙ drop_at (read ++ x ∷ []) rest (length read + 1) (length_push read x)

module _ (S : Setting) where
  abbrev P : ℕ → List Sym → Type 0
  P = HasUsed S.grammar S.Used

  abbrev symbols : ℕ → List Sym
  symbols p = (nth_production S.grammar p).symbols

  abbrev R : Node → Type 0
  R = IsReached S

  -- each used production of the rule is reached
  abbrev Entered : ℕ → ℕ → Bool → Type 0
  Entered q rule followed = (p : ℕ) → S.Used p → (nth_production S.grammar p).rule ≡ rule → R (item_node q (item_at p 0) followed)

  entered_by : (q rule : ℕ) (followed : Bool) → ((n : Node) → ways.Enters S q rule followed n → R n) → Entered q rule followed
  entered_by q rule followed all p used own = all (item_node q (item_at p 0) followed) (record { production = p; used = used; owner = own; is = refl })

  -- a symbol that is shown
  by_shows : (q rule : ℕ) (list : List Sym) (x : Sym) (n : Node) → Shows S.grammar S.Used list x → ByNext S q rule (Some x) n → ByShown S q rule list n
  by_shows q rule list x n s by = record {
    index = length s.before;
    nullable = subst (λ l. Derives P l []) (sym (ap (take (length s.before)) s.is ∙ take_at s.before (x ∷ s.after) (length s.before) refl)) s.nullable;
    by = subst (λ o. ByNext S q rule o n) (sym (ap (λ l. slice_get l (length s.before)) s.is ∙ slice_at s.before s.after x)) by;
  }

  -- a rule is known by where it leads, if it begins with the token
  abbrev Leads : ℕ → ℕ → Type 0
  Leads r u = u ≡ S.token → (q rule : ℕ) → R (opened_node q rule r) → Entered q rule true

  -- by a symbol that is shown and begins with the token
  shown_entered : (q rule : ℕ) (list : List Sym) (x : Sym) (u : ℕ) → u ≡ S.token → Shows S.grammar S.Used list x → SymbolBegins Leads x u
      → ((n : Node) → ByShown S q rule list n → R n) → Entered q rule true
  shown_entered q rule list (Rule r) u same s leads all = leads same q rule (all (opened_node q rule r) (by_shows q rule list (Rule r) (opened_node q rule r) s refl))
  shown_entered q rule list (Token v) u same s is all = entered_by q rule true
      (λ n h. all n (by_shows q rule list (Token v) n s (is ∙ same, h)))

  list_entered : (q rule : ℕ) (list : List Sym) (u : ℕ) → u ≡ S.token → Begins (Nullable P) Leads list u → ((n : Node) → ByShown S q rule list n → R n) → Entered q rule true
  list_entered q rule list u same h all = let w = begins_shows S.grammar S.Used Leads list u h in shown_entered q rule list w.symbol u same w.shows w.begins all

  leads_closed : IsClosed P (Nullable P) Leads
  leads_closed r list has = record {
    empty = (derived_closed P r list has).empty;
    first = λ u h same q rule reached. list_entered q rule list u same h
        (λ n by. led reached (
        (record { production = has.index; used = has.used; owner = has.owner; shows = subst (λ l. ByShown S q rule l n) (sym has.is) by })));
  }

  -- the rule that is next in an item
  module _ (q : ℕ) (item : Item) (followed : Bool) (reached : R (item_node q item followed)) (rule : ℕ) (at : HasNext S.grammar item (Rule rule)) where
    next_entered : Entered q rule false
    next_entered = entered_by q rule false (λ n h. led reached (ways.opens rule at (ways.enters h)))

    first_entered : (rest : List Sym) → Derives P (back_of S item) (Token S.token ∷ rest) → Entered q rule true
    first_entered rest d = list_entered q rule (back_of S item) S.token refl (begins_derived P (Nullable P) Leads leads_closed S.token d refl)
        (λ n by. led reached (ways.opens rule at (ways.shows by)))

    last_entered : IsTrue followed → Derives P (back_of S item) [] → Entered q rule true
    last_entered follows d = entered_by q rule true (λ n h. led reached (ways.opens rule at (ways.ends follows d h)))

  -- the items of a production while its symbols are read
  walk : (m p : ℕ) (followed : Bool) → R (item_node m (item_at p 0) followed) → (i : ℕ) → i ≤ length (symbols p) → (q : ℕ) → run S.step m (take i (symbols p)) ≡ Some q
      → R (item_node q (item_at p i) followed)
  walk m p followed reached zero most q leads = let same : m ≡ q = cc in subst (λ r. R (item_node r (item_at p 0) followed)) same reached
  walk m p followed reached (suc i) most q leads =
      let within : i < length (symbols p) = omega (arith, most) in
      let (x, at) = element_at (symbols p) i within in
      let more : take (suc i) (symbols p) ≡ take i (symbols p) ++ x ∷ [] =
      ap (λ n. take n (symbols p)) (sym (add-one i)) ∙ take_more (symbols p) i x within ∙ ap (λ y. take i (symbols p) ++ y ∷ []) (get_or_from_slice_get (symbols p) i x x at) in
      let w = run_split S.step m q (take i (symbols p)) (x ∷ []) (subst (λ l. run S.step m l ≡ Some q) more leads) in
      subst (λ n. R (item_node q (item_at p n) followed)) (add-one i)
      (led (walk m p followed reached i (omega (arith, most)) w.middle w.first)
      (ways.reads x at
      (record { place = q; leads = one_run S.step w.middle q x w.second; is = refl })))

  -- the rule of a spine, and if the token may come next, with it
  pub record IsEntered (q rule : ℕ) (after : List Sym) : Type 0 where
    pub any : Entered q rule false
    pub followed : MayBegin S.grammar S.Used after S.token → Entered q rule true

  start_entered : (q : ℕ) → 0 ≡ q → IsEntered q 0 []
  start_entered q same = subst (λ r. IsEntered r 0 []) same (record {
    any = entered_by 0 0 false (λ n h. seed (ways.any h));
    followed = λ comes. elim comes [
      | begins rest d ↦ absurd (begins_none S.grammar S.Used S.token rest d)
      | ends d is ↦ entered_by 0 0 true (λ n h. seed (ways.last is h))
    ];
  })

  -- in the middle of a production
  inner_entered : (m q owner p rule : ℕ) (read rest after : List Sym) → IsEntered m owner after → S.Used p → (nth_production S.grammar p).rule ≡ owner → symbols p ≡ read ++ Rule rule ∷ rest
      → run S.step m read ≡ Some q → IsEntered q rule (rest ++ after)
  inner_entered m q owner p rule read rest after outer used own split leads =
      let i = length read in
      let most : i ≤ length (symbols p) = let long = ap length split in let parts = length-append read (Rule rule ∷ rest) in omega (arith, long, parts) in
      let front : take i (symbols p) ≡ read = ap (take i) split ∙ take_at read (Rule rule ∷ rest) i refl in
      let at : HasNext S.grammar (item_at p i) (Rule rule) = ap (λ l. slice_get l i) split ∙ slice_at read rest (Rule rule) in
      let back : back_of S (item_at p i) ≡ rest = ap (drop (i + 1)) split ∙ rest_at read rest (Rule rule) in
      let there : (followed : Bool) → Entered m owner followed → R (item_node q (item_at p i) followed) =
      λ followed all. walk m p followed (all p used own) i most q (subst (λ l. run S.step m l ≡ Some q) (sym front) leads) in
      record {
        any = next_entered q (item_at p i) false (there false outer.any) rule at;
        followed = λ comes. elim (begins_in S.grammar S.Used rest after S.token comes) [
          | first more d ↦ first_entered q (item_at p i) false (there false outer.any) rule at more (subst (λ l. Derives P l (Token S.token ∷ more)) (sym back) d)
          | second nullable later ↦ last_entered q (item_at p i) true (there true (outer.followed later)) rule at refl (subst (λ l. Derives P l []) (sym back) nullable)
        ];
      }

  spine_entered : {before after : List Sym} {rule : ℕ} → Spine S.grammar S.Used before rule after → (q : ℕ) → run S.step 0 before ≡ Some q → IsEntered q rule after
  spine_entered start q leads = start_entered q (cc)
  spine_entered (inner {before} {after} {owner} spine p used own read rest rule split) q leads =
      let w = run_split S.step 0 q before read leads in
      inner_entered w.middle q owner p rule read rest after (spine_entered spine w.middle w.first) used own split w.second

  -- an item that is valid for a prefix along which places lead
  module _ (before after : List Sym) (item : Item) (spine : Spine S.grammar S.Used before (nth_production S.grammar item.production).rule after) (used : S.Used item.production)
      (most : item.read ≤ length (symbols item.production)) (q : ℕ) (leads : run S.step 0 (before ++ take item.read (symbols item.production)) ≡ Some q) where
    pub item_reached : R (item_node q item false)
    item_reached =
        let w = run_split S.step 0 q before (take item.read (symbols item.production)) leads in
        walk w.middle item.production false ((spine_entered spine w.middle w.first).any item.production used refl) item.read most q w.second

    pub followed_reached : MayBegin S.grammar S.Used after S.token → R (item_node q item true)
    followed_reached comes =
        let w = run_split S.step 0 q before (take item.read (symbols item.production)) leads in
        walk w.middle item.production true ((spine_entered spine w.middle w.first).followed comes item.production used refl) item.read most q w.second
