-- Sides that a finder finds are those of an example, and it finds some.
use Rattle.std.proofs.Common.{◌≡◌, inl, inr, ℕ, Bool, true, false, IsTrue, List, None, Some, Contains, length, map, refl, sym, ap, subst, ◌∙◌, true≢false}
use Rattle.std.proofs.lemmas.Bool.{cases_Bool}
use Rattle.std.proofs.lemmas.List.{length-map}
use Rattle.cfgindex.specs.declared.idxnewtype.Symbol.{Symbol}
use Rattle.cfgrammar.proofs.Contained.{contains_first, contains_later}
use Rattle.cfgrammar.specs.Grammar.{Grammar, Sym}
use Rattle.cfgrammar.specs.Numbered.{core}
use Rattle.cfgrammar.specs.NumberedSymbols.{sym_of}
use Rattle.cfgrammar.specs.Openings.{nth_production}
use Rattle.cfgrammar.specs.WellNumbered.{IsWhole}
use Rattle.lr_conflicts.specs.Clashes.{IsIn, ShiftsBy, accepts, next, reduce, shift}
use Rattle.lr_conflicts.specs.Conflicts.{items_of, read_item}
use Rattle.lr_conflicts.specs.declared.clashes.Clash.{Clash}
use Rattle.lr_states.specs.Lookaheads.{IsLookahead}
use Rattle.lr_states.specs.Viable.{IsStateOf, IsUsed, IsValid}
use Rattle.lr_states.specs.declared.Item.{Item}
use Rattle.lr_conflicts.specs.declared.examples.Example.{Example}
use Rattle.lr_conflicts.specs.declared.examples.Side.{Side}
use Rattle.lr_conflicts.specs.declared.examples.finder.Finder.{Finder}
use Rattle.lr_conflicts.specs.Examples.{BeginsAt, IsExample, IsStartApart, Shows, prefix_of, rest_of}
use Rattle.lr_conflicts.specs.Inner.Clashing.{IsKnown}
use Rattle.lr_conflicts.specs.Inner.Finders.{FindsEither, FindsOnPrefix, FindsOnStates, FindsOther, setting_by}
use Rattle.lr_conflicts.specs.Inner.Tables.{along}
use Rattle.lr_conflicts.specs.Inner.Ways.{IsReached, item_node, run}
use Rattle.lr_conflicts.proofs.Along.{run_whole, runs_whole}
use Rattle.lr_conflicts.proofs.Derived.{prefix_symbols}
use Rattle.lr_conflicts.proofs.EnteredItems.{followed_reached, item_reached}
use Rattle.lr_conflicts.proofs.Places.{led_state, state_leads, step}
use Rattle.lr_conflicts.proofs.Sides.{next_begins, start_ends, start_rule}

module _ (f : Finder) (whole : IsWhole f.grammar.now) (known : IsKnown f.grammar.now f.states.now f.conflict.now) (clash : Clash)
    (has : IsIn f.grammar.now f.states.now f.conflict.now clash) where
  abbrev g : Grammar
  g = core f.grammar.now

  abbrev Used : ℕ → Type 0
  Used = IsUsed g

  abbrev items : List Item
  items = items_of f.states.now f.conflict.now.state

  abbrev t : ℕ
  t = f.conflict.now.token

  -- what the conflict says of the clash
  reduced_there : (p : ℕ) → Contains f.conflict.now.productions.items p → IsLookahead g Used items (read_item f.grammar.now p) t
  reduced_there p h = ((known.is.reduced p).0 h).reduces.comes

  production_there : IsLookahead g Used items (read_item f.grammar.now clash.production) t
  production_there = elim has [
    | shift shifted same shifts among by ↦ reduced_there clash.production among
    | reduce first rest is same none among other ↦
        reduced_there clash.production (subst (λ l. Contains l clash.production) (sym is) (contains_later first clash.production rest among))
  ]

  other_there : (IsTrue clash.shifts → ⊥) → IsLookahead g Used items clash.other t
  other_there not_on = elim has [
    | shift shifted same shifts among by ↦ absurd (not_on shifts)
    | reduce first rest is same none among other ↦ subst (λ i. IsLookahead g Used items i t) (sym other)
        (reduced_there first (subst (λ l. Contains l first) (sym is) (contains_first first rest)))
  ]

  shifted_there : IsTrue clash.shifts → Contains items clash.other
  shifted_there on = elim has [
    | shift shifted same shifts among by ↦ there by
    | reduce first rest is same none among other ↦ absurd (none on)
  ]
    where
      there : ShiftsBy f.grammar.now f.states.now f.conflict.now clash.other → Contains items clash.other
      there (next among at) = among
      there (accepts among end is) = subst (Contains items) (sym is) among

  token_same : clash.token ≡ t
  token_same = elim has [
    | shift shifted same shifts among by ↦ same
    | reduce first rest is same none among other ↦ same
  ]

  -- nodes that are reached
  states_reached : (item : Item) → IsLookahead g Used items item t
      → IsReached (setting_by f (step g whole.grammar Used f.states.now known.states known.gotos)) (item_node f.conflict.now.state item true)
  states_reached item l =
      followed_reached (setting_by f (step g whole.grammar Used f.states.now known.states known.gotos)) l.before l.after item l.spine l.used l.read f.conflict.now.state
      (subst (λ p. run (step g whole.grammar Used f.states.now known.states known.gotos) 0 p ≡ Some f.conflict.now.state) l.is
      (state_leads g whole.grammar Used f.states.now known.states known.gotos l.prefix f.conflict.now.state known.is.entered.within
      (record { item = item; is = record { before = l.before; after = l.after; spine = l.spine; used = l.used; read = l.read; is = l.is } }) l.state)) l.comes

  prefix_reached : (list : List Sym) (q : ℕ) (item : Item) → length list ≡ q → IsValid g Used list item → IsReached (setting_by f (along list)) (item_node q item false)
  prefix_reached list q item long v =
      item_reached (setting_by f (along list)) v.before v.after item v.spine v.used v.read q (subst (λ p. run (along list) 0 p ≡ Some q) v.is (runs_whole list ∙ ap Some long))

  pub none_reduced : FindsOnStates f (read_item f.grammar.now clash.production) None → ⊥
  none_reduced none = none (states_reached (read_item f.grammar.now clash.production) production_there)

  pub none_other : (list : List (Symbol ℕ)) → IsStateOf g Used (map (sym_of (λ s. s)) list) items → FindsOther f clash list None → ⊥
  none_other list state w = elim (cases_Bool clash.shifts) [
    | inl on ↦ w.shifted on (prefix_reached (map (sym_of (λ s. s)) list) (length list) clash.other (length-map list (sym_of (λ s. s)))
        ((state clash.other).0 (shifted_there on)))
    | inr off ↦
        let not_on : IsTrue clash.shifts → ⊥ = λ on. true≢false (sym on ∙ off) in
        w.reduced not_on (states_reached clash.other (other_there not_on))
  ]

  -- what is found
  pub states_shown : (item : Item) (side : Side) → FindsOnStates f item (Some side) → Shows f.grammar.now f.states.now f.conflict.now item side
  states_shown item side w = record {
    leads = led_state g whole.grammar Used f.states.now known.states known.gotos (prefix_of side) f.conflict.now.state known.is.entered.within
        (prefix_symbols g Used whole.grammar item side w.is) w.leads;
    is = w.is;
  }

  prefix_is : (list : List (Symbol ℕ)) (item : Item) (followed : Bool) (side : Side) → FindsOnPrefix f list item followed (Some side) → prefix_of side ≡ map (sym_of (λ s. s)) list
  prefix_is list item followed side w = run_whole (map (sym_of (λ s. s)) list) (prefix_of side) (w.leads ∙ ap Some (sym (length-map list (sym_of (λ s. s)))))

  prefix_shown : (list : List (Symbol ℕ)) (item : Item) (followed : Bool) (side : Side) → IsStateOf g Used (map (sym_of (λ s. s)) list) items
      → FindsOnPrefix f list item followed (Some side) → Shows f.grammar.now f.states.now f.conflict.now item side
  prefix_shown list item followed side state w = record { leads = subst (λ l. IsStateOf g Used l items) (sym (prefix_is list item followed side w)) state; is = w.is }

  module _ (list : List (Symbol ℕ)) (state : IsStateOf g Used (map (sym_of (λ s. s)) list) items) (side : Side) (w : FindsOther f clash list (Some side)) where
    other_shown : Shows f.grammar.now f.states.now f.conflict.now clash.other side
    other_shown = elim (cases_Bool clash.shifts) [
      | inl on ↦ prefix_shown list clash.other false side state (w.shifted on)
      | inr off ↦ elim (w.reduced (λ on. true≢false (sym on ∙ off))) [
        | inl one ↦ prefix_shown list clash.other true side state one
        | inr two ↦ states_shown clash.other side two
      ]
    ]

    shifted_comes : ShiftsBy f.grammar.now f.states.now f.conflict.now clash.other → (clash.other ≡ read_item f.grammar.now f.grammar.now.start_production → IsStartApart g)
        → BeginsAt g t (rest_of side)
    shifted_comes (next among at) apart = next_begins g Used clash.other side other_shown.is t at
    shifted_comes (accepts among end is) apart = start_ends g Used clash.other side other_shown.is t (apart is)
        (ap (λ (i : Item). (nth_production g i.production).rule) is ∙ start_rule f.grammar.now whole)
        (subst (λ (i : Item). i.read ≡ length (nth_production g i.production).symbols) (sym is) refl) end

    reduced_comes : (first : ℕ) → clash.other ≡ read_item f.grammar.now first → FindsEither f list clash.other (Some side) → BeginsAt g t (rest_of side)
    reduced_comes first is either =
        let end : clash.other.read ≡ length (nth_production g clash.other.production).symbols =
        subst (λ (i : Item). i.read ≡ length (nth_production g i.production).symbols) (sym is) refl in
        elim either [
          | inl one ↦ one.follows refl end
          | inr two ↦ two.follows refl end
        ]

    other_comes : (clash.other ≡ read_item f.grammar.now f.grammar.now.start_production → IsStartApart g) → BeginsAt g t (rest_of side)
    other_comes apart = elim has [
      | shift shifted same shifts among by ↦ shifted_comes by apart
      | reduce first rest is same none among other ↦ reduced_comes first other (w.reduced none)
    ]

  pub example_shown : (example : Example) → FindsOnStates f (read_item f.grammar.now clash.production) (Some example.reduced)
      → FindsOther f clash example.reduced.prefix.items (Some example.other) → IsExample f.grammar.now f.states.now f.conflict.now clash example
  example_shown example w v =
      let list = example.reduced.prefix.items in
      let one = states_shown (read_item f.grammar.now clash.production) example.reduced w in
      record {
        reduced = one;
        comes = subst (λ u. BeginsAt g u (rest_of example.reduced)) (sym token_same) (w.follows refl refl);
        other = other_shown list one.leads example.other v;
        comes_too = λ apart. subst (λ u. BeginsAt g u (rest_of example.other)) (sym token_same) (other_comes list one.leads example.other v apart);
        together = λ on. prefix_is list clash.other false example.other (v.shifted on);
      }
