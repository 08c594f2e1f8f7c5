use Rattle.std.proofs.Common.{◌≡◌, ◌+◌, ◌<◌, ◌≤◌, List, [], ◌∷◌, Global, Vec, ap, arith, get_or, length, map, refl, subst, sym, ◌∙◌, true≢false}
use Rattle.std.proofs.lemmas.List.{length-map, length_push, map_push}
use Rattle.std.proofs.lemmas.Slice.Eq.{slice_eq-Decides}
use Rattle.cfgrammar.specs.Numbered.{core, production_core}
use Rattle.lr_states.specs.declared.Item.{Item}
use Rattle.lr_states.specs.declared.kernels.Target.{Target}
use Rattle.lr_states.specs.declared.kernels.Visited.{Visited}
use Rattle.lr_states.specs.Automaton.{AreGotos, HaveTargets}
use Rattle.lr_states.specs.Inner.Kernels.{AreGoing, IsAmong, automaton_of}
use Rattle.lr_states.specs.Inner.Closure.{IsClosure, items_after}
use Rattle.lr_states.specs.Viable.{AreStates, IsUsed}
use Rattle.lr_states.proofs.Added.{going_more, going_none, items_Decide, key_first, keys_apart, same_keys}
use Rattle.lr_states.proofs.Alike.{none_gotos, none_targets, none_viable}
use Rattle.lr_states.proofs.Explored.{AreExplored, explored_first, explored_gotos, explored_more, explored_states, explored_targets}
use Rattle.lr_states.proofs.kernels.explore.Goals as goal
use Rattle.lr_states.proofs.kernels.explore.Goals.{else-loop-number-test, then-loop-number-test+then-number-len}

abbrev shown : Visited → List Item
shown v = v.items.items

abbrev led : Visited → List Target
led v = v.targets.items

pub returns-then-not-viable : goal.returns-then-not-viable
returns-then-not-viable c =
    let g = core c.args.used.now.grammar.now in
    let none = none_viable g (IsUsed g) (λ viable. true≢false (sym (c.in_ok-viable.ensures.1 viable) ∙ c.if-not-viable.true)) in
    let empty = sym c.new.ensures.items in
    record {
      states = subst (λ (l : List Visited). AreStates g (IsUsed g) (map shown l)) empty none;
      gotos = subst (λ (l : List Visited). AreGotos g (IsUsed g) (automaton_of g.rules l)) empty (none_gotos g (IsUsed g) g.rules []);
      targets = subst (λ (l : List Visited). HaveTargets g (automaton_of g.rules l)) empty (none_targets g);
    }

pub loop-number-init : goal.loop-number-init
loop-number-init c =
    let g = core c.args.used.now.grammar.now in
    let used = IsUsed g in
    let kernels = map (λ (v : Vec Item Global). v.items) c.insert.new.self.keys in
    let one : kernels ≡ [] ∷ [] =
    key_first (λ (v : Vec Item Global). v.items) same_keys c.new-kernels.result.keys c.new-2.result c.new-kernels.ensures.empty c.insert.new.self.keys c.in_ok-insert.ensures.keys
    ∙ ap (λ (l : List Item). l ∷ []) c.new-2.ensures.items in
    record {
      count = ap length c.new-states.ensures.items;
      explored = subst (λ (l : List Visited). AreExplored g used kernels (map shown l)) (sym c.new-states.ensures.items)
          (explored_first g used kernels one (c.in_ok-viable.ensures.0 c.if-not-viable.false));
      going = subst (λ (l : List Visited). AreGoing g kernels (map shown l) (map led l)) (sym c.new-states.ensures.items) (going_none g kernels);
    }

pub loop-number-preserved : goal.loop-number-preserved
loop-number-preserved c =
    let g = core c.args.used.now.grammar.now in
    let used = IsUsed g in
    let kernels = map (λ (v : Vec Item Global). v.items) c.loop-number.kernels.keys in
    let new = map (λ (v : Vec Item Global). v.items) c.visit.new.kernels.keys in
    let states = map shown c.loop-number.states.items in
    let items = c.in_ok-visit.field-0.items.items in
    let long = length-map c.loop-number.kernels.keys (λ (v : Vec Item Global). v.items) in
    let wide = length-map c.loop-number.states.items shown in
    let here : c.loop-number.number ≡ length states = omega (arith, wide, c.loop-number.invariant.count) in
    let room : length states < length kernels = omega (arith, here, long, c.len.ensures.len, c.if-number-len.false) in
    record {
      count = ap length c.in_ok-push.ensures.items ∙ length_push c.loop-number.states.items c.in_ok-visit.field-0 ∙ ap (λ n. n + 1) c.loop-number.invariant.count;
      explored = explored_more g used c.invariant_holds.ensures.whole.grammar kernels states c.loop-number.invariant.explored items new
          (map shown c.push.new.self.items) room
          (subst (λ n. IsClosure g used (get_or kernels n []) items) here c.in_ok-visit.ensures.closure) c.in_ok-visit.ensures.adds
          (ap (map shown) c.in_ok-push.ensures.items ∙ map_push shown c.loop-number.states.items c.in_ok-visit.field-0);
      going = going_more g (IsAmong (items_after g items)) kernels new states (map shown c.push.new.self.items) (map led c.loop-number.states.items) (map led c.push.new.self.items)
          items c.in_ok-visit.field-0.targets.items c.loop-number.invariant.going c.in_ok-visit.ensures.adds c.in_ok-visit.ensures.targets
          (ap (map shown) c.in_ok-push.ensures.items ∙ map_push shown c.loop-number.states.items c.in_ok-visit.field-0)
          (ap (map led) c.in_ok-push.ensures.items ∙ map_push led c.loop-number.states.items c.in_ok-visit.field-0);
    }

pub visit-requires-clause-within : goal.visit-requires-clause-within
visit-requires-clause-within c =
    let keys = c.loop-number.kernels.keys in
    let long = length-map keys (λ (v : Vec Item Global). v.items) in
    let within : c.loop-number.number < length (map (λ (v : Vec Item Global). v.items) keys) = omega (arith, long, c.len.ensures.len, c.if-number-len.false) in
    λ item h. subst (λ m. item.production < m) (length-map c.args.used.now.grammar.now.productions production_core)
    (((c.loop-number.invariant.explored.each c.loop-number.number within).is.all item).0 h).1.used.within

pub returns : goal.returns
returns c =
    let g = core c.args.used.now.grammar.now in
    let used = IsUsed g in
    let keys = c.loop-number.kernels.keys in
    let kernels = map (λ (v : Vec Item Global). v.items) keys in
    let states = map shown c.loop-number.states.items in
    let long = length-map keys (λ (v : Vec Item Global). v.items) in
    let wide = length-map c.loop-number.states.items shown in
    let count = c.loop-number.invariant.count in
    let done : length kernels ≤ length states = elim c.loop-number-test.branch [
      | else-loop-number-test w ↦ omega (arith, long, wide, count, c.len-count.ensures.len, c.len-count.ensures.small, w.loop-number-test.false)
      | then-loop-number-test+then-number-len w ↦ omega (arith, long, wide, count, w.len.ensures.len, w.if-number-len.true)
    ] in
    let apart = keys_apart (λ (v : Vec Item Global). v.items) same_keys keys (λ x y. slice_eq-Decides items_Decide x.items y.items _ refl) c.len-count.ensures.unique in
    record {
      states = explored_states g used c.invariant_holds.ensures.whole.grammar kernels states c.loop-number.invariant.explored done _ c.loop-number.invariant.going apart;
      gotos = explored_gotos g used c.invariant_holds.ensures.whole.grammar kernels states c.loop-number.invariant.explored done _ c.loop-number.invariant.going;
      targets = explored_targets g c.invariant_holds.ensures.whole.grammar kernels states (map led c.loop-number.states.items) c.loop-number.invariant.going;
    }
