use Rattle.std.proofs.Common.{◌≡◌, ◌<◌, ℕ, [], Global, List, Vec, Contains, ap, get_or, length, map, subst, sym, ◌∙◌}
use Rattle.std.proofs.lemmas.List.{get_or-map, length-map}
use Rattle.cfgrammar.specs.Numbered.{core, production_core}
use Rattle.lr_states.specs.declared.Item.{Item}
use Rattle.lr_states.specs.Viable.{IsUsed}
use Rattle.lr_states.specs.Inner.Closure.{IsClosure, items_after}
use Rattle.lr_states.specs.Inner.Kernels.{Adds, AreTargets, IsAmong}
use Rattle.lr_states.specs.Inner.Steps.{items_by}
use Rattle.lr_states.proofs.Closed.{closure_within}
use Rattle.lr_states.proofs.kernels.visit.Goals as goal

pub closure-requires-clause-within : goal.closure-requires-clause-within
closure-requires-clause-within c =
    let keys = c.args.kernels.now.keys in
    let n = c.args.number in
    let key = c.index-as_slice-number.result in
    let at : key ≡ get_or keys n key = c.index-as_slice-number.is ∙ ap (λ l. get_or l n key) c.as_slice.ensures.keys in
    let same : c.deref.result.now ≡ get_or (map (λ (v : Vec Item Global). v.items) keys) n [] =
    c.deref.ensures.value ∙ ap (λ (v : Vec Item Global). v.items) at ∙ sym (get_or-map (λ (v : Vec Item Global). v.items) keys n key [] c.requires.number) in
    λ item h. c.requires.within item (subst (λ l. Contains l item) same h)

pub successors-requires : goal.successors-requires
successors-requires c =
    let keys = c.args.kernels.now.keys in
    let n = c.args.number in
    let key = c.index-as_slice-number.result in
    let at : key ≡ get_or keys n key = c.index-as_slice-number.is ∙ ap (λ l. get_or l n key) c.as_slice.ensures.keys in
    let same : c.deref.result.now ≡ get_or (map (λ (v : Vec Item Global). v.items) keys) n [] =
    c.deref.ensures.value ∙ ap (λ (v : Vec Item Global). v.items) at ∙ sym (get_or-map (λ (v : Vec Item Global). v.items) keys n key [] c.requires.number) in
    closure_within (core c.args.used.now.grammar.now) (IsUsed (core c.args.used.now.grammar.now)) c.deref.result.now c.deref-2.result.now
    (subst (IsClosure (core c.args.used.now.grammar.now) (IsUsed (core c.args.used.now.grammar.now)) c.deref.result.now) (sym c.deref-2.ensures.value) c.in_ok-items.ensures)
    (length c.args.used.now.grammar.now.productions) (λ item h. c.requires.within item (subst (λ l. Contains l item) same h))
    (λ p used. subst (λ m. p < m) (length-map c.args.used.now.grammar.now.productions production_core) used.within)

pub returns : goal.returns
returns c =
    let g = core c.args.used.now.grammar.now in
    let keys = c.args.kernels.now.keys in
    let n = c.args.number in
    let key = c.index-as_slice-number.result in
    let items = c.in_ok-items.items.items in
    let at : key ≡ get_or keys n key = c.index-as_slice-number.is ∙ ap (λ l. get_or l n key) c.as_slice.ensures.keys in
    let same : c.deref.result.now ≡ get_or (map (λ (v : Vec Item Global). v.items) keys) n [] =
    c.deref.ensures.value ∙ ap (λ (v : Vec Item Global). v.items) at ∙ sym (get_or-map (λ (v : Vec Item Global). v.items) keys n key [] c.requires.number) in
    let old = map (λ (v : Vec Item Global). v.items) keys in
    let new = map (λ (v : Vec Item Global). v.items) c.add_kernels.new.kernels.keys in
    let lists : items_by c.deref-3.result.now ≡ items_after g items =
    λ i. λ node. (ap (λ l. items_by l node) c.deref-3.ensures.value ∙ c.in_ok-steps.ensures.steps node ∙ ap (λ l. items_after g l node) c.deref-2.ensures.value) i in
    record {
      closure = subst (λ l. IsClosure g (IsUsed (core c.args.used.now.grammar.now)) l items) same c.in_ok-items.ensures;
      adds = subst (λ (l : ℕ → List Item). Adds (IsAmong l) old new) lists c.in_ok-targets.ensures.adds;
      targets = subst (λ (l : ℕ → List Item). AreTargets l new c.in_ok-targets.targets.items) lists c.in_ok-targets.ensures.targets;
    }
