use Rattle.std.proofs.Common.{◌≡◌, ◌+◌, Some, None, arith, get_or, map, option_map, slice_get, refl, sym, ap, subst, ◌∙◌}
use Rattle.std.proofs.lemmas.List.{get_or_default}
use Rattle.std.proofs.lemmas.Option.{same_Some, slice_get-map, slice_get_read, slice_get_past}
use Rattle.search.specs.Reachable.{FoundBy, Reaches, SearchState}
use Rattle.search.proofs.Each.{each_none, each_more, each_all}
use Rattle.search.proofs.Reaching.{reaches_as, reaches_known}
use Rattle.cfgast.specs.Inner.Nodes.{RefersAt, IsNodeOf}
use Rattle.cfgitems.specs.Syntax.{Production}
use Rattle.cfgast.specs.Unused.{name_of}
use Rattle.cfgitems.specs.SyntaxView.{syntax_view, production_view, symbol_view}
use Rattle.cfgast.specs.TreeView.{syntax}
use Rattle.cfgast.proofs.ast.GrammarAST.reach_referred.Goals as goal
use Rattle.cfgast.proofs.ast.GrammarAST.reach_referred.Goals.{in-Some+in_ok-reach_symbols, in_default}

pub loop-index-init : goal.loop-index-init
loop-index-init c = each_none _ _

pub loop-index-preserved : goal.loop-index-preserved
unfolding syntax syntax_view
loop-index-preserved c =
    let s = syntax c.args.self.now in
    let all = c.args.productions.now in
    let n = c.loop-index.index-index in
    let index = get_or all n 0 in
    let shown = slice_get-map production_view c.args.self.now.syntax.prods.items index in
    let Reached = λ (x : SearchState). Reaches (RefersAt s index) c.loop-index.search x in
    each_more (RefersAt s) all n index _ _ _ c.loop-index-test.true (get_or_default all n 0 index c.loop-index-test.true) c.loop-index.invariant (elim c.match-get.branch [
      | in-Some+in_ok-reach_symbols w ↦
          let production = w.in-Some.production.now in
          let there : slice_get s.productions index ≡ Some (production_view production) =
          shown ∙ ap (option_map production_view) (subst (λ l. slice_get l index ≡ Some production) c.deref.ensures.value
          (slice_get_read c.deref.result.now _ index _ refl w.in-Some.ensures.lookup.3.0 w.in-Some.ensures.lookup.1)) in
          let same = ap (λ symbols. map name_of (map symbol_view symbols)) w.deref-in-Some.ensures.value in
          subst Reached (sym w.search-is) (reaches_as _ (RefersAt s index) _ _
          (λ m h. record { production = production_view production; there = there; holds = subst (λ l. FoundBy (IsNodeOf s) l m) same h })
          (λ m h. subst (λ l. FoundBy (IsNodeOf s) l m) (ap (λ (p : Production). map name_of p.symbols) (same_Some _ _ (sym h.there ∙ there)) ∙ sym same) h.holds)
          w.in_ok-reach_symbols.ensures)
      | in_default w ↦
          let none = shown ∙ ap (option_map production_view) (subst (λ l. slice_get l index ≡ None) c.deref.ensures.value
          (slice_get_past c.deref.result.now index w.in_default.ensures.lookup.3)) in
          subst Reached (sym w.search-is) (reaches_known _ c.loop-index.search (λ m h. let no : None ≡ Some h.production = sym none ∙ h.there in cc))
    ])

pub returns : goal.returns
returns c = each_all _ _ _ _ _ (omega (arith, c.loop-index-test.false, c.loop-index.auto.index-index-end)) c.loop-index.invariant
