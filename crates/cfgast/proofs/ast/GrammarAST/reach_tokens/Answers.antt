use Rattle.std.proofs.Common.{◌≡◌, ◌↔◌, ◌<◌, ◌+◌, ℕ, Some, None, IfSome, arith, length, map, take, String, Global, sym, subst, ◌∙◌}
use Rattle.std.proofs.lemmas.Option.{get_or_from_slice_get}
use Rattle.lemmas.proofs.Elements.{element_at}
use Rattle.search.specs.Reachable.{FoundBy, Reaches}
use Rattle.search.proofs.Reaching.{reaches_as}
use Rattle.search.proofs.Each.{each_none, each_more, each_all, found_mapped}
use Rattle.cfgbase.specs.declared.span.Span.{Span}
use Rattle.cfgast.specs.Inner.Nodes.{IsNodeOf}
use Rattle.cfgast.specs.Unused.{TokenName, entry_token}
use Rattle.cfgitems.specs.SyntaxView.{span_entry}
use Rattle.cfgast.specs.TreeView.{syntax}
use Rattle.cfgast.proofs.ast.GrammarAST.reach_tokens.Goals as goal
use Rattle.cfgast.proofs.ast.GrammarAST.reach_tokens.Goals.{in-Some+in_ok-reach_found, in_default}

pub loop-index-init : goal.loop-index-init
loop-index-init c = each_none _ _

pub reach_found-requires : goal.reach_found-requires
reach_found-requires c = subst (λ m. IfSome c.token_node.result (λ n. n < m)) (sym (c.loop-index.invariant.shape ∙ c.requires)) c.token_node.ensures.within

pub loop-index-preserved : goal.loop-index-preserved
loop-index-preserved c =
    let s = syntax c.args.self.now in
    let entries = c.args.table.now.entries in
    let index = c.loop-index.index in
    let Finds = λ (entry : String Global × Span). IsNodeOf s (entry_token (span_entry entry)) in
    let within : index < length entries = omega (arith, c.loop-index-test.true, c.len-index-end.ensures.len) in
    elim c.match-get_index.branch [
      | in-Some+in_ok-reach_found w ↦
          let at = sym w.in-Some.ensures.entry in
          let found = subst (λ name. (n : ℕ) → (w.token_node.result ≡ Some n) ↔ IsNodeOf s (TokenName name) n) w.deref.ensures w.token_node.ensures.node in
          subst (Reaches (FoundBy Finds (take (index + 1) entries)) c.args.search.now) (sym w.search-is)
          (each_more Finds entries index _ _ _ _ within (sym (get_or_from_slice_get entries index _ _ at)) c.loop-index.invariant
          (reaches_as _ _ _ _ (λ n. (found n).0) (λ n. (found n).1) w.in_ok-reach_found.ensures))
      | in_default w ↦
          let (entry, at) = element_at entries index within in
          let no : None ≡ Some entry = w.in_default.ensures.entry ∙ at in cc
    ]

pub returns : goal.returns
returns c =
    let Finds = IsNodeOf (syntax c.args.self.now) in
    let entries = c.args.table.now.entries in
    found_mapped entry_token Finds (map span_entry entries) _ _ (found_mapped span_entry (λ entry. Finds (entry_token entry)) entries _ _
    (each_all _ _ _ _ _ (omega (arith, c.loop-index-test.false, c.len-index-end.ensures.len)) c.loop-index.invariant))
