use Rattle.std.proofs.Common.{string_bytes, option_map, bytes_eq, sym, ap, subst, ◌∙◌}
use Rattle.std.proofs.lemmas.Option.{slice_get-map}
use Rattle.std.proofs.lemmas.Result.{IfOk-weaker}
use Rattle.lemmas.proofs.Lookups.{lookup-map}
use Rattle.search.specs.Reachable.{FoundBy, Reaches}
use Rattle.cfgast.specs.Inner.Nodes.{RefersAt}
use Rattle.cfgitems.specs.Syntax.{entry_name}
use Rattle.cfgitems.specs.SyntaxView.{syntax_view, rule_entry, rule_view}
use Rattle.cfgast.specs.TreeView.{syntax}
use Rattle.cfgast.proofs.Nodes.{leads_to, leads_nowhere}
use Rattle.cfgast.proofs.unused.GrammarASTEdgesBits.reach_from.Goals as goal

pub returns-in-Some : goal.returns-in-Some
unfolding syntax syntax_view
returns-in-Some c =
    let s = syntax c.args.self.now in
    let entries = c.args.self.now.syntax.rules.entries in
    let key = c.in-Some.field-0-0.now in
    let rule = c.in-Some.rule.now in
    let at = slice_get-map rule_entry entries c.args.node ∙ ap (option_map rule_entry) (sym c.in-Some.ensures.entry) in
    let found = lookup-map (bytes_eq (string_bytes key)) string_bytes rule_view entries ∙ ap (option_map rule_view) c.in-Some.ensures.value in
    IfOk-weaker c.reach_referred.result _ _ (λ _ w. leads_to s c.args.node (string_bytes key) (rule_view rule) _ _ (slice_get-map entry_name s.rules c.args.node ∙ ap (option_map entry_name) at) found
    (subst (λ l. Reaches (FoundBy (RefersAt s) l) c.args.search.now c.reach_referred.new.search) c.deref.ensures.value w)) c.reach_referred.ensures

pub returns-in-None : goal.returns-in-None
unfolding syntax syntax_view
returns-in-None c =
    let entries = c.args.self.now.syntax.rules.entries in
    leads_nowhere (syntax c.args.self.now) c.args.node c.args.search.now
    (slice_get-map rule_entry entries c.args.node ∙ ap (option_map rule_entry) (sym c.in-None.ensures.entry))
