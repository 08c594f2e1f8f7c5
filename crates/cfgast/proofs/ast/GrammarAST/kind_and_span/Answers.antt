use Rattle.std.proofs.Common.{◌≡◌, ◌-◌, Some, None, length, option_map, slice_get, refl, sym, ap, subst, ◌∙◌}
use Rattle.std.proofs.lemmas.List.{length-map}
use Rattle.std.proofs.lemmas.Option.{slice_get-map, slice_get_read, slice_get_past}
use Rattle.cfgerrors.specs.Warnings.{warning_at}
use Rattle.cfgerrors.specs.declared.warning.YaccGrammarWarningKind.TheVariants.{UnusedToken}
use Rattle.cfgitems.specs.SyntaxView.{syntax_view, rule_entry}
use Rattle.cfgast.specs.TreeView.{syntax}
use Rattle.cfgast.proofs.Warning.{rule_there, token_there}
use Rattle.cfgast.proofs.ast.GrammarAST.kind_and_span.Goals as goal

pub returns-in-Some : goal.returns-in-Some
unfolding syntax syntax_view
returns-in-Some c =
    let entries = c.args.self.now.syntax.rules.entries in
    ap (option_map (λ named. named.1)) (sym (rule_there (syntax c.args.self.now) c.args.node _
    (slice_get-map rule_entry entries c.args.node ∙ ap (option_map rule_entry) (sym c.in-Some.ensures.entry))))

pub returns-in_err-span : goal.returns-in_err-span
unfolding syntax syntax_view
returns-in_err-span c =
    let s = syntax c.args.self.now in
    let entries = c.args.self.now.syntax.rules.entries in
    let index : c.args.node - c.len.result ≡ c.args.node - length s.rules = ap (λ n. c.args.node - n) (c.len.ensures.len ∙ sym (length-map entries rule_entry)) in
    let past : slice_get s.spans (c.args.node - c.len.result) ≡ None =
    subst (λ l. slice_get l (c.args.node - c.len.result) ≡ None) c.deref.ensures.value (slice_get_past c.deref.result.now _ c.in_err-span.ensures.lookup.3) in
    ap (option_map (λ found. warning_at found.0 found.1)) c.from_residual.ensures
    ∙ ap (option_map (λ span. warning_at UnusedToken span)) (sym past ∙ ap (slice_get s.spans) index)
    ∙ token_there s c.args.node c.requires (slice_get-map rule_entry entries c.args.node ∙ ap (option_map rule_entry) (sym c.in_default.ensures.entry))

pub returns : goal.returns
unfolding syntax syntax_view
returns c =
    let s = syntax c.args.self.now in
    let entries = c.args.self.now.syntax.rules.entries in
    let index : c.args.node - c.len.result ≡ c.args.node - length s.rules = ap (λ n. c.args.node - n) (c.len.ensures.len ∙ sym (length-map entries rule_entry)) in
    let there : slice_get s.spans (c.args.node - c.len.result) ≡ Some c.in_ok-span.span.now =
    subst (λ l. slice_get l (c.args.node - c.len.result) ≡ Some c.in_ok-span.span.now) c.deref.ensures.value
    (slice_get_read c.deref.result.now _ _ _ refl c.in_ok-span.ensures.lookup.3.0 c.in_ok-span.ensures.lookup.1) in
    ap (option_map (λ span. warning_at UnusedToken span)) (sym there ∙ ap (slice_get s.spans) index)
    ∙ token_there s c.args.node c.requires (slice_get-map rule_entry entries c.args.node ∙ ap (option_map rule_entry) (sym c.in_default.ensures.entry))
