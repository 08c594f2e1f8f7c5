use Rattle.std.proofs.Common.{◌≡◌, List, Some, MatchOption, slice_get, refl, sym, ap, subst, ◌∙◌}
use Rattle.std.proofs.lemmas.Option.{slice_get_past, slice_get_read}
use Rattle.cfgrammar.specs.Span.{Span}
use Rattle.cfgrammar.specs.Syntax.{Syntax}
use Rattle.cfgrammar.specs.TreeView.{syntax}
use Rattle.cfgfindings.specs.Findings.{IsShadowed}
use Rattle.cfgfindings.specs.Inner.Shadowing.{GivesWay}
use Rattle.cfgfindings.proofs.Shadowing.{no_span, no_token, no_way, shadowed_at}
use Rattle.cfgfindings.proofs.unused.Usage.shadowing.Goals as goal

pub returns-in_err-token : goal.returns-in_err-token
returns-in_err-token c =
    let s = c.args.self.now in
    let name = c.args.name.now in
    subst (λ o. MatchOption o ((span : Span) → IsShadowed s name span → ⊥) (IsShadowed s name)) (sym c.from_residual.ensures)
    (subst (λ (s : Syntax). (span : Span) → IsShadowed s name span → ⊥) c.self.view_is
    (no_token (syntax c.self.inside.ast.now) c.in_err-token.ensures.distinct name (sym c.in_err-token.ensures.index)))

pub returns-then-not-gives_way : goal.returns-then-not-gives_way
returns-then-not-gives_way c =
    let name = c.args.name.now in
    let token = c.in_ok-token.token in
    subst (λ (s : Syntax). (span : Span) → IsShadowed s name span → ⊥) c.self.view_is
    (no_way (syntax c.self.inside.ast.now) c.in_ok-token.ensures.distinct name token (sym c.in_ok-token.ensures.index)
    (λ gives. c.if-not-gives_way.ensures (subst (λ (s : Syntax). GivesWay s name token) c.self.view_is gives)))

pub returns-in_err-span : goal.returns-in_err-span
returns-in_err-span c =
    let s = c.args.self.now in
    let name = c.args.name.now in
    let token = c.in_ok-token.token in
    let none = ap (λ (spans : List Span). slice_get spans token) (sym c.spans.ensures) ∙ slice_get_past c.spans.result.now token c.in_err-span.ensures.lookup.3 in
    subst (λ o. MatchOption o ((span : Span) → IsShadowed s name span → ⊥) (IsShadowed s name)) (sym c.from_residual-in_err-span.ensures)
    (subst (λ (s : Syntax). (span : Span) → IsShadowed s name span → ⊥) c.self.view_is
    (no_span (syntax c.self.inside.ast.now) c.in_ok-token.ensures.distinct name token (sym c.in_ok-token.ensures.index) none))

pub returns : goal.returns
returns c =
    let name = c.args.name.now in
    let token = c.in_ok-token.token in
    let span = c.in_ok-span.span.now in
    let at : _ ≡ Some span = ap (λ (spans : List Span). slice_get spans token) (sym c.spans.ensures)
    ∙ slice_get_read c.spans.result.now _ token span refl c.in_ok-span.ensures.lookup.3.0 c.in_ok-span.ensures.lookup.1 in
    subst (λ (s : Syntax). IsShadowed s name span) c.self.view_is
    (shadowed_at (syntax c.self.inside.ast.now) c.in_ok-token.ensures.distinct name token (sym c.in_ok-token.ensures.index)
    (subst (λ (s : Syntax). GivesWay s name token) (sym c.self.view_is) c.if-not-gives_way.ensures) span at)
