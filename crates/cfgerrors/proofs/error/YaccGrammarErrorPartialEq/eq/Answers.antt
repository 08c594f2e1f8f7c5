use Rattle.std.proofs.Common.{◌∙◌, sym, ap, Bool, ◌&&◌}
use Rattle.cfgbase.specs.Spans.{same_spans}
use Rattle.cfgerrors.proofs.ErrorLemmas.{eq_kind_view, same_error_iff}
use Rattle.cfgerrors.proofs.error.YaccGrammarErrorPartialEq.eq.Goals as goal

pub returns-then-eq : goal.returns-then-eq
returns-then-eq c =
    let same = sym (eq_kind_view c.self.inside.kind c.other.inside.kind) ∙ sym c.eq.ensures ∙ c.if-eq.true in
    let value =
    c.eq-then-eq.ensures ∙ ap (λ (b : Bool). b && same_spans c.self.inside.spans.items c.other.inside.spans.items) (sym same)
    in
    rw (← c.self.view_is, ← c.other.view_is) (record { value = value; same = rw value (same_error_iff c.self.inside.kind c.other.inside.kind c.self.inside.spans.items c.other.inside.spans.items) })

pub returns-else-eq : goal.returns-else-eq
returns-else-eq c =
    let differ = sym (eq_kind_view c.self.inside.kind c.other.inside.kind) ∙ sym c.eq.ensures ∙ c.if-eq.false in
    let value =
    c.if-eq.false ∙ ap (λ (b : Bool). b && same_spans c.self.inside.spans.items c.other.inside.spans.items) (sym differ)
    in
    rw (← c.self.view_is, ← c.other.view_is) (record { value = value; same = rw value (same_error_iff c.self.inside.kind c.other.inside.kind c.self.inside.spans.items c.other.inside.spans.items) })
