-- `==` distinguishes two lists of spans exactly if they differ.
use Rattle.std.proofs.Common.{◌≡◌, ◌↔◌, ap, IsTrue, true, List, ◌==◌}
use Rattle.std.proofs.lemmas.Bool.{and_from, and_parts, eq-eqb, eqb-true}
use lib.Pointwise.{pointwise_decides}
use Rattle.cfgbase.specs.declared.span.Span.{Span}
use Rattle.cfgbase.specs.Spans.{same_span, same_spans}

same_span-true : (a b : Span) → same_span a b ≡ true → a ≡ b
same_span-true a b h =
    let both = and_parts (a.start == b.start) (a.end == b.end) h in
    let start = eqb-true a.start b.start both.0 in
    let end = eqb-true a.end b.end both.1 in
    λ i. record { start = start i; end = end i }

same_span_iff : (a b : Span) → IsTrue (same_span a b) ↔ (a ≡ b)
same_span_iff a b =
    (same_span-true a b, λ e. and_from _ _ (eq-eqb _ _ (ap (λ s. s.start) e)) (eq-eqb _ _ (ap (λ s. s.end) e)))

pub same_spans_iff : (a b : List Span) → IsTrue (same_spans a b) ↔ (a ≡ b)
same_spans_iff = pointwise_decides same_span_iff
