-- When two spans are equal, and two lists of spans.
use Rattle.std.specs.Prelude.{Bool, ◌==◌, ◌&&◌, List}
use Rattle.std.specs.Cmp.{IsEquivalence}
use Rattle.std.proofs.lemmas.Cmp.{and_equiv, lists_equiv, nat_eq_equiv, on_equiv}
use lib.Pointwise.{pointwise}
use Rattle.cfgbase.specs.declared.span.Span.{Span}

abbrev pub same_span : Span → Span → Bool
same_span a b = (a.start == b.start) && (a.end == b.end)

abbrev pub same_spans : List Span → List Span → Bool
same_spans = pointwise same_span

pub same_spans-equivalence : IsEquivalence same_spans
same_spans-equivalence =
    lists_equiv (and_equiv (on_equiv (λ s. s.start) nat_eq_equiv) (on_equiv (λ s. s.end) nat_eq_equiv))
