use Rattle.std.proofs.Common.{◌≡◌, ◌+◌, ◌<◌, ◌≤◌, ◌∙◌, ap, get_or, length, ℕ, refl, subst, ltb-true, lt-ltb, ⊎_elim, arith}
use Rattle.std.proofs.lemmas.Bool.{cases_lt}
use Rattle.cfglines.specs.Lines.{StandsFor, newlines_of}
use Rattle.cfglines.proofs.LongLines.{begin_of, long_end, long_line, short_lines}
use Rattle.cfglines.proofs.Newlines.{newlines_of-within}
use Rattle.cfglines.proofs.newlinecache.NewlineCache.has_line_longer_than.Goals as goal

pub returns-then-saturating_sub-bytes : goal.returns-then-saturating_sub-bytes
returns-then-saturating_sub-bytes c text holds =
    let items : c.deref-newline-items.result.now ≡ newlines_of text = c.deref-newline-items.ensures.value ∙ (ap (λ kept. kept.newlines) c.self.view_is ∙ holds.newlines) in
    let i = c.loop-newline.newline-index in
    let here = ap (λ all. get_or all i 0) items in
    let start = c.loop-newline.invariant.0 ∙ ap (λ all. begin_of all i) holds.newlines in
    let found = long_line text c.args.bytes i (omega (arith, ap length items)) (omega arith) in
    (λ _. (get_or (newlines_of text) i 0, found.0, found.1), λ _. refl)

pub overflow_add-start : goal.overflow_add-start
overflow_add-start c =
    let text = c.self.invariant.0 in
    let holds : StandsFor c.args.self.now text = subst (λ kept. StandsFor kept text) c.self.view_is c.self.invariant.1 in
    let items : c.deref-newline-items.result.now ≡ newlines_of text = c.deref-newline-items.ensures.value ∙ (ap (λ kept. kept.newlines) c.self.view_is ∙ holds.newlines) in
    let i = c.loop-newline.newline-index in
    let here = ap (λ all. get_or all i 0) items in
    let within = newlines_of-within text i 0 (omega (arith, ap length items)) in
    omega (arith, holds.bytes, ap (λ kept. kept.bytes) c.self.view_is)

pub returns : goal.returns
returns c text holds =
    let items : c.deref-newline-items.result.now ≡ newlines_of text = c.deref-newline-items.ensures.value ∙ (ap (λ kept. kept.newlines) c.self.view_is ∙ holds.newlines) in
    let count : c.loop-newline.newline-index ≡ length (newlines_of text) = omega (arith, ap length items) in
    let len : c.self.inside.len ≡ length text = ap (λ kept. kept.bytes) c.self.view_is ∙ holds.bytes in
    let start : c.loop-newline.start ≡ begin_of (newlines_of text) (length (newlines_of text)) =
    c.loop-newline.invariant.0 ∙ (ap (λ all. begin_of all c.loop-newline.newline-index) holds.newlines ∙ ap (begin_of (newlines_of text)) count) in
    let lines : (i : ℕ) → i < length (newlines_of text) → get_or (newlines_of text) i 0 ≤ begin_of (newlines_of text) i + c.args.bytes =
    λ i h. subst (λ all. get_or all i 0 ≤ begin_of all i + c.args.bytes) holds.newlines (c.loop-newline.invariant.1 i (omega arith)) in (
      λ long. (length text, omega arith, long_end text c.args.bytes (omega (arith, ltb-true _ _ long))),
      λ found.
          let short = short_lines text c.args.bytes lines in
          ⊎_elim
          (λ long. lt-ltb _ _ (omega arith))
          (λ last. absurd (omega (arith, short last found.0 found.1)))
          (cases_lt (begin_of (newlines_of text) (length (newlines_of text)) + c.args.bytes) (length text)),
    )
