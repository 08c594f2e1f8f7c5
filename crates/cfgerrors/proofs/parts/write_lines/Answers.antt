use Rattle.std.proofs.Common.{◌≡◌, ℕ, ◌+◌, List, [], ◌++◌, ◌∷◌, true, codes, refl, sym, ap, ◌∙◌, take, arith}
use Rattle.std.proofs.lemmas.Grind.{common_steps}
use Rattle.std.proofs.Output.{has_written_append, has_written_of_eq, has_written_styled_append, has_written_styled_of_eq}
use Rattle.std.proofs.lemmas.List.{flat_map_more, take_all}
use Rattle.std.specs.List.{flat_map, join_by}
use Rattle.cfgerrors.proofs.Lines.{after}
use Rattle.cfgerrors.proofs.parts.write_lines.Goals as goal

pub loop-value-preserved : goal.loop-value-preserved
loop-value-preserved g c =
    let value = c.value-item.result in
    let shown = take c.loop-value.value-index c.in-Some.others.now in
    let next : shown ++ value ∷ [] ≡ take (c.loop-value.value-index + 1) c.in-Some.others.now = grind (arith, common_steps) in record {
      plain = λ text is plain.
          let before = c.loop-value.invariant.plain text is plain in
          let line_end = c.in_ok-write_str.ensures.writes before.plain (refl {a = true}) in
          let written = (rw (is value) at c.in_ok-fmt-2.ensures.writes) line_end.plain (refl {a = true}) in
          has_written_of_eq _ _ _ _ _ (flat_map_more (after text) [] shown value ∙ ap (flat_map (after text)) next)
          (has_written_append _ _ _ _ _ _ before (has_written_append _ _ _ _ _ _ line_end written));
      styled = λ text is flush.
          let before = c.loop-value.invariant.styled text is flush in
          let line_end = c.in_ok-write_str.ensures.styled before.flush (refl {a = true}) in
          let written = (rw (is value _) at c.in_ok-fmt-2.ensures.styled) line_end.flush (refl {a = true}) in
          has_written_styled_of_eq _ _ _ _ _ (flat_map_more (after text) [] shown value ∙ ap (flat_map (after text)) next)
          (has_written_styled_append _ _ _ _ _ _ before (has_written_styled_append _ _ _ _ _ _ line_end written));
    }

-- the text of the first and of the others is that of all
whole : {T : Type 0} (text : T → List ℕ) (first : T) (others values : List T) (n : ℕ) → take n others ≡ others → values ≡ first ∷ others
    → join_by text (codes "\n") (first ∷ take n others) ≡ join_by text (codes "\n") values
whole text first others values n all parts = ap (λ xs. join_by text (codes "\n") (first ∷ xs)) all ∙ ap (join_by text (codes "\n")) (sym parts)

pub returns-clause-plain : goal.returns-clause-plain
returns-clause-plain g c = λ text is plain _.
    let first = c.in-Some.first.now in
    let before = (rw (is first) at c.in_ok-fmt.ensures.writes) plain (refl {a = true}) in
    has_written_of_eq _ _ _ _ _ (whole text first _ _ _ (take_all c.loop-value.value-index c.in-Some.others.now c.loop-value-test.false) c.in-Some.ensures.cases.0)
    (has_written_append _ _ _ _ _ _ before (c.loop-value.invariant.plain text is before.plain))

pub returns-clause-styled : goal.returns-clause-styled
returns-clause-styled g c = λ text is flush _.
    let first = c.in-Some.first.now in
    let before = (rw (is first _) at c.in_ok-fmt.ensures.styled) flush (refl {a = true}) in
    has_written_styled_of_eq _ _ _ _ _ (whole text first _ _ _ (take_all c.loop-value.value-index c.in-Some.others.now c.loop-value-test.false) c.in-Some.ensures.cases.0)
    (has_written_styled_append _ _ _ _ _ _ before (c.loop-value.invariant.styled text is before.flush))
