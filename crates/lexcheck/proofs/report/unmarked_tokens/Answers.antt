use Rattle.std.proofs.Common.{◌≡◌, ℕ, ◌≤◌, cond, [], ◌∷◌, ◌++◌, length, map, take, slice_get, Some, option_map, ap, sym, subst, ◌∙◌, arith}
use Rattle.std.proofs.lemmas.List.{length-map, take_all}
use Rattle.std.proofs.lemmas.Option.{slice_get-map}
use Rattle.std.specs.declared.ops.Range.{Range}
use Rattle.cfgrammar.specs.Lists.{positions}
use Rattle.cfgrammar.specs.Numbered.{NumberedToken}
use Rattle.cfgrammar.specs.TIdx.{TIdx}
use Rattle.cfgrammar.specs.TokenNames.{token_names}
use Rattle.lexcheck.specs.LexerNames.{is_missing}
use Rattle.lexcheck.proofs.Marked.{positions_more, pushed_shown, token_has_name}
use Rattle.lexcheck.proofs.report.unmarked_tokens.Goals as goal

pub returns : goal.returns
returns g c =
    let tokens = token_names c.args.grm.now in
    let past : length tokens ≤ c.loop-tidx.tidx-iterator.start =
    omega (arith, c.in-None.ensures.steps.0, c.loop-tidx.invariant.0, length-map c.args.grm.now.tokens (λ (token : NumberedToken). token.name)) in
    c.loop-tidx.invariant.2 ∙ ap (positions (is_missing (map (λ name. name.now) c.args.names.now))) (take_all c.loop-tidx.tidx-iterator.start tokens past)

pub is_unmarked-unmarked-requires-clause-named : goal.is_unmarked-unmarked-requires-clause-named
is_unmarked-unmarked-requires-clause-named g c = token_has_name c.args.grm.now.tokens _ c.token_name.result c.token_name.ensures.value

pub loop-tidx-preserved : goal.loop-tidx-preserved
loop-tidx-preserved g c =
    let number = λ (t : TIdx g.row.S.Denot). g.S.Storage.number t.0 in
    let tokens = token_names c.args.grm.now in
    let steps = c.in-Some.ensures.steps in
    let start = ap (λ (r : Range ℕ). r.start) steps.2 in
    let end = ap (λ (r : Range ℕ). r.end) steps.2 in
    let missing = is_missing (map (λ name. name.now) c.args.names.now) in
    let there = subst (λ k. slice_get tokens k ≡ Some (option_map (λ name. name.now) c.token_name.result)) steps.0
    (slice_get-map (λ (token : NumberedToken). token.name) c.args.grm.now.tokens _ ∙ c.token_name.ensures.value) in (
      end ∙ c.loop-tidx.invariant.0,
      omega (arith, start, end, steps.1),
      ap (map number) c.in_ok-push_if.ensures
          ∙ pushed_shown number c.is_unmarked-unmarked.result c.loop-tidx.missing.items _ _ _ c.loop-tidx.invariant.2 steps.0
          ∙ ap (λ b. cond b (positions missing (take c.loop-tidx.tidx-iterator.start tokens) ++ c.loop-tidx.tidx-iterator.start ∷ [])
          (positions missing (take c.loop-tidx.tidx-iterator.start tokens))) c.is_unmarked-unmarked.ensures
          ∙ sym (positions_more missing tokens c.loop-tidx.tidx-iterator.start _ there)
          ∙ ap (λ k. positions missing (take k tokens)) (sym start),
    )
