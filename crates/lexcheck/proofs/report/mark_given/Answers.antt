use Rattle.std.proofs.Common.{◌≡◌, ℕ, ◌+◌, ◌<◌, ◌++◌, ◌∷◌, [], true, cond, is_some, Bor, List, Option, Some, None, get_or, map, take, length, slice_set, position, option_map, sym, ap, ◌∙◌, arith, subst}
use Rattle.std.proofs.lemmas.List.{length-map, length-take-le}
use Rattle.cfgrammar.specs.Accessors.{has_token_name}
use Rattle.cfgrammar.specs.Lists.{positions}
use Rattle.cfgrammar.specs.Numbered.{Numbered}
use Rattle.cfgrammar.specs.TIdx.{TIdx}
use Rattle.cfgrammar.specs.TokenNames.{token_names}
use Rattle.lexcheck.specs.Inner.Marks.{AreMarks}
use Rattle.lexcheck.specs.LexerNames.{is_unknown}
use Rattle.lexcheck.proofs.Marked.{found, marked_more, one_more, unknown_more, unmarked_more}
use Rattle.lexcheck.proofs.report.mark_given.Goals as goal
use Rattle.lexcheck.proofs.report.mark_given.Goals.{in-Some, in-None+in_ok-push-in-None}

pub set-requires : goal.set-requires
set-requires g c =
    let at = sym (c.requires.map _) ∙ ap (option_map (λ (t : TIdx g.row.S.Denot). g.S.Storage.number t.0)) (sym c.in-Some.ensures.value) in
    omega (arith, c.to_usize.ensures.value, (found c.args.grm.now _ _ at).0, c.loop-index.invariant.1.counted)

-- the names before the next one, the next one, and what holds of both
module _ (grm : Numbered) (all : List (Bor (List ℕ))) (index : ℕ) (within : index < length all) where
  abbrev before : List (List ℕ)
  before = take index (map (λ name. name.now) all)

  abbrev next : List ℕ
  next = (get_or all index (record { ref_ptr = (0, 0); now = [] })).now

  more : take (index + 1) (map (λ name. name.now) all) ≡ before ++ next ∷ []
  more = one_more (λ name. name.now) all index _ within

  noted : (o : Option ℕ) → position (has_token_name next) grm.tokens ≡ o
      → positions (is_unknown (token_names grm)) (take (index + 1) (map (λ name. name.now) all))
      ≡ cond (is_some o) (positions (is_unknown (token_names grm)) before) (positions (is_unknown (token_names grm)) before ++ index ∷ [])
  noted o at = ap (positions (is_unknown (token_names grm))) more
      ∙ unknown_more grm before next index (length-take-le index _ (omega (arith, within, length-map all (λ (name : Bor (List ℕ)). name.now)))) o at

pub loop-index-preserved : goal.loop-index-preserved
loop-index-preserved g c =
    let number = λ (t : TIdx g.row.S.Denot). g.S.Storage.number t.0 in
    let all = c.args.names.now in
    let index = c.loop-index.index in
    let grm = c.args.grm.now in
    let within : index < length all = omega arith in
    elim c.match-get.branch [
      | in-Some w ↦
          let at = sym (c.requires.map _) ∙ ap (option_map number) (sym w.in-Some.ensures.value) in
          let marks = marked_more grm (before grm all index within) (next grm all index within) c.loop-index.given c.loop-index.invariant.1 _ at (found grm _ _ at).0 in (
            ap (λ v. v.items) w.unknown-is ∙ c.loop-index.invariant.0 ∙ sym (noted grm all index within (Some _) at),
            subst (λ m. AreMarks grm (take (index + 1) (map (λ name. name.now) all)) m)
                (sym (w.given-is ∙ w.set.ensures.bits ∙ ap (λ k. slice_set c.loop-index.given k true) w.to_usize.ensures.value))
                (subst (λ l. AreMarks grm l (slice_set c.loop-index.given (number w.in-Some.tidx.now) true)) (sym (more grm all index within)) marks),
          )
      | in-None+in_ok-push-in-None w ↦
          let at = sym (c.requires.map _) ∙ ap (option_map number) (sym w.in-None.ensures.value) in
          let marks = unmarked_more grm (before grm all index within) (next grm all index within) c.loop-index.given c.loop-index.invariant.1 at in (
            ap (λ v. v.items) w.unknown-is ∙ w.in_ok-push-in-None.ensures.items ∙ ap (λ l. l ++ index ∷ []) c.loop-index.invariant.0
                ∙ sym (noted grm all index within None at),
            subst (λ m. AreMarks grm (take (index + 1) (map (λ name. name.now) all)) m) (sym w.given-is)
                (subst (λ l. AreMarks grm l c.loop-index.given) (sym (more grm all index within)) marks),
          )
    ]
