use Rattle.std.proofs.Common.{false, not, get_or, map, option_map, unwrap_or, sym, ap, ◌∙◌}
use Rattle.std.proofs.lemmas.Option.{unwrap_or-slice_get}
use Rattle.cfgrammar.specs.TIdx.{TIdx}
use Rattle.lexcheck.specs.LexerNames.{is_missing}
use Rattle.lexcheck.proofs.Marked.{mark_of, not_nowhere}
use Rattle.lexcheck.proofs.report.is_unmarked.Goals as goal

pub returns-in-Some-get : goal.returns-in-Some-get
returns-in-Some-get g c =
    let names = map (λ name. name.now) c.args.names.now in
    let at = sym (c.requires.map _) ∙ ap (option_map (λ (t : TIdx g.row.S.Denot). g.S.Storage.number t.0)) (sym c.in-Some-get.ensures.value) in
    ap not (
    c.unwrap_or.ensures ∙ ap (λ o. unwrap_or o false) c.get-in-Some-get.ensures
    ∙ unwrap_or-slice_get c.args.given.now _ false
    ∙ ap (λ k. get_or c.args.given.now k false) c.to_usize.ensures.value
    ∙ mark_of c.args.grm.now names c.args.given.now c.requires.marks _ _ at
    )
    ∙ sym (ap (λ o. is_missing names (option_map (λ name. name.now) o)) c.in-Some.is)

pub returns-in-None-get : goal.returns-in-None-get
returns-in-None-get g c =
    let at = sym (c.requires.map _) ∙ ap (option_map (λ (t : TIdx g.row.S.Denot). g.S.Storage.number t.0)) (sym c.in-None-get.ensures.value) in
    absurd (not_nowhere c.args.grm.now _ (rw c.in-Some.is at c.requires.named) at)
