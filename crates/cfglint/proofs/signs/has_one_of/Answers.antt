use Rattle.std.proofs.Common.{false, true, refl, sym, ◌≡◌, ◌∙◌}
use Rattle.std.proofs.lemmas.Str.Pattern.{contains_text}
use Rattle.cfglint.proofs.OneOf.{none_up_to, one_among}
use Rattle.cfglint.proofs.signs.has_one_of.Goals as goal

different : true ≡ false → ⊥
different is = cc

pub returns-then-contains : goal.returns-then-contains
returns-then-contains c =
    let there = (contains_text c.contains.result _ c.args.text.now c.contains.ensures.cases).0 c.if-contains.true in
    (λ _. one_among c.args.text.now c.args.words.now c.loop-word.word-index _ c.loop-word-test.true there, λ _. refl)

pub loop-word-preserved : goal.loop-word-preserved
loop-word-preserved c =
    none_up_to c.args.text.now c.args.words.now c.loop-word.word-index _ c.loop-word-test.true c.loop-word.invariant
    (λ there. different (sym ((contains_text c.contains.result _ c.args.text.now c.contains.ensures.cases).1 there) ∙ c.if-contains.false))
