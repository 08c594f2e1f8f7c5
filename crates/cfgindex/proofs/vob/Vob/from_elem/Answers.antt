use Rattle.std.proofs.Common.{◌<◌, arith, sym, ap, ◌∙◌, subst}
use Rattle.cfgindex.specs.BitWords.{AreWords, bits_of}
use Rattle.cfgindex.proofs.Words.{filled_all, made_full}
use Rattle.cfgindex.proofs.vob.Vob.from_elem.Goals as goal

pub invariant_of-result-2 : goal.invariant_of-result-2
invariant_of-result-2 c =
    let some : 0 < c.args.len = omega (arith, c.if-len-eq0.false) in
    subst (AreWords c.args.len) (sym (made_full c.args.len _ _ _ c.filled-word.ensures (c.in_ok-words.ensures.items_if_clones_equal (λ y e. e))))
    (filled_all c.args.len c.args.bit some).0

pub returns : goal.returns
returns c =
    let some : 0 < c.args.len = omega (arith, c.if-len-eq0.false) in
    ap (λ l. bits_of l c.args.len) (made_full c.args.len _ _ _ c.filled-word.ensures (c.in_ok-words.ensures.items_if_clones_equal (λ y e. e)))
    ∙ (filled_all c.args.len c.args.bit some).1
