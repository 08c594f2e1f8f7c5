use Rattle.std.proofs.Common.{ℕ, ◌<◌, List, get_or, drop, length, sym, subst}
use Rattle.std.proofs.lemmas.List.{drop_more}
use Rattle.std.proofs.lemmas.List.Elements.{All-more}
use Rattle.bison_findings.specs.Conflicts.{BeginsOther, IsLike}
use Rattle.lr_conflicts.specs.declared.clashes.Clash.{Clash}
use Rattle.bison_findings.proofs.grouped.count_like.Goals as goal

begins_other : (first : Clash) (clashes : List Clash) (index : ℕ) (default : Clash) → index < length clashes
    → (IsLike first (get_or clashes index default) → ⊥) → BeginsOther first (drop index clashes)
begins_other first clashes index default within other = subst (BeginsOther first) (sym (drop_more clashes index default within)) other

pub loop-index-preserved : goal.loop-index-preserved
loop-index-preserved c = All-more (IsLike c.args.first) c.args.clashes.now c.loop-index.index _ c.loop-index-test.true c.loop-index.invariant (c.is_like.ensures.0 c.if-not-is_like.false)

pub returns-then-not-is_like-clause-other : goal.returns-then-not-is_like-clause-other
returns-then-not-is_like-clause-other c =
    begins_other c.args.first c.args.clashes.now c.loop-index.index _ c.loop-index-test.true (λ like. let same = c.is_like.ensures.1 like in cc)
