use Rattle.std.proofs.Common.{lit<, ap, rules, tests, ◌∙◌}
use Rattle.std.proofs.lemmas.Iterator.Adapters.{YieldsList-from_skip}
use Rattle.std.proofs.lemmas.Iterator.Search.{any_from_yields_List}
use Rattle.std.proofs.lemmas.Iterator.Splits.{YieldsList-from_str_split}
use Rattle.std.specs.Str.Iter.{split_has_more, split_pattern, split_text}
use Rattle.text_findings.specs.Swallowed.{has_open_arrow}
use Rattle.text_findings.proofs.swallowed.goes_on.Goals as goal

pub returns : goal.returns
returns c =
    let source = c.skip.ensures.source in
    any_from_yields_List has_open_arrow _ _ _ c.any.ensures.ran
    (YieldsList-from_skip 1
    (YieldsList-from_str_split {s = c.skip.result.iter} 59 c.args.actiont.now (lit< tt)
    (ap split_text source ∙ c.split.ensures.text) (ap split_has_more source ∙ c.split.ensures.has_more) (ap split_pattern source ∙ c.split.ensures.pattern))
    c.skip.ensures.count)
    (λ x b q k. search (rules, tests))
