use Rattle.std.proofs.Common.{rules}
use Rattle.std.proofs.lemmas.List.Elements.{same_from_all_zip}
use Rattle.lexcheck.proofs.Reports.{lists_equal}
use Rattle.lexcheck.proofs.laws.reports_are_what_they_hold.Goals as goal

pub returns-clause-equal : goal.returns-clause-equal
returns-clause-equal g c a b =
    let tokens = lists_equal _ c.tokens_are_their_numbers.ensures.equal a.missing.items b.missing.items in
    search rules

pub returns-clause-unknown : goal.returns-clause-unknown
returns-clause-unknown g c a b clone = same_from_all_zip _ a.unknown.items b.unknown.items clone.0.0 (λ x y e. e)
