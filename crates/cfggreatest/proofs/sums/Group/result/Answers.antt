use Rattle.std.proofs.Common.{◌∙◌, ap, false, get_or, subst, sym}
use Rattle.std.specs.List.{slice_index}
use Rattle.std.specs.Option.{unwrap_or}
use Rattle.std.proofs.lemmas.List.Elements.{Contains-get_or}
use Rattle.std.proofs.lemmas.Option.{unwrap_or-slice_get}
use Rattle.derivation.specs.Grammar.{HasProduction}
use Rattle.cfggreatest.specs.GreatestCosts.{Means}
use Rattle.cfggreatest.specs.Inner.Sums.{known_in}
use Rattle.cfggreatest.proofs.AtLeast.{unbounded_from}
use Rattle.cfggreatest.proofs.Grouped.{group_means}
use Rattle.cfggreatest.proofs.Reaching.{all_have_words, none_productive}
use Rattle.cfggreatest.proofs.sums.Group.result.Goals as goal

pub returns-then-not-unwrap_or : goal.returns-then-not-unwrap_or
returns-then-not-unwrap_or g c =
    let productive = c.args.self.now.productive.now in
    let first = get_or c.args.rules.now 0 0 in
    none_productive (g.T.Tables.grammar c.args.grm.now) productive c.requires.group.is.bits c.args.rules.now c.requires.alike first (Contains-get_or c.args.rules.now 0 0 c.requires.some)
    (sym (unwrap_or-slice_get productive first false) ∙ sym (ap (λ o. unwrap_or o false) c.get.ensures) ∙ sym c.unwrap_or.ensures ∙ c.if-not-unwrap_or.true)

pub sums-requires-clause-words : goal.sums-requires-clause-words
sums-requires-clause-words g c =
    let productive = c.args.self.now.productive.now in
    let first = get_or c.args.rules.now 0 0 in
    all_have_words (g.T.Tables.grammar c.args.grm.now) productive c.requires.group.is.bits c.args.rules.now c.requires.alike first (Contains-get_or c.args.rules.now 0 0 c.requires.some)
    (sym (unwrap_or-slice_get productive first false) ∙ sym (ap (λ o. unwrap_or o false) c.get.ensures) ∙ sym c.unwrap_or.ensures ∙ c.if-not-unwrap_or.false)

pub returns-in-Ok : goal.returns-in-Ok
returns-in-Ok g c =
    let grammar = g.T.Tables.grammar c.args.grm.now in
    let cost = slice_index c.args.self.now.costs.now in
    let productive = c.args.self.now.productive.now in
    let rules = c.args.rules.now in
    let first = get_or rules 0 0 in
    let words = all_have_words grammar productive c.requires.group.is.bits rules c.requires.alike first (Contains-get_or rules 0 0 c.requires.some)
    (sym (unwrap_or-slice_get productive first false) ∙ sym (ap (λ o. unwrap_or o false) c.get.ensures) ∙ sym c.unwrap_or.ensures ∙ c.if-not-unwrap_or.false) in
    λ r among. subst (Means (HasProduction grammar) cost r) (sym c.result.ensures)
    (group_means grammar cost productive (known_in c.args.self.now) rules c.requires.group.is words c.in-Ok.sums c.in-Ok.ensures.0 c.in-Ok.ensures.1 r among)

pub returns-in-Err : goal.returns-in-Err
returns-in-Err g c = λ r among. unbounded_from (HasProduction (g.T.Tables.grammar c.args.grm.now)) (slice_index c.args.self.now.costs.now) r (λ n. c.in-Err.ensures n r among)
