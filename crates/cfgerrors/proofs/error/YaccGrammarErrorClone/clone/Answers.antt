use Rattle.std.proofs.Common.{◌≡◌, ◌∙◌, rules}
use Rattle.std.proofs.lemmas.List.Elements.{same_from_all_zip}
use Rattle.cfgerrors.proofs.ErrorLemmas.{clone_kind_view}
use Rattle.cfgerrors.proofs.error.YaccGrammarErrorClone.clone.Goals as goal

pub returns : goal.returns
returns c =
    let kind = clone_kind_view c.self.inside.kind c.in_ok-clone.field-0 c.in_ok-clone.ensures.cases in
    let spans : c.in_ok-clone-2.field-0.items ≡ c.self.inside.spans.items = search (rules, same_from_all_zip) in
    record { cases = (λ i. record { kind = kind i; spans = spans i }) ∙ c.self.view_is }
