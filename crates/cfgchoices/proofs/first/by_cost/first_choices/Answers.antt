use Rattle.std.proofs.Common.{ℕ, List, Option, IfOk, map, sym, ap, subst, ◌∙◌}
use Rattle.cfgindex.specs.declared.idxnewtype.PIdx.{PIdx}
use Rattle.cfgleast.specs.Certificate.{choice_of}
use Rattle.cfgchoices.specs.FirstChoices.{AreFirst, AreChosen}
use Rattle.cfgleast.specs.Generator.{CostTables}
use Rattle.cfgchoices.specs.Inner.Candidates.{with_choices}
use Rattle.cfgchoices.proofs.first.by_cost.first_choices.Goals as goal

pub choices_by_cost-requires : goal.choices_by_cost-requires
choices_by_cost-requires g c = c.from.ensures ∙ c.rules_len.ensures.value ∙ sym (ap (λ (x : CostTables). x.grammar.rules) c.in_ok-optimal.ensures)

pub returns : goal.returns
returns g c =
    let firsts = λ (x : CostTables) (items : List (Option (PIdx _ × ℕ))). with_choices x (map (choice_of g.S.Storage.number) items) in record {
      walks = subst (λ (x : CostTables). IfOk c.choices_by_cost.result (λ made. AreChosen (firsts x made.items))) c.in_ok-optimal.ensures c.choices_by_cost.ensures.walks;
      first = subst (λ (x : CostTables). IfOk c.choices_by_cost.result (λ made. AreFirst (firsts x made.items))) c.in_ok-optimal.ensures c.choices_by_cost.ensures.first;
    }
