use Rattle.std.proofs.Common.{ℕ, List, [], None, Option, replicate, ap, ◌∙◌}
use Rattle.cfgleast.specs.declared.partial.Partial.{Partial}
use Rattle.cfgleast.proofs.settle.settle.Goals as goal

pub settle_all-requires-clause-least : goal.settle_all-requires-clause-least
settle_all-requires-clause-least g c = c.in_ok-settled.ensures.least ∙ ap (λ (n : ℕ). replicate {A = Option ℕ} n None) (c.to_usize-rules_len.ensures.value ∙ c.rules_len.ensures.value)

pub settle_all-requires-clause-choices : goal.settle_all-requires-clause-choices
settle_all-requires-clause-choices g c = c.in_ok-settled.ensures.choices ∙ ap (λ (n : ℕ). replicate {A = Option (ℕ × ℕ)} n None) (c.to_usize-rules_len.ensures.value ∙ c.rules_len.ensures.value)

pub settle_all-requires-clause-waiting : goal.settle_all-requires-clause-waiting
settle_all-requires-clause-waiting g c = c.in_ok-waiting.ensures ∙ ap (λ (n : ℕ). replicate {A = List Partial} n []) (c.to_usize-rules_len.ensures.value ∙ c.rules_len.ensures.value)

pub returns : goal.returns
returns g c = c.in_ok-settle_all.ensures
