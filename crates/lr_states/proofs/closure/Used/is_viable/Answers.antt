use Rattle.std.proofs.Common.{◌≡◌, ◌==◌, ap, arith, length, subst, ◌∙◌}
use Rattle.cfgrammar.specs.Numbered.{core}
use Rattle.lr_states.specs.Viable.{IsUsed}
use Rattle.lr_states.specs.Inner.Closure.{IsClosure}
use Rattle.lr_states.proofs.Alike.{first_state, viable_by}
use Rattle.lr_states.proofs.closure.Used.is_viable.Goals as goal

pub returns : goal.returns
returns c =
    let g = core c.args.self.now.grammar.now in
    let used = IsUsed g in
    let items = c.in_ok-closure.field-0.items in
    let long : c.in_ok-closure.field-0.len ≡ length items = omega (arith, c.in_ok-closure.field-0.ok) in
    viable_by g used items
    (first_state g used items (subst (λ l. IsClosure g used l items) (c.deref.ensures.value ∙ c.new-none.ensures.items) c.in_ok-closure.ensures))
    c.is_empty.result (c.is_empty.ensures ∙ ap (λ n. n == 0) long)
