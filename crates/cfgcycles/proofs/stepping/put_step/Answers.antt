use Rattle.std.proofs.Common.{◌≡◌, ℕ, subst, sym, ap, ◌∙◌}
use Rattle.derivation.specs.Grammar.{Rule}
use Rattle.cfgtables.specs.NumberedSymbols.{sym_of}
use Rattle.cfgcycles.specs.Inner.Putting.{ArePut}
use Rattle.cfgcycles.specs.StepLists.{AreAllInOrder}
use Rattle.cfgcycles.proofs.InOrder.{put_last}
use Rattle.cfgcycles.proofs.Putting.{put_as, put_one}
use Rattle.cfgcycles.proofs.stepping.put_step.Goals as goal

pub returns-in_ok-push-in-Rule-clause-put : goal.returns-in_ok-push-in-Rule-clause-put
returns-in_ok-push-in-Rule-clause-put g c =
    let next : ℕ = c.from.result in
    let is : Rule next ≡ sym_of g.S.Storage.number c.args.symbol = ap Rule c.from.ensures ∙ sym (ap (sym_of g.S.Storage.number) c.in-Rule.is) in
    put_as _ _ _ _
    (λ a step h. (h.0, ap (λ s. Rule s.rule) h.1 ∙ is, ap (λ s. s.production) h.1, ap (λ s. s.index) h.1))
    (λ a step h.
    let same : Rule step.rule ≡ Rule next = h.1 ∙ sym is in
    let rule : step.rule ≡ next = cc in
    (h.0, λ i. record { rule = rule i; production = h.2 i; index = h.3 i }))
    (subst (ArePut _ c.args.steps.now) (sym c.in_ok-push-in-Rule.ensures.ok) (put_one c.args.steps.now c.args.rule _ c.requires))

pub returns-in_ok-push-in-Rule-clause-order : goal.returns-in_ok-push-in-Rule-clause-order
returns-in_ok-push-in-Rule-clause-order g c = λ order earlier.
    subst AreAllInOrder (sym c.in_ok-push-in-Rule.ensures.ok) (put_last c.args.steps.now c.args.rule _ order earlier)
