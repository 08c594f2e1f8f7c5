use Rattle.std.proofs.Common.{◌≡◌, ◌≤◌, ℕ, zero, suc, ◌∷◌, Option, None, map, replicate, refl, ap, ◌∙◌, arith}
use Rattle.cfgindex.specs.declared.idxnewtype.PIdx.{PIdx}
use Rattle.cfgchoices.specs.Kinds.{production_numbers}
use Rattle.cfgchoices.specs.Inner.Candidates.{candidates_of, production_number}
use Rattle.cfgchoices.proofs.CheaperChosen.{climbed_begins, climbed_first, climbed_walks}
use Rattle.cfgchoices.proofs.first.by_cost.choices_by_cost.Goals as goal

no_positions : {S : Type 0} (number : S → ℕ) (n : ℕ) → map (production_number number) (replicate {A = Option (PIdx S)} n None) ≡ replicate n None
no_positions number zero = refl
no_positions number (suc n) = ap (λ l. None ∷ l) (no_positions number n)

pub loop-cost-init : goal.loop-cost-init
loop-cost-init g c =
    let number = g.S.Storage.number in
    climbed_begins c.args.optimal.now _
    (c.in_ok-no_choices.ensures ∙ ap (λ (n : ℕ). replicate {A = Option (ℕ × ℕ)} n None) c.requires) refl
    (ap (production_numbers number) c.new.ensures.items) (ap (production_numbers number) c.new-2.ensures.items)
    (ap (map (production_number number)) c.in_ok-no_productions.ensures ∙ no_positions number _ ∙ ap (λ (n : ℕ). replicate {A = Option ℕ} n None) c.requires)

pub returns : goal.returns
returns g c =
    let (m, known) = c.invariant_holds.ensures in
    let f = candidates_of g.S.Storage.number c.loop-cost.chooser in
    let end : c.args.optimal.now.limit ≤ c.loop-cost.cost = omega (arith, c.loop-cost-test.false, c.costs_len-cost-end.ensures) in record {
      walks = climbed_walks c.args.optimal.now m known f c.loop-cost.cost c.loop-cost.invariant end;
      first = climbed_first c.args.optimal.now m known f c.loop-cost.cost c.loop-cost.invariant end;
    }
