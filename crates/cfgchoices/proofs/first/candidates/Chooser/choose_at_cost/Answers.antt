use Rattle.std.proofs.Common.{◌≡◌, refl, ◌∙◌, rules}
use Rattle.cfgchoices.specs.Inner.Candidates.{candidates_of, waiting}
use Rattle.cfgchoices.proofs.CheaperChosen.{begun_nominating, climbed_more, nominated_going, base_nominated}
use Rattle.cfgchoices.proofs.first.candidates.Chooser.choose_at_cost.Goals as goal

pub nominate_listed-requires-clause-nominating : goal.nominate_listed-requires-clause-nominating
nominate_listed-requires-clause-nominating g c =
    let (m, known) = c.invariant_holds.ensures in
    begun_nominating c.args.optimal.now m known (candidates_of g.S.Storage.number c.args.self.now) c.args.cost c.requires.climbed

pub nominate_listed-requires-clause-nominated : goal.nominate_listed-requires-clause-nominated
nominate_listed-requires-clause-nominated g c =
    let (m, known) = c.invariant_holds.ensures in
    base_nominated c.args.optimal.now m known (candidates_of g.S.Storage.number c.args.self.now) c.args.cost c.requires.climbed

pub loop-init : goal.loop-init
loop-init g c =
    let number = g.S.Storage.number in
    let (m, known) = c.invariant_holds.ensures in
    let e = c.in_ok-nominate_listed.ensures in record {
      going = nominated_going c.args.optimal.now m known (candidates_of number c.args.self.now) c.args.cost c.requires.climbed _ (candidates_of number c.nominate_listed.new.self) e.nominating e.adds;
      handles = λ q h. h;
      cost = refl;
    }

pub loop-preserved : goal.loop-preserved
loop-preserved g c = record {
  going = c.in_ok-choose.ensures.going;
  handles = λ q h. c.in_ok-choose.ensures.handles q (c.loop.invariant.handles q h);
  cost = c.in_ok-choose.ensures.cost ∙ c.loop.invariant.cost;
}

pub returns : goal.returns
returns g c =
    let number = g.S.Storage.number in
    let (m, known) = c.invariant_holds.ensures in
    let e = c.in_ok-nominate_listed.ensures in
    let last = c.in_ok-choose.ensures in
    let none : waiting (candidates_of number c.choose.new.self) ≡ 0 = search rules in
    climbed_more c.args.optimal.now m known (candidates_of number c.args.self.now) c.args.cost c.requires.climbed _ (candidates_of number c.nominate_listed.new.self) e.nominating e.adds
    (candidates_of number c.choose.new.self) last.going none (λ q h. last.handles q (c.loop.invariant.handles q h)) (last.cost ∙ c.loop.invariant.cost)
