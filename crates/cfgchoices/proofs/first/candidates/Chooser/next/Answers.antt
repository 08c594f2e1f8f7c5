use Rattle.std.proofs.Common.{◌≡◌, ◌++◌, ◌-◌, [], take, sym, ap, subst, ◌∙◌}
use Rattle.cfgchoices.specs.Kinds.{production_numbers}
use Rattle.cfgchoices.specs.Inner.Candidates.{Takes, candidates_of}
use Rattle.cfgchoices.proofs.Taken.{last_taken, take_sorted, take_ready}
use Rattle.cfgchoices.proofs.first.candidates.Chooser.next.Goals as goal

pub returns-in-Some : goal.returns-in-Some
returns-in-Some g c =
    let number = g.S.Storage.number in
    λ k candidates. take_ready k (candidates_of number c.args.self.now) candidates (number c.in-Some.p.0) (production_numbers number c.pop.new.self.items)
    (last_taken number c.args.self.now.ready.items c.pop.new.self.items c.in-Some.p c.in-Some.ensures.items)

pub returns : goal.returns
returns g c =
    let number = g.S.Storage.number in
    let f = candidates_of number c.args.self.now in
    let rest : c.pop.new.self.items ≡ [] = c.in_default.ensures.rest ∙ ap (λ n. take (n - 1) c.args.self.now.ready.items) c.in_default.ensures.cases.0 in
    let none : c.args.self.now.ready.items ≡ [] = c.in_default.ensures.items ∙ ap (λ l. l ++ []) rest in
    λ k candidates. subst (λ r. Takes k (number c.in_ok-p.p.0) f (record { choices = f.choices; number = f.number; cost = f.cost; ready = r; sorted = production_numbers number c.pop_back.new.self.items; foremost = f.foremost }))
    (ap (production_numbers number) none ∙ sym (ap (production_numbers number) rest))
    (take_sorted k f candidates (number c.in_ok-p.p.0) (production_numbers number c.pop_back.new.self.items) (ap (production_numbers number) none)
    (last_taken number c.args.self.now.sorted.items c.pop_back.new.self.items c.in_ok-p.p c.in_ok-p.ensures.items))
