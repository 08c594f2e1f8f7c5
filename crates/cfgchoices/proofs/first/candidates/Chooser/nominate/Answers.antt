use Rattle.std.proofs.Common.{◌≡◌, ◌<◌, ◌≤◌, false, refl, sym, ap, subst, ◌∙◌, arith}
use Rattle.std.proofs.lemmas.List.{length-map}
use Rattle.cfgchoices.specs.Kinds.{production_numbers}
use Rattle.cfgchoices.specs.Inner.Candidates.{Adds, Nominating, candidates_of, is_sole, owner, production_number}
use Rattle.cfgchoices.proofs.Located.{covered_adds, put_in, put_shown, ready_in}
use Rattle.cfgchoices.proofs.Taken.{entry_within, last_taken}
use Rattle.cfgchoices.proofs.first.candidates.Chooser.nominate.Goals as goal

pub returns-then-is_sole : goal.returns-then-is_sole
returns-then-is_sole g c =
    let number = g.S.Storage.number in
    let (nominating, adds) = ready_in c.args.optimal.now (candidates_of number c.args.self.now) c.requires.nominating (number c.args.p.0) c.requires.nominated (production_numbers number c.push.new.self.items)
    (last_taken number c.push.new.self.items c.args.self.now.ready.items c.args.p c.in_ok-push.ensures.items)
    (ap (is_sole c.args.optimal.now) (sym c.rule_of-rule.ensures.value) ∙ sym c.is_sole.ensures ∙ c.if-is_sole.true) in
    record { nominating = nominating; adds = adds }

pub returns-then-branch-clause-adds : goal.returns-then-branch-clause-adds
returns-then-branch-clause-adds g c = covered_adds c.args.optimal.now (candidates_of g.S.Storage.number c.args.self.now) c.requires.nominating (g.S.Storage.number c.args.p.0) c.requires.nominated
    (c.in_ok-is_covered.ensures c.if-branch.true)

pub returns : goal.returns
returns g c =
    let number = g.S.Storage.number in
    let k = c.args.optimal.now in
    let f = candidates_of number c.args.self.now in
    let p = number c.args.p.0 in
    let len = length-map c.args.self.now.sorted.items (λ p. number p.0) in
    let located = c.in_ok-index.ensures in
    let several : is_sole k (owner k.tables p) ≡ false = ap (is_sole k) (sym c.rule_of-rule.ensures.value) ∙ sym c.is_sole.ensures ∙ c.if-is_sole.false in
    let (nominating, adds) = subst (λ f'. Nominating k f' × Adds k.tables (λ q. q ≡ p) 1 f f')
    (put_shown number c.args.self.now.sorted.items c.args.self.now.foremost.items f c.in_ok-index.index c.from.result (owner k.tables p) c.args.p (c.from.ensures ∙ c.rule_of-rule.ensures.value) _ c.in_ok-insert.ensures.items)
    (put_in k f c.requires.nominating p c.requires.nominated c.in_ok-index.index (subst (λ m. c.in_ok-index.index ≤ m) (sym len) located.within) located.before
    (λ i le lt. located.after i le (subst (λ m. i < m) len lt)) several) in
    record { nominating = nominating; adds = adds }

pub index_mut-requires : goal.index_mut-requires
index_mut-requires g c =
    let inside = subst (λ i. i < c.args.optimal.now.tables.grammar.rules) (sym c.from.ensures) c.rule_of-rule.ensures.within in
    let within = entry_within (production_number g.S.Storage.number) c.args.self.now.foremost.items _ c.from.result c.from.result c.requires.nominating.listed refl inside in
    omega (arith, within, c.args.self.now.foremost.ok.0)
