use Rattle.std.proofs.Common.{◌<◌, Some, length, sym, subst}
use Rattle.cfgchoices.specs.Inner.Candidates.{candidates_of}
use Rattle.cfgchoices.proofs.Gone.{Gone, gone_begins, gone_ends, gone_less, gone_more, in_optimal, left_from, next_in, nominated_still}
use Rattle.cfgchoices.proofs.first.candidates.Chooser.nominate_listed.Given.{Over}
use Rattle.cfgchoices.proofs.first.candidates.Chooser.nominate_listed.Goals.{In-Some}
use Rattle.cfgchoices.proofs.first.candidates.Chooser.nominate_listed.Goals as goal

gone : (g : Over) (c : In-Some g) → Gone g.S.Storage.number c.args.optimal.now.tables c.args.listed (candidates_of g.S.Storage.number c.args.self.now) (candidates_of g.S.Storage.number c.loop-next.self) (Some c.in-Some.p)
gone g c = subst (Gone g.S.Storage.number c.args.optimal.now.tables c.args.listed (candidates_of g.S.Storage.number c.args.self.now) (candidates_of g.S.Storage.number c.loop-next.self)) c.in-Some.is c.loop-next.invariant.gone

pub loop-next-init : goal.loop-next-init
loop-next-init g c = record {
  nominating = c.requires.nominating;
  gone = gone_begins g.S.Storage.number c.args.optimal.now.tables c.args.listed (candidates_of g.S.Storage.number c.args.self.now) c.first-next.result c.first-next.ensures;
}

pub nominate-requires-clause-nominating : goal.nominate-requires-clause-nominating
nominate-requires-clause-nominating g c = c.loop-next.invariant.nominating

pub nominate-requires-clause-nominated : goal.nominate-requires-clause-nominated
nominate-requires-clause-nominated g c =
    let now = gone g (goal.at.nominate-requires-clause-nominated g c).In-Some in
    nominated_still c.args.optimal.now _ _ _ _ now.adds _ (c.requires.nominated _ now.first.1)

pub next-next-requires : goal.next-next-requires
next-next-requires g c = (in_optimal g.S.Storage.number c.args.optimal.now.tables c.args.listed (g.S.Storage.number c.in-Some.p.0) (gone g (goal.at.next-next-requires g c).In-Some).first.1).index

pub loop-next-preserved : goal.loop-next-preserved
loop-next-preserved g c =
    let number = g.S.Storage.number in
    let x = c.args.optimal.now.tables in
    let f = candidates_of number c.args.self.now in
    let now = gone g (goal.at.loop-next-preserved g c).In-Some in
    record {
      nominating = c.in_ok-nominate.ensures.nominating;
      gone = gone_more number x c.args.listed f (candidates_of number c.loop-next.self) (candidates_of number c.nominate.new.self) c.in-Some.p c.next-next.result now c.in_ok-nominate.ensures.adds
          (next_in number x c.args.listed (number c.in-Some.p.0) c.next-next.result now.first.1 c.next-next.ensures.base c.next-next.ensures.chain);
    }

pub loop-next-smaller : goal.loop-next-smaller
loop-next-smaller g c =
    let number = g.S.Storage.number in
    let x = c.args.optimal.now.tables in
    let now = gone g (goal.at.loop-next-smaller g c).In-Some in
    subst (λ o. left_from number (length x.grammar.productions) c.next-next.result < left_from number (length x.grammar.productions) o) (sym c.in-Some.is)
    (gone_less number x c.args.listed (candidates_of number c.args.self.now) (candidates_of number c.loop-next.self) c.in-Some.p c.next-next.result now
    (next_in number x c.args.listed (number c.in-Some.p.0) c.next-next.result now.first.1 c.next-next.ensures.base c.next-next.ensures.chain))

pub returns-clause-nominating : goal.returns-clause-nominating
returns-clause-nominating g c = c.loop-next.invariant.nominating

pub returns-clause-adds : goal.returns-clause-adds
returns-clause-adds g c =
    let number = g.S.Storage.number in
    let f = candidates_of number c.args.self.now in
    let f' = candidates_of number c.loop-next.self in
    gone_ends number c.args.optimal.now.tables c.args.listed f f' (subst (Gone number c.args.optimal.now.tables c.args.listed f f') c.in_default.is c.loop-next.invariant.gone)
