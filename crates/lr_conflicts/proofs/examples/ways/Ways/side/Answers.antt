use Rattle.std.proofs.Common.{◌++◌, Some, ap, map, refl, subst, sym, ◌∙◌}
use Rattle.std.specs.Option.{option_copied}
use Rattle.lr_conflicts.specs.Inner.Searches.{setting}
use Rattle.lr_conflicts.specs.Inner.Ways.{parent_of}
use Rattle.lr_conflicts.proofs.Compared.{none_known}
use Rattle.lr_conflicts.proofs.Showing.{f}
use Rattle.lr_conflicts.proofs.Walked.{IsWalked, earlier, walked_all, walked_none, walked_open, walked_read}
use Rattle.lr_conflicts.proofs.examples.ways.Ways.side.Goals as goal
use Rattle.lr_conflicts.proofs.examples.ways.Ways.side.Goals.{in-Some+in-First, in_default}

pub loop-step-init : goal.loop-step-init
loop-step-init c =
    let w = setting c.args.self.now in
    let es = c.args.found.now.entries in
    let front = map f c.args.unread.now in
    let rest = c.extend_from_slice.new.self.items in
    subst (λ l. IsWalked w es c.args.node front c.args.node l rest) (sym c.new-prefix.ensures.items)
    (walked_none w es c.args.node front c.requires.there rest (ap (map f) (c.in_ok-extend_from_slice.ensures.items ∙ ap (λ l. l ++ c.args.unread.now) c.new-rest.ensures.items)))

pub loop-step-smaller-in-Read : goal.loop-step-smaller-in-Read
loop-step-smaller-in-Read c =
    let w = setting c.args.self.now in
    earlier w c.args.found.now.entries c.requires.known c.loop-step.last c.in-Read.parent c.in-Some.step.now
    (sym c.in-Some.ensures.value) (ap parent_of c.in-Read.is)

pub loop-step-preserved-in-Read : goal.loop-step-preserved-in-Read
loop-step-preserved-in-Read c =
    let w = setting c.args.self.now in
    let es = c.args.found.now.entries in
    let front = map f c.args.unread.now in
    let l = c.loop-step in
    subst (λ xs. IsWalked w es c.args.node front c.in-Read.parent xs l.rest.items) (sym c.in_ok-push-in-Read.ensures.items)
    (walked_read w es c.requires.known c.args.node front l.last l.prefix.items l.rest.items l.invariant c.in-Read.parent c.in-Read.symbol
    (sym c.in-Some.ensures.value ∙ ap Some c.in-Read.is))

pub loop-step-smaller : goal.loop-step-smaller
loop-step-smaller c =
    let w = setting c.args.self.now in
    earlier w c.args.found.now.entries c.requires.known c.loop-step.last c.in-Open.parent c.in-Some.step.now
    (sym c.in-Some.ensures.value) (ap parent_of c.in-Open.is)

pub loop-step-preserved : goal.loop-step-preserved
loop-step-preserved c =
    let w = setting c.args.self.now in
    let es = c.args.found.now.entries in
    let front = map f c.args.unread.now in
    let l = c.loop-step in
    subst (IsWalked w es c.args.node front c.in-Open.parent l.prefix.items) (sym c.in_ok-extend_from_slice-in-Open.ensures.items)
    (walked_open w es c.requires.known c.args.node front l.last l.prefix.items l.rest.items l.invariant c.in-Open.parent c.in-Open.front
    (sym c.in-Some.ensures.value ∙ ap Some c.in-Open.is))

pub returns : goal.returns
returns c =
    let w = setting c.args.self.now in
    let es = c.args.found.now.entries in
    let l = c.loop-step in
    elim c.match-get.branch [
      | in-Some+in-First v ↦ walked_all w es c.requires.known c.args.node (map f c.args.unread.now) l.last l.prefix.items l.rest.items l.invariant
          (sym v.in-Some.ensures.value ∙ ap Some v.in-First.is) (record { prefix = c.reverse.new.self; rest = l.rest }) c.reverse.ensures.items refl
      | in_default v ↦ absurd (none_known l.last l.invariant.there.0 es l.invariant.there.1 (sym c.get.ensures.value ∙ ap option_copied v.in_default.is))
    ]
