use Rattle.std.proofs.Common.{◌≡◌, ◌<◌, Ok, Err, OnErr, Some, ap, false, not, slice_get, subst, sym, true}
use Rattle.search.specs.Inner.Marks.{bits_at}
use Rattle.search.proofs.Keys.{bit_on, bit_was, bits_length}
use Rattle.search.proofs.marks.FewMarks.mark.Goals as goal

pub returns-clause-bits : goal.returns-clause-bits
returns-clause-bits c =
    let few = c.args.self.now in
    let within = subst (λ n. c.args.number < n) (bits_length few.bound few.numbers) c.requires in
    bit_on few.bound few.numbers c.args.number within c.insert.new.self c.in_ok-insert.ensures.updates.0

pub returns-clause-changed : goal.returns-clause-changed
returns-clause-changed c =
    let few = c.args.self.now in
    let within = subst (λ n. c.args.number < n) (bits_length few.bound few.numbers) c.requires in
    bit_was few.bound few.numbers c.args.number within c.in_ok-insert.field-0 c.in_ok-insert.ensures.added

pub returns-in_err-insert-clause-refused : goal.returns-in_err-insert-clause-refused
returns-in_err-insert-clause-refused c =
    let few = c.args.self.now in
    let within = subst (λ n. c.args.number < n) (bits_length few.bound few.numbers) c.requires in
    let refused = bit_was few.bound few.numbers c.args.number within true (sym (ap not c.in_err-insert.ensures.absent)) in
    elim c.from_residual.result as (λ r. OnErr r (slice_get (bits_at few.bound few.numbers) c.args.number ≡ Some false)) [
      | Ok _ ↦ tt
      | Err _ ↦ refused
    ]
