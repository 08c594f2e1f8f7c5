use Rattle.std.proofs.Common.{◌+◌, ◌<◌, ◌^◌, length, ap, sym, subst, Err, ⊎_elim, arith, length-append}
use Rattle.std.proofs.lemmas.Bool.{cases_lt}
use Rattle.std.specs.Iterator.{Yields}
use Rattle.cfglines.specs.Lines.{joined}
use Rattle.cfglines.proofs.Pieces.{joined_push, taken_on}
use Rattle.cfglines.proofs.newlinecache.NewlineCache.from_pieces.Goals as goal

pub loop-piece-init : goal.loop-piece-init
loop-piece-init g c = (c.new-cache.ensures, omega arith)

pub loop-piece-preserved : goal.loop-piece-preserved
loop-piece-preserved g c =
    let holds = c.loop-piece.invariant.0 in
    let bytes = holds.bytes in
    let fits : length (joined c.loop-piece.yielded) + length c.in-Some.piece.now < 2 ^ 64 =
    ⊎_elim (λ h. absurd (let long = c.in_ok-feed.ensures.too_long.1 h in cc)) (λ h. omega arith)
    (cases_lt 18446744073709551615 (c.loop-piece.cache.bytes + length c.in-Some.piece.now)) in
    rw (joined_push c.loop-piece.yielded c.in-Some.piece)
    (c.in_ok-feed.ensures.ok _ holds, omega (arith, length-append (joined c.loop-piece.yielded) c.in-Some.piece.now))

pub returns-in_err-feed-clause-too_long : goal.returns-in_err-feed-clause-too_long
returns-in_err-feed-clause-too_long g c refused =
    let error = rw refused at c.from_residual.ensures.1 in
    let long = c.in_err-feed.ensures.too_long.0 (ap Err (sym error)) in
    let bytes = c.loop-piece.invariant.0.bytes in
    let taken = taken_on g.I.Iterator.next_gives c.args.pieces c.into_iter-piece-iterator.result c.loop-piece.piece-iterator c.next.new.self c.loop-piece.yielded c.in-Some.piece
    c.into_iter-piece-iterator.ensures.into_iter_gives c.loop-piece.yielded_by c.in-Some.ensures.steps in
    (c.loop-piece.yielded, c.in-Some.piece, c.next.new.self, taken, (omega arith, omega arith))

pub returns-in_err-feed-clause-grows : goal.returns-in_err-feed-clause-grows
returns-in_err-feed-clause-grows g c refused =
    let error = rw refused at c.from_residual.ensures.1 in
    let newline = c.in_err-feed.ensures.grows (ap Err (sym error)) in
    let bytes = c.loop-piece.invariant.0.bytes in
    let fits : length (joined c.loop-piece.yielded) + length c.in-Some.piece.now < 2 ^ 64 =
    ⊎_elim (λ h. absurd (let long = c.in_err-feed.ensures.too_long.1 h in cc)) (λ h. omega arith)
    (cases_lt 18446744073709551615 (c.loop-piece.cache.bytes + length c.in-Some.piece.now)) in
    let taken = taken_on g.I.Iterator.next_gives c.args.pieces c.into_iter-piece-iterator.result c.loop-piece.piece-iterator c.next.new.self c.loop-piece.yielded c.in-Some.piece
    c.into_iter-piece-iterator.ensures.into_iter_gives c.loop-piece.yielded_by c.in-Some.ensures.steps in
    (c.loop-piece.yielded, c.in-Some.piece, c.next.new.self, taken, (omega arith, newline))

pub returns-clause-ok : goal.returns-clause-ok
returns-clause-ok g c =
    let items = c.loop-piece.yielded in
    let last = c.loop-piece.piece-iterator in
    let start = c.into_iter-piece-iterator in
    let yielded = subst (λ s. Yields g.I.Iterator.next_gives s items last) start.ensures.into_iter_gives c.loop-piece.yielded_by in
    (items, (c.next.new.self, (last, yielded, c.in-None.ensures.steps)), c.loop-piece.invariant.0, omega arith)
