use Rattle.std.proofs.Common.{arith}
use Rattle.search.proofs.Walking.{settled_path}
use Rattle.search.proofs.walk.Walk.settle.Goals as goal

pub returns-clause-known : goal.returns-clause-known
returns-clause-known c =
    let path = c.args.self.now.path.items in
    settled_path c.args.self.now.known.items c.loop-index.self.known.items path c.args.start c.loop-index.index c.args.self.now.count c.requires.path
    (omega (arith, c.loop-index-test.false, c.len-index-end.ensures, c.args.self.now.path.ok.0)) c.loop-index.invariant.done c.loop-index.invariant.rest
