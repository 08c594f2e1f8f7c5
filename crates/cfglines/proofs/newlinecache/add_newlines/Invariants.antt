use Rattle.std.proofs.Common.{◌≡◌, ◌+◌, ◌++◌, map}
use Rattle.cfglines.specs.Lines.{newlines_of}
use Rattle.cfglines.proofs.newlinecache.add_newlines.Given as goal

abbrev pub invariant-loop-offset : goal.invariant-loop-offset
invariant-loop-offset l =
    (l.newlines.items ≡ l.fn.newlines.items ++ map (λ offset. l.fn.start + offset) l.yielded)
    × (newlines_of l.text ≡ l.yielded ++ l.offset-iterator)
