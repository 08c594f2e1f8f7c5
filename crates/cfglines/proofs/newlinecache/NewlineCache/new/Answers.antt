use Rattle.std.proofs.Common.{[], refl}
use Rattle.cfglines.specs.Lines.{newlines_of}
use Rattle.cfglines.proofs.newlinecache.NewlineCache.new.Goals as goal

pub invariant_of-result : goal.invariant_of-result
unfolding newlines_of
invariant_of-result c = ([], record { bytes = refl; newlines = c.new.ensures.items })

pub returns : goal.returns
unfolding newlines_of
returns c = record { bytes = refl; newlines = c.new.ensures.items }
