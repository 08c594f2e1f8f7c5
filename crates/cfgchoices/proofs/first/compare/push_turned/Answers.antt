use Rattle.std.proofs.Common.{reverse, rules}
use Rattle.std.proofs.lemmas.Iterator.Adapters.{YieldsList-from_rev_slice, items_from_extend}
use Rattle.std.proofs.lemmas.Iterator.Consumers.{YieldsList-from_copied}
use Rattle.cfgchoices.proofs.first.compare.push_turned.Goals as goal

pub returns : goal.returns
returns g c =
    let h = items_from_extend {all = reverse c.args.symbols.now} c.extend.result c.extend.ensures.ran
    (YieldsList-from_copied (YieldsList-from_rev_slice c.args.symbols.now (search rules))) in
    search rules
