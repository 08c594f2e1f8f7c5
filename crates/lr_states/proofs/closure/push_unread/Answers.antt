use Rattle.std.proofs.Common.{rules}
use Rattle.std.proofs.lemmas.Iterator.{YieldsList-from_map}
use Rattle.std.proofs.lemmas.Iterator.Adapters.{items_from_extend}
use Rattle.std.proofs.lemmas.Iterator.Consumers.{YieldsList-from_rest}
use Rattle.lr_states.specs.Viable.{item_at}
use Rattle.lr_states.proofs.closure.push_unread.Goals as goal

pub returns-clause-items : goal.returns-clause-items
returns-clause-items c =
    let h = items_from_extend c.extend.result c.extend.ensures.ran
    (YieldsList-from_map _ (λ p. item_at p 0) (YieldsList-from_rest c.args.productions.now.keys cc) c.map.ensures.closure (λ x r q k. search rules)) in
    search rules
