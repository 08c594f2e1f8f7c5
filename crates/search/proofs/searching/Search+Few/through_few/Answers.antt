use Rattle.std.proofs.Common.{[], ap, ◌∙◌}
use Rattle.search.specs.Inner.Marks.{bits_at}
use Rattle.search.proofs.Keys.{no_bits}
use Rattle.search.proofs.searching.Search+Few.through_few.Goals as goal

pub returns : goal.returns
returns c =
    ap (λ l. record { reachable = bits_at c.args.nodes c.new.result; waiting = l }) c.new-2.ensures.items
    ∙ ap (λ l. record { reachable = l; waiting = [] }) (no_bits c.args.nodes c.new.result c.new.ensures.empty)
