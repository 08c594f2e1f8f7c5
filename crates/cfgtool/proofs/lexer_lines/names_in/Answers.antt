use Rattle.std.proofs.Common.{◌==◌, not, length, rules, tests}
use Rattle.std.proofs.lemmas.Iterator.Consumers.{YieldsList-at, YieldsList-from_filter, map_from_collect}
use Rattle.std.proofs.lemmas.Iterator.Splits.{YieldsList-from_lines}
use Rattle.cfgtool.proofs.lexer_lines.names_in.Goals as goal

pub returns : goal.returns
returns c = map_from_collect _ c.collect.ensures.ran
    (YieldsList-from_filter _ (λ line. not (length line == 0)) (YieldsList-at c.filter.ensures.source (YieldsList-from_lines c.args.list.now c.lines.ensures.rest)) c.filter.ensures.closure
    (λ x r q k. search (rules, tests)))
