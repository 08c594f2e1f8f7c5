use Rattle.std.proofs.Common.{rules}
use Rattle.constructs.proofs.TextLemmas.{split_once_split_first}
use Rattle.constructs.proofs.text.split_at_first.Goals as goal

pub returns-clause-parts : goal.returns-clause-parts
returns-clause-parts c = search (rules, split_once_split_first)
