use Rattle.std.proofs.Common.{ap, ◌∙◌, arith}
use Rattle.cfgsets.specs.Inner.Flat.{table_of}
use Rattle.cfgsets.proofs.Flat.{table_none}
use Rattle.cfgsets.proofs.words.WordTable.new.Goals as goal

pub returns : goal.returns
returns c = ap (table_of c.args.rows c.args.columns _) (c.in_ok-words.ensures.items_if_clones_equal (λ y e. e))
    ∙ table_none c.args.rows c.args.columns _ (omega arith) (omega arith)
