use Rattle.cfgitems.proofs.Law.{adds_syntax_of}
use Rattle.cfgitems.proofs.builder.built_is_syntax.Goals as goal

pub returns : goal.returns
returns c = adds_syntax_of
