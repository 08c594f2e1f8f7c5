use Rattle.std.proofs.Common.{rules}
use Rattle.cfgitems.specs.Syntax.{syntax_of, settings_of, alternatives, firsts, token_words, declared_words, rule_heads}
use Rattle.cfgitems.specs.SyntaxView.{syntax_view}
use Rattle.cfgitems.proofs.syntax.Syntax.none.Goals as goal

pub returns : goal.returns
unfolding syntax_view syntax_of settings_of alternatives firsts token_words declared_words rule_heads
returns c = search rules
