use Rattle.std.proofs.Common.{rules}
use Rattle.std.proofs.lemmas.Result.{IfOk-weaker}
use Rattle.cfgyacc.proofs.grammar.tables.YaccGrammar.of_parsed.Goals as goal

pub returns-clause-answer : goal.returns-clause-answer
returns-clause-answer g c = IfOk-weaker c.args.parsed _ _ (λ parsed lent. search rules) c.lend.ensures.lent

pub returns-clause-offsets : goal.returns-clause-offsets
returns-clause-offsets g c = IfOk-weaker c.args.parsed _ _ (λ parsed lent text utf8 each. search rules) c.lend.ensures.lent
