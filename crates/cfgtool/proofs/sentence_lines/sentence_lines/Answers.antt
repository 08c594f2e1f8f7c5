use Rattle.std.proofs.Common.{length, string_bytes, rules}
use Rattle.std.proofs.lemmas.Result.{IfOk-weaker}
use Rattle.cfgrammar.specs.Generator.{token_cost}
use Rattle.cfgtool.specs.SentenceLines.{AreSentenceLines, CostsOne, ReportsEach, ReportsRule}
use Rattle.cfgtool.proofs.sentence_lines.sentence_lines.Goals as goal

pub returns : goal.returns
returns c =
    let g = c.args.grammar.now in
    let cost = token_cost c.in_ok-generator.generator in
    let one : CostsOne g cost = λ t below. let paid = c.in_ok-generator.ensures.costs (record { 0 = t }) below in search rules in
    IfOk-weaker c.rule_lines.result (λ lines. ReportsEach (ReportsRule g cost) (length g.rules) (string_bytes lines)) (λ lines. AreSentenceLines g (string_bytes lines))
    (λ lines reported. (cost, one, reported)) c.rule_lines.ensures
