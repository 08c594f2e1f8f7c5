use Rattle.cfgyacc.proofs.OfParsed.{answer_spans, of_itself}
use Rattle.cfgyacc.proofs.Refusals.{itself_lists}
use Rattle.cfgyacc.proofs.grammar.tables.YaccGrammar.from_str.Goals as goal

pub returns-clause-answer : goal.returns-clause-answer
returns-clause-answer g c =
    of_itself c.args.text.now g.S.Storage.MAX c.of_parsed.result c.from_str.result c.from_str.ensures.one c.from_str.ensures.answer
    (record { answer = c.of_parsed.ensures.answer; refused = c.of_parsed.ensures.refused })

pub returns-clause-offsets : goal.returns-clause-offsets
returns-clause-offsets g c =
    answer_spans c.args.text.now c.utf8.text c.from_str.result c.of_parsed.result c.from_str.ensures.offsets c.from_str.ensures.fault_offsets
    c.of_parsed.ensures.offsets c.of_parsed.ensures.refused

pub returns-clause-listed : goal.returns-clause-listed
returns-clause-listed g c = itself_lists c.args.text.now g.S.Storage.MAX c.of_parsed.result (returns-clause-answer g c)
