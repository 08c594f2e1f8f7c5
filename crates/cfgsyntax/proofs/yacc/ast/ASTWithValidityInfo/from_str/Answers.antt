use Rattle.cfgsyntax.proofs.SelfNamedLemmas.{parsed_as, refusal, refused_at, refused_listed}
use Rattle.cfgsyntax.proofs.yacc.ast.ASTWithValidityInfo.from_str.Goals as goal

pub returns-in-Err-clause-answer : goal.returns-in-Err-clause-answer
returns-in-Err-clause-answer c = λ naming names.
    refusal c.args.text.now naming c.in-Err.fault c.fault_of.result (c.in-Err.ensures.naming naming names) c.fault_of.ensures

pub returns-in-Err-clause-fault_offsets : goal.returns-in-Err-clause-fault_offsets
returns-in-Err-clause-fault_offsets c = refused_at c.args.text.now c.in-Err.fault c.fault_of.result c.in-Err.ensures.offsets c.fault_of.ensures

pub returns-in-Err-clause-listed : goal.returns-in-Err-clause-listed
returns-in-Err-clause-listed c = refused_listed c.in-Err.fault c.fault_of.result c.in-Err.ensures.listed c.fault_of.ensures

pub returns-clause-answer : goal.returns-clause-answer
returns-clause-answer c = λ naming names.
    parsed_as c.args.text.now naming c.in-Ok.found.0 _ (c.in-Ok.ensures.naming naming names) c.in_ok-read.ensures.parsed
