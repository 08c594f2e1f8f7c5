use Rattle.cfgsection.proofs.NamedLemmas.{one_naming}
use Rattle.cfgsyntax.proofs.SelfNamedLemmas.{parsed_default, parsed_named, refusal_or, refused_at, refused_listed}
use Rattle.cfgsyntax.proofs.yacc.ast.ASTWithValidityInfo.from_str_or.Goals as goal
use Rattle.cfgsyntax.proofs.yacc.ast.ASTWithValidityInfo.from_str_or.Goals.{in-None, in-Some}

pub returns-in-Err-clause-one : goal.returns-in-Err-clause-one
returns-in-Err-clause-one c = one_naming c.args.text.now

pub returns-in-Err-clause-answer : goal.returns-in-Err-clause-answer
returns-in-Err-clause-answer c = refusal_or c.args.text.now c.args.default c.in-Err.fault c.fault_of.result c.in-Err.ensures.naming c.fault_of.ensures

pub returns-in-Err-clause-fault_offsets : goal.returns-in-Err-clause-fault_offsets
returns-in-Err-clause-fault_offsets c = refused_at c.args.text.now c.in-Err.fault c.fault_of.result c.in-Err.ensures.offsets c.fault_of.ensures

pub returns-in-Err-clause-listed : goal.returns-in-Err-clause-listed
returns-in-Err-clause-listed c = refused_listed c.in-Err.fault c.fault_of.result c.in-Err.ensures.listed c.fault_of.ensures

pub returns-in_err-parsed-clause-one : goal.returns-in_err-parsed-clause-one
returns-in_err-parsed-clause-one c = one_naming c.args.text.now

pub returns-clause-one : goal.returns-clause-one
returns-clause-one c = one_naming c.args.text.now

pub returns-clause-answer : goal.returns-clause-answer
returns-clause-answer c =
    let is = c.in-Ok.ensures.naming in
    let parsed = c.in_ok-parsed.ensures.parsed in
    elim c.match-named.branch [
      | in-Some w ↦ parsed_named c.args.text.now c.args.default c.in-Ok.found.0 c.match-named.kind c.in_ok-parsed.parsed w.in-Some.kind is w.in-Some.is w.kind-is parsed
      | in-None w ↦ parsed_default c.args.text.now c.args.default c.in-Ok.found.0 c.match-named.kind c.in_ok-parsed.parsed is w.in-None.is w.kind-is parsed
    ]
