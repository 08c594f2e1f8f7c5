use Rattle.std.proofs.Common.{arith, rules}
use Rattle.std.proofs.lemmas.Grind.{common_steps}
use Rattle.std.proofs.lemmas.Result.{err_from_is_err_and}
use Rattle.cfgheader.proofs.HeaderResults.{header_results, fault_results, end_at}
use Rattle.cfgheader.proofs.parser.GrmtoolsSectionParser.parse.Goals as goal

pub returns-in_err-entries-clause-answer : goal.returns-in_err-entries-clause-answer
returns-in_err-entries-clause-answer c =
    let p = err_from_is_err_and c.from_residual.result c.from_residual.ensures.1 in
    rw (p.1, p.2) (fault_results c.args.self.now.required c.args.self.now.src.now _ c.in_err-entries.ensures.answer)

pub returns-clause-answer : goal.returns-clause-answer
returns-clause-answer c =
    header_results c.args.self.now.required c.args.self.now.src.now c.in_ok-entries.entries c.in_ok-entries.rest c.in_ok-header.header c.saturating_sub.result
    c.in_ok-entries.ensures.answer c.in_ok-header.ensures (first_of (search rules, grind (arith, common_steps)))

pub returns-clause-end : goal.returns-clause-end
returns-clause-end c =
    end_at c.args.self.now.required c.args.self.now.src.now c.in_ok-entries.ensures.utf8 _ c.in_ok-entries.rest.now c.saturating_sub.result
    c.in_ok-entries.ensures.answer (first_of (search rules, grind (arith, common_steps)))
