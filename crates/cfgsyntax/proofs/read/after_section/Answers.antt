use Rattle.std.proofs.lemmas.Result.{err_from_is_err_and}
use Rattle.cfgsyntax.proofs.After.{faulty}
use Rattle.cfgsyntax.proofs.read.after_section.Goals as goal

pub returns : goal.returns
returns c = (_, c.in_ok-rest.ensures.answer)

pub returns-in_err-rest : goal.returns-in_err-rest
returns-in_err-rest c =
    let p = err_from_is_err_and c.from_residual.result c.from_residual.ensures.1 in
    rw (p.1, p.2) (faulty c.args.text.now _ c.in_err-rest.ensures.answer)
