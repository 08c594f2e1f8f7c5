use Rattle.std.proofs.lemmas.Result.{err_from_is_err_and}
use Rattle.cfgrammar.specs.Answer.{WasRead}
use Rattle.cfgrammar.proofs.SelfNamed.{is_parsed_of, parsed_of}
use Rattle.cfgprogram.proofs.driver.read_as.Goals as goal

pub returns-in_err-parsed : goal.returns-in_err-parsed
returns-in_err-parsed g c =
    let p = err_from_is_err_and c.from_residual.result c.from_residual.ensures.1 in
    let one = c.in_err-parsed.ensures.one in
    rw p.1 (WasRead (parsed_of c.args.kind c.args.text.now one), is_parsed_of c.args.kind c.args.text.now one, tt)

pub returns : goal.returns
returns g c =
    let parsed = c.in_ok-parsed.ensures in
    (WasRead c.in_ok-parsed.parsed, record { one = parsed.one; kind_is = parsed.kind; syntax = parsed.syntax; errors = parsed.errors }, c.finish.ensures)
