use Rattle.std.proofs.lemmas.Result.{err_from_is_err_and}
use Rattle.cfgprogram.proofs.driver.read_text.Goals as goal

pub returns : goal.returns
returns g c =
    let (found, is_found, read) = c.in_ok-made.ensures in
    (found, is_found, read.0)

pub returns-in_err-made : goal.returns-in_err-made
returns-in_err-made g c =
    let (found, is_found, read) = c.in_err-made.ensures in
    let p = err_from_is_err_and c.from_residual.result c.from_residual.ensures.1 in
    rw p.1 (found, is_found, tt)
