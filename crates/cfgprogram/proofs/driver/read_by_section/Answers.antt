use Rattle.std.proofs.Common.{None, All, sym, subst}
use Rattle.std.proofs.lemmas.Result.{err_from_is_err_and}
use Rattle.cfgrammar.specs.Answer.{WasRead}
use Rattle.cfgrammar.specs.ErrorSpans.{EachErrorSpan}
use Rattle.cfgrammar.specs.TextSpans.{IsPiece}
use Rattle.cfgrammar.specs.YaccFault.TheVariants as faults
use Rattle.cfgrammar.proofs.SelfNamed.{parsed_named, refused_named}
use Rattle.cfgprogram.proofs.ByNaming.{made_unnamed}
use Rattle.cfgprogram.proofs.driver.read_by_section.Goals as goal

pub errors-requires : goal.errors-requires
errors-requires g c =
    let located = rw c.in-Err-Errors.field-0-is at c.in-Err-Errors.ensures.fault_offsets in
    let errors = rw c.in-Err-Errors.errors-is at c.deref.ensures.value in
    subst (All (EachErrorSpan (IsPiece c.args.text.now))) (sym errors) located

pub returns-in-Ok : goal.returns-in-Ok
returns-in-Ok g c =
    let parsed = c.in-Ok.ensures in
    (WasRead c.in-Ok.parsed, parsed_named c.args.text.now parsed.one c.in-Ok.parsed parsed.answer, c.finish.ensures)

pub returns-in_ok-errors-in-Err-Errors : goal.returns-in_ok-errors-in-Err-Errors
returns-in_ok-errors-in-Err-Errors g c =
    let answer = rw c.in-Err-Errors.field-0-is at c.in-Err-Errors.ensures.answer in
    let errors = rw c.in-Err-Errors.errors-is at c.deref.ensures.value in
    let it = refused_named c.args.text.now c.in-Err-Errors.ensures.one (faults.Errors c.in-Err-Errors.errors) answer in
    let OfErrors = g.T.TextReader.of_errors c.args.reader.now c.args.text.now in
    let OfGrammar = g.T.TextReader.of_grammar c.args.reader.now c.args.text.now in
    let made = c.in_ok-errors-in-Err-Errors.field-0 in
    (it.0, it.1, made_unnamed OfErrors OfGrammar it.0 c.in-Err-Errors.errors.items it.2 made (subst (λ errors. OfErrors None errors made) errors c.in_ok-errors-in-Err-Errors.ensures))

pub returns-in_err-errors-in-Err-Errors : goal.returns-in_err-errors-in-Err-Errors
returns-in_err-errors-in-Err-Errors g c =
    let answer = rw c.in-Err-Errors.field-0-is at c.in-Err-Errors.ensures.answer in
    let it = refused_named c.args.text.now c.in-Err-Errors.ensures.one (faults.Errors c.in-Err-Errors.errors) answer in
    let p = err_from_is_err_and c.from_residual.result c.from_residual.ensures.1 in
    rw p.1 (it.0, it.1, tt)

pub returns-in-Err-OutOfMemory : goal.returns-in-Err-OutOfMemory
returns-in-Err-OutOfMemory g c =
    let answer = rw c.in-Err-OutOfMemory.field-0-is at c.in-Err-OutOfMemory.ensures.answer in
    let it = refused_named c.args.text.now c.in-Err-OutOfMemory.ensures.one faults.OutOfMemory answer in
    (it.0, it.1, tt)
