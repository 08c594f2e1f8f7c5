use Rattle.std.proofs.Common.{Some, All, inl, inr, sym, subst}
use Rattle.std.proofs.lemmas.Result.{IfOk-weaker}
use Rattle.cfgrammar.specs.Answer.{WasRead}
use Rattle.cfgrammar.specs.ErrorSpans.{EachErrorSpan}
use Rattle.cfgrammar.specs.Syntax.{Syntax}
use Rattle.cfgrammar.specs.TextSpans.{IsPiece}
use Rattle.cfgrammar.specs.TreeView.{syntax}
use Rattle.cfgprogram.specs.ReadText.{IsMadeOf, IsMadeOfGrammar}
use Rattle.cfgprogram.proofs.driver.finish_parsed.Goals as goal

pub errors-requires : goal.errors-requires
errors-requires g c =
    let located = rw c.in-Err-Errors.field-0-is at (c.in-Err-Errors.ensures.offsets c.args.text.now c.utf8.text c.requires) in
    let errors = rw c.in-Err-Errors.errors-is at c.deref.ensures.value in
    subst (All (EachErrorSpan (IsPiece c.args.text.now))) (sym errors) located

pub returns-in-Ok : goal.returns-in-Ok
returns-in-Ok g c =
    let OfErrors = g.T.TextReader.of_errors c.args.reader.now c.args.text.now in
    let OfGrammar = g.T.TextReader.of_grammar c.args.reader.now c.args.text.now in
    let found = WasRead c.args.parsed.now in
    IfOk-weaker c.finish_valid.result (IsMadeOfGrammar OfGrammar found) (IsMadeOf OfErrors OfGrammar found) (λ made is. inr is) c.finish_valid.ensures

pub returns-in-Err-Errors : goal.returns-in-Err-Errors
returns-in-Err-Errors g c =
    let refused = rw c.in-Err-Errors.field-0-is at c.in-Err-Errors.ensures.refused in
    let errors = rw c.in-Err-Errors.errors-is at c.deref.ensures.value in
    let OfErrors = g.T.TextReader.of_errors c.args.reader.now c.args.text.now in
    let OfGrammar = g.T.TextReader.of_grammar c.args.reader.now c.args.text.now in
    let parsed = c.args.parsed.now in
    IfOk-weaker c.errors.result (OfErrors (Some (syntax c.ast.result.now)) c.deref.result.now) (IsMadeOf OfErrors OfGrammar (WasRead parsed))
    (λ made of. inl (
      c.in-Err-Errors.errors.items,
      refused,
      subst (λ (s : Syntax). OfErrors (Some s) c.in-Err-Errors.errors.items made) c.ast.ensures.value
          (subst (λ errors. OfErrors (Some (syntax c.ast.result.now)) errors made) errors of),
    )) c.errors.ensures
