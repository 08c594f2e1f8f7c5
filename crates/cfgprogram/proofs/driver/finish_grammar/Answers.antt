use Rattle.std.proofs.Common.{sym, subst}
use Rattle.std.proofs.lemmas.Result.{IfOk-weaker}
use Rattle.cfgrammar.specs.Answer.{WasRead, in_numbers}
use Rattle.cfgrammar.specs.Numbered.{Numbered}
use Rattle.cfgrammar.specs.TextSpans.{IsPiece, IsWithin}
use Rattle.cfgrammar.specs.Syntax.{Syntax, EachSpan}
use Rattle.cfgrammar.specs.TreeView.{syntax}
use Rattle.cfgprogram.specs.ReadText.{IsMadeOfGrammar}
use Rattle.cfgprogram.proofs.driver.finish_grammar.Goals as goal

pub grammar-requires : goal.grammar-requires
grammar-requires g c = subst (EachSpan (IsPiece c.args.text.now) (IsWithin c.args.text.now)) (sym c.ast.ensures.value) c.requires.spans.syntax

pub returns : goal.returns
returns g c =
    let parsed = c.args.parsed.now in
    let OfGrammar = g.T.TextReader.of_grammar c.args.reader.now c.args.text.now in
    IfOk-weaker c.grammar.result (OfGrammar (syntax c.ast.result.now) c.args.grammar.now) (IsMadeOfGrammar OfGrammar (WasRead parsed))
    (λ made of. (
      c.requires.valid.0,
      c.requires.valid.1,
      subst (λ (s : Syntax). OfGrammar s (in_numbers parsed) made) c.ast.ensures.value
          (subst (λ (n : Numbered). OfGrammar (syntax c.ast.result.now) n made) c.requires.numbers of),
    )) c.grammar.ensures
