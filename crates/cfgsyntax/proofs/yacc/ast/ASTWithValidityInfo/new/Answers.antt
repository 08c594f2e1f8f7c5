use Rattle.std.proofs.lemmas.Result.{IfOk-weaker}
use Rattle.cfgsyntax.specs.SelfNamed.{IsParsedAs}
use Rattle.cfgsyntax.proofs.yacc.ast.ASTWithValidityInfo.new.Goals as goal

pub returns-clause-kind : goal.returns-clause-kind
returns-clause-kind c = IfOk-weaker c.read.result (IsParsedAs c.args.kind c.args.text.now) _ (λ parsed is. is.kind_is) c.read.ensures.parsed

pub returns-clause-syntax : goal.returns-clause-syntax
returns-clause-syntax c = IfOk-weaker c.read.result (IsParsedAs c.args.kind c.args.text.now) _ (λ parsed is. is.syntax) c.read.ensures.parsed

pub returns-clause-errors : goal.returns-clause-errors
returns-clause-errors c = IfOk-weaker c.read.result (IsParsedAs c.args.kind c.args.text.now) _ (λ parsed is. is.errors) c.read.ensures.parsed
