use Rattle.std.proofs.Common.{sym, subst}
use Rattle.cfgwords.specs.TextSpans.{IsPiece, IsWithin}
use Rattle.cfgyacc.specs.GrammarSpans.{EachGrammarSpan}
use Rattle.cfgyacc.proofs.Spans.{grammar_spans, nowhere_located}
use Rattle.cfgyacc.proofs.grammar.tables.YaccGrammar.new_from_ast_with_validity_info.Goals as goal

pub returns-clause-offsets : goal.returns-clause-offsets
returns-clause-offsets g c = λ text utf8 each.
    let parsed = c.args.parsed.now in
    subst (EachGrammarSpan (IsPiece text) (IsWithin text)) (sym c.in_ok-new_from_checked_ast.ensures)
    (grammar_spans (IsPiece text) (IsWithin text) (nowhere_located text utf8) parsed.kind parsed.syntax each.syntax)
