use Rattle.cfgrammar.proofs.BisonSpans.{name_errors_of_at, syntax_at, text_errors_of_at}
use Rattle.cfgrammar.proofs.bison.laws.spans_are_pieces.Goals as goal

pub returns-clause-tree : goal.returns-clause-tree
returns-clause-tree c = λ text programs utf8. syntax_at text utf8 programs

pub returns-clause-text_errors : goal.returns-clause-text_errors
returns-clause-text_errors c = text_errors_of_at

pub returns-clause-name_errors : goal.returns-clause-name_errors
returns-clause-name_errors c = name_errors_of_at
