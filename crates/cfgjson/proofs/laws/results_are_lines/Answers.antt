use Rattle.cfgjson.proofs.LineTexts.{value_line}
use Rattle.cfgjson.proofs.laws.results_are_lines.Goals as goal

pub returns : goal.returns
returns c name text shown = (value_line _).none
