use Rattle.cfgjson.proofs.LineTexts.{are_json_lines}
use Rattle.cfgjson.proofs.Places.{object_shallow, object_whole}
use Rattle.cfgjson.proofs.diagnostic.line_of.Goals as goal

pub returns : goal.returns
returns c = are_json_lines c.to_string.result _ _ c.in_ok-object_of.ensures
    (object_whole _ _ _) (object_shallow _ _ _) c.to_string.ensures.text c.to_string.ensures.reads_back
