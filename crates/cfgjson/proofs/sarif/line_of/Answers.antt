use Rattle.std.proofs.Common.{ap, ◌∙◌}
use Rattle.std.proofs.lemmas.Result.{IfOk-weaker}
use Rattle.serde_json.specs.Written.{compact_text, has_float}
use Rattle.cfgjson.proofs.Results.{result_whole}
use Rattle.cfgjson.proofs.sarif.line_of.Goals as goal

pub returns : goal.returns
returns c =
    let same = c.in_ok-object_of.ensures in
    let whole = ap has_float same ∙ result_whole _ _ _ in
    IfOk-weaker c.to_string.result _ _ (λ line texts. texts whole ∙ ap compact_text same) c.to_string.ensures.text
