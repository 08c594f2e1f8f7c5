use Rattle.std.proofs.Common.{◌≡◌, ◌++◌, string_bytes, arith}
use Rattle.std.proofs.lemmas.Grind.{common_steps}
use Rattle.cfgjson.proofs.LineTexts.{line_added}
use Rattle.cfgjson.proofs.diagnostic.push_line.Goals as goal

pub returns : goal.returns
returns c =
    let first : string_bytes c.push_str.new.self ≡ string_bytes c.args.out.now ++ string_bytes c.in_ok-line.line = grind (arith, common_steps, c.in_ok-push_str.ensures.bytes) in
    line_added c.push_str-2.result _ _ _ _ _ c.in_ok-line.ensures first c.push_str-2.ensures.bytes
