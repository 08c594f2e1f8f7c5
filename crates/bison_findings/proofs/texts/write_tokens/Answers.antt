use Rattle.std.proofs.lemmas.List.Elements.{Contains-get_or}
use Rattle.bison_findings.proofs.texts.write_tokens.Goals as goal

pub write_token-requires-in-loop-clash : goal.write_token-requires-in-loop-clash
write_token-requires-in-loop-clash c = (c.requires.same _ (Contains-get_or c.args.same.now c.loop-clash.clash-index _ c.loop-clash-test.true)).token
