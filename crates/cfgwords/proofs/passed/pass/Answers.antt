use Rattle.std.proofs.Common.{ap, ◌∙◌}
use Rattle.cfgwords.specs.Passed.{passed_len}
use Rattle.cfgwords.proofs.PassedLemmas.{passed_boundary}
use Rattle.cfgwords.proofs.passed.pass.Goals as goal

pub split_at-requires : goal.split_at-requires
split_at-requires c = passed_boundary c.args.kind c.args.text.now c.requires c.passed_len.result (c.passed_len.ensures ∙ ap (passed_len c.args.kind) c.as_bytes.ensures.value)
