use Rattle.std.proofs.Common.{rules, sym}
use Rattle.std.specs.String.{string_bytes}
use Rattle.cfgwords.proofs.Unescaping.{gathered_on, gathered_all}
use Rattle.cfgwords.proofs.strings.unescaped.Goals as goal

pub loop-prefix-preserved : goal.loop-prefix-preserved
loop-prefix-preserved c = (
  search rules,
  gathered_on c.args.text.now (string_bytes c.loop-prefix.value) _ c.loop-prefix.rest.now c.in-Some.prefix.now c.in-Some.after.now
      c.loop-prefix.invariant.1 (sym c.in-Some.ensures.parts) c.in_ok-push_str.ensures.bytes,
)

pub returns : goal.returns
returns c = gathered_all c.args.text.now (string_bytes c.loop-prefix.value) _ c.loop-prefix.rest.now
    c.loop-prefix.invariant.1 (sym c.in_default.ensures.parts) c.in_ok-push_str-2.ensures.bytes
