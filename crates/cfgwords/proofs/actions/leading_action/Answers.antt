use Rattle.std.proofs.Common.{sym}
use Rattle.cfgwords.proofs.ActionFinder.{action_found, after_brace}
use Rattle.cfgwords.proofs.actions.leading_action.Goals as goal

pub split_at-requires-2 : goal.split_at-requires-2
split_at-requires-2 c = after_brace c.as_bytes.result.now _ c.in_ok-len.len c.as_bytes.ensures.utf8 c.in_ok-len.ensures (rw c.as_bytes.ensures.value c.split_at.ensures.back)

pub returns-clause-exact : goal.returns-clause-exact
returns-clause-exact c = action_found c.args.text.now c.in_ok-opened.opened.now c.as_bytes.result.now _ _ _ _ c.in_ok-len.len
    (sym c.in_ok-opened.ensures.rest) c.as_bytes.ensures.value c.in_ok-len.ensures c.split_at.ensures.front c.split_at.ensures.back c.split_at-2.ensures.back c.trim.ensures.trim
