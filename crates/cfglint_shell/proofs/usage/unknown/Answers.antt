use Rattle.std.proofs.Common.{refl, append_assoc}
use Rattle.cfglint_shell.proofs.usage.unknown.Goals as goal

pub returns : goal.returns
returns c = rw (c.in_ok-write.ensures.bytes, c.in_ok-push_choice.ensures, c.in_ok-text.ensures.ok) (simp append_assoc refl)
