use Rattle.std.proofs.Common.{sym, subst}
use Rattle.std.specs.Str.{IsCharBoundary}
use Rattle.bison_words.proofs.Suffixes.{suffix_boundary}
use Rattle.bison_words.proofs.runs.before.Goals as goal

pub split_at-requires : goal.split_at-requires
split_at-requires c = subst (IsCharBoundary c.args.text.now) (sym c.saturating_sub.ensures) (suffix_boundary c.args.text.now c.args.rest.now c.utf8.rest c.requires)
