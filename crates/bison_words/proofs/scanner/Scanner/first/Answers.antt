use Rattle.std.proofs.Common.{sym}
use Rattle.bison_words.proofs.Suffixes.{first_suffix}
use Rattle.bison_words.proofs.scanner.Scanner.first.Goals as goal

pub go_to-requires : goal.go_to-requires
go_to-requires c = first_suffix c.args.needle.now c.args.self.now.rest.now _ _ (sym c.in_ok-body.ensures.parts)
