use Rattle.std.proofs.Common.{sym}
use Rattle.bison_words.proofs.Suffixes.{strip_suffix}
use Rattle.bison_words.proofs.scanner.Scanner.accept.Goals as goal

pub go_to-requires : goal.go_to-requires
go_to-requires c = strip_suffix c.args.word.now c.args.self.now.rest.now c.in-Some.rest.now (sym c.in-Some.ensures.rest)
