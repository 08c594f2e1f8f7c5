use Rattle.std.proofs.Common.{sym}
use Rattle.bison_words.proofs.Suffixes.{byte_suffix}
use Rattle.bison_words.proofs.scanner.Scanner.byte.Goals as goal

pub go_to-requires : goal.go_to-requires
go_to-requires c = byte_suffix c.args.class c.args.self.now.rest.now _ _ (sym c.in_ok-byte.ensures)
