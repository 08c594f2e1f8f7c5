use Rattle.bison_words.proofs.Suffixes.{few_suffix}
use Rattle.bison_words.proofs.scanner.Scanner.few.Goals as goal

pub go_to-requires : goal.go_to-requires
go_to-requires c = few_suffix _ c.args.self.now.rest.now _ c.few.ensures.1
