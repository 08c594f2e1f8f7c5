use Rattle.bison_words.proofs.Suffixes.{run_suffix}
use Rattle.bison_words.proofs.scanner.Scanner.some.Goals as goal

pub go_to-requires : goal.go_to-requires
go_to-requires c = run_suffix c.args.class c.args.self.now.rest.now _ _ c.run.ensures.parts
