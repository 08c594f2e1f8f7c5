use Rattle.bison_words.proofs.Suffixes.{character_suffix}
use Rattle.bison_words.proofs.scanner.Scanner.character.Goals as goal

pub go_to-requires : goal.go_to-requires
go_to-requires c = character_suffix c.args.self.now.rest.now _ c.after_character-rest.ensures
