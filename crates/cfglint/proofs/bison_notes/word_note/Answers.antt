use Rattle.cfglint.proofs.bison_notes.word_note.Goals as goal

pub returns-in-UnknownDirective : goal.returns-in-UnknownDirective
returns-in-UnknownDirective c = rw c.in-UnknownDirective.is c.question_of.ensures
