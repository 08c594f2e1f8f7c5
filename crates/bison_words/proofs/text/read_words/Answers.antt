use Rattle.std.proofs.Common.{refl}
use Rattle.bison_words.proofs.Made.{text_read}
use Rattle.bison_words.proofs.ItemSpans.{words_in_text}
use Rattle.bison_words.proofs.text.read_words.Goals as goal

pub returns-clause-read : goal.returns-clause-read
returns-clause-read c = text_read c.args.text.now c.new-scanner.result c.text_words.new.self _ c.new-scanner.ensures.0 c.new-scanner.ensures.1 c.new-scanner.ensures.2 c.in_ok-text_words.ensures.read.2 refl

pub returns-clause-in_text : goal.returns-clause-in_text
returns-clause-in_text c = words_in_text c.args.text.now c.utf8.text _ (returns-clause-read c)
