use Rattle.finding_kinds.proofs.Words as words
use Rattle.finding_kinds.proofs.laws.words_name_kinds.Goals as goal

pub returns : goal.returns
returns c = words.words_name_kinds
