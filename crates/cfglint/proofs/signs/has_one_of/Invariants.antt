use Rattle.std.proofs.Common.{map, take}
use Rattle.cfglint.specs.Signs.{HasOneOf}
use Rattle.cfglint.proofs.signs.has_one_of.Given as goal

-- none of the words so far
abbrev pub invariant-loop-word : goal.invariant-loop-word
invariant-loop-word l = HasOneOf l.text (map (λ word. word.now) (take l.word-index l.words)) → ⊥
