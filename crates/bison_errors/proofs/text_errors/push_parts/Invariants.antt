use Rattle.std.proofs.Common.{◌≡◌, ◌++◌, map, drop}
use Rattle.bison_words.specs.Words.{word_view}
use Rattle.bison_errors.specs.Errors.{none_yet, parts_errors}
use Rattle.bison_errors.proofs.text_errors.push_parts.Given as goal

-- the errors so far, and those of the rest
abbrev pub invariant-loop-part : goal.invariant-loop-part
invariant-loop-part l =
    l.errors.items ++ parts_errors (map word_view l.words) l.once (drop l.part-index l.parts)
    ≡ l.fn.errors.items ++ parts_errors (map word_view l.words) none_yet l.parts
