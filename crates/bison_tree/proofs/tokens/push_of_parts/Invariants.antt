use Rattle.std.proofs.Common.{◌≡◌, ◌++◌, map, drop}
use Rattle.std.specs.List.{flat_map}
use Rattle.bison_words.specs.Words.{word_view}
use Rattle.bison_tree.specs.Tokens.{tokens_of_part}
use Rattle.bison_tree.proofs.tokens.push_of_parts.Given as goal

-- those so far, and those of the rest
abbrev pub invariant-loop-part : goal.invariant-loop-part
invariant-loop-part l =
    l.tokens.items ++ flat_map (tokens_of_part (map word_view l.words)) (drop l.part-index l.parts)
    ≡ l.fn.tokens.items ++ flat_map (tokens_of_part (map word_view l.words)) l.parts
