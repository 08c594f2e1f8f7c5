use Rattle.std.proofs.Common.{map, refl}
use Rattle.std.specs.List.{flat_map}
use Rattle.bison_words.specs.Words.{word_view}
use Rattle.bison_tree.specs.Tokens.{tokens_of_part}
use Rattle.bison_tree.proofs.Steps.{stepped}
use Rattle.bison_tree.proofs.tokens.push_of_parts.Goals as goal

pub loop-part-preserved : goal.loop-part-preserved
loop-part-preserved c =
    let tokens = tokens_of_part (map word_view c.args.words.now) in
    stepped (flat_map tokens) tokens (λ x xs. refl) c.args.parts.now c.loop-part.part-index _ c.loop-part-test.true
    c.loop-part.tokens.items c.push_of_part.new.tokens.items _ c.in_ok-push_of_part.ensures c.loop-part.invariant
