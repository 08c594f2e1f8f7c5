use Rattle.std.proofs.Common.{◌≡◌, ◌++◌, map, take, string_bytes}
use Rattle.std.specs.List.{concat}
use Rattle.cfgrammar.specs.Sentences.{numbers_of}
use Rattle.cfgtool.specs.SentenceLines.{sentence_line}
use Rattle.cfgtool.proofs.sentence_lines.write_sentences.Given as goal

-- the lines of the sentences so far are written
abbrev pub invariant-loop-sentence : goal.invariant-loop-sentence
invariant-loop-sentence l = string_bytes l.lines
    ≡ string_bytes l.initial.lines ++ concat (map (sentence_line l.grammar) (map (numbers_of (λ s. s)) (take l.sentence-index l.sentences)))
