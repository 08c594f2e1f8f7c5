use Rattle.std.proofs.Common.{◌≡◌, ◌++◌, map, take, string_bytes}
use Rattle.std.specs.List.{concat}
use Rattle.cfgtool.specs.SentenceLines.{token_text}
use Rattle.cfgtool.proofs.sentence_lines.write_tokens.Given as goal

-- the tokens so far are written
abbrev pub invariant-loop-tidx : goal.invariant-loop-tidx
invariant-loop-tidx l = string_bytes l.lines
    ≡ string_bytes l.initial.lines ++ concat (map (token_text l.grammar) (map (λ t. t.0) (take l.tidx-index l.tokens)))
