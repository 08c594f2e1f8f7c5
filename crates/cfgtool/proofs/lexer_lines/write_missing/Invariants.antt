use Rattle.std.proofs.Common.{◌≡◌, ◌++◌, take, string_bytes}
use Rattle.std.specs.List.{flat_map}
use Rattle.cfgtool.specs.LexerLines.{missing_line_of}
use Rattle.cfgtool.proofs.lexer_lines.write_missing.Given as goal

-- the lines so far are written
abbrev pub invariant-loop-tidx : goal.invariant-loop-tidx
invariant-loop-tidx l = string_bytes l.lines
    ≡ string_bytes l.initial.lines ++ flat_map (λ t. missing_line_of l.grammar t.0) (take l.tidx-index l.tokens)
