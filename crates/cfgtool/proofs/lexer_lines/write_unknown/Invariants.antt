use Rattle.std.proofs.Common.{◌≡◌, ◌++◌, map, take, string_bytes}
use Rattle.std.specs.List.{flat_map}
use Rattle.cfgtool.specs.LexerLines.{unknown_line_at}
use Rattle.cfgtool.proofs.lexer_lines.write_unknown.Given as goal

-- the lines so far are written
abbrev pub invariant-loop-position : goal.invariant-loop-position
invariant-loop-position l = string_bytes l.lines
    ≡ string_bytes l.initial.lines ++ flat_map (unknown_line_at (map (λ name. name.now) l.names)) (take l.position-index l.positions)
