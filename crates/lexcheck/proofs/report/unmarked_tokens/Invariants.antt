use Rattle.std.proofs.Common.{◌≡◌, ◌≤◌, length, map, take}
use Rattle.cfgrammar.specs.Lists.{positions}
use Rattle.cfgrammar.specs.TokenNames.{token_names}
use Rattle.lexcheck.specs.LexerNames.{is_missing}
use Rattle.lexcheck.proofs.report.unmarked_tokens.Given as goal

-- of the tokens before the next one, the missing ones are listed
abbrev pub invariant-loop-tidx : goal.invariant-loop-tidx
invariant-loop-tidx g l =
    (l.tidx-iterator.end ≡ length l.grm.tokens) × (l.tidx-iterator.start ≤ l.tidx-iterator.end)
    × (map (λ t. g.S.Storage.number t.0) l.missing.items
    ≡ positions (is_missing (map (λ name. name.now) l.names)) (take l.tidx-iterator.start (token_names l.grm)))
