use Rattle.std.proofs.Common.{◌≡◌, map, take}
use Rattle.cfgrammar.specs.Lists.{positions}
use Rattle.cfgrammar.specs.TokenNames.{token_names}
use Rattle.lexcheck.specs.Inner.Marks.{AreMarks}
use Rattle.lexcheck.specs.LexerNames.{is_unknown}
use Rattle.lexcheck.proofs.report.mark_given.Given as goal

-- the names before the next one are marked, or their indices noted
abbrev pub invariant-loop-index : goal.invariant-loop-index
invariant-loop-index g l =
    let before = take l.index (map (λ name. name.now) l.names) in
    (l.unknown.items ≡ positions (is_unknown (token_names l.grm)) before) × AreMarks l.grm before l.given
