use Rattle.std.proofs.Common.{◌≡◌, ◌+◌, ◌∙◌, ap, length, take, chars, rules}
use Rattle.std.proofs.lemmas.Str.{chars_from_encodes}
use Rattle.std.specs.List.{after_last}
use Rattle.cfglines.specs.Lines.{is_newline, line_prefix}
use Rattle.cfglines.proofs.newlinecache.character_count.Goals as goal

pub returns : goal.returns
unfolding line_prefix
returns c =
    let count : c.count.result ≡ length (chars c.last_line.result.now) = search (rules, chars_from_encodes) in
    let prefix : c.range.result.now ≡ take c.args.byte c.args.text.now = search rules in
    ap (λ n. n + 1) (count ∙ ap (λ line. length (chars line)) (c.last_line.ensures ∙ ap (after_last is_newline) prefix))
