use Rattle.std.proofs.Common.{◌≡◌, ◌++◌, map, take}
use Rattle.cfgwords.specs.FileWords.{word_of}
use Rattle.cfgitems.specs.SyntaxView.{named_view, token_view}
use Rattle.cfgitems.proofs.production.push_overridden.Given as goal

abbrev pub invariant-loop-token : goal.invariant-loop-token
invariant-loop-token l = map named_view l.overridden.items ≡ map named_view l.fn.overridden.items ++ map word_of (map token_view (take l.token-index l.earlier))
