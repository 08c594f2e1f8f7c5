use Rattle.std.proofs.Common.{◌≡◌, map, fold, drop}
use Rattle.std.specs.String.{string_bytes}
use Rattle.bison_tree.specs.Names.{each_once, with_one}
use Rattle.bison_tree.specs.Tokens.{token_names}
use Rattle.bison_tree.proofs.tokens.token_names.Given as goal

-- those so far, with those of the rest
abbrev pub invariant-loop-token : goal.invariant-loop-token
invariant-loop-token l =
    fold with_one (map string_bytes l.set.keys) (token_names (map string_bytes l.names) (drop l.token-index l.tokens))
    ≡ each_once (token_names (map string_bytes l.names) l.tokens)
