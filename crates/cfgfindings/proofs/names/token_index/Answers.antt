use Rattle.std.proofs.Common.{position, bytes_eq, string_bytes, sym, ap, subst, ◌∙◌}
use Rattle.std.specs.List.{IsDistinct}
use Rattle.cfgrammar.proofs.Found.{names_differ}
use Rattle.cfgrammar.proofs.ListPositions.{position-map}
use Rattle.cfgfindings.proofs.names.token_index.Goals as goal

pub returns-clause-distinct : goal.returns-clause-distinct
returns-clause-distinct c = subst (IsDistinct bytes_eq) c.tokens-tokens.ensures (names_differ c.tokens-tokens.result.now.keys c.len-count.ensures.unique)

pub returns-clause-index : goal.returns-clause-index
returns-clause-index c =
    c.get_index_of.ensures.index ∙ sym (position-map (bytes_eq c.args.name.now) string_bytes c.tokens-tokens.result.now.keys)
    ∙ ap (position (bytes_eq c.args.name.now)) c.tokens-tokens.ensures
