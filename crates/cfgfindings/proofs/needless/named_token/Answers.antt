use Rattle.std.proofs.Common.{sym}
use Rattle.cfgfindings.proofs.UsedSymbols.{named_within}
use Rattle.cfgfindings.proofs.needless.named_token.Goals as goal

pub returns-in-Some-clause-within : goal.returns-in-Some-clause-within
returns-in-Some-clause-within c =
    named_within c.args.grammar.now c.in-Some.token.0 c.args.name.now c.token_name-name.result (λ name. name.now) (sym c.in-Some.ensures.value)
    c.token_name-name.ensures.value c.token_name-name.ensures.named
