use Rattle.std.proofs.Common.{sym}
use Rattle.cfgwords.proofs.IntegerFinder.{number_parsed, number_refused}
use Rattle.cfgwords.proofs.words.leading_integer.Goals as goal

pub returns-in-Ok-clause-exact : goal.returns-in-Ok-clause-exact
returns-in-Ok-clause-exact c =
    number_parsed c.args.text.now c.in_ok-digits.digits.now c.in_ok-digits.rest.now (sym c.in_ok-digits.ensures.exact) c.parse.result c.parse.ensures.value.0 c.in-Ok.number c.in-Ok.is

pub returns-in-Err-clause-exact : goal.returns-in-Err-clause-exact
returns-in-Err-clause-exact c =
    number_refused c.args.text.now c.in_ok-digits.digits.now c.in_ok-digits.rest.now (sym c.in_ok-digits.ensures.exact) c.parse.result c.parse.ensures.value.0 c.in-Err.field-0 c.in-Err.is
