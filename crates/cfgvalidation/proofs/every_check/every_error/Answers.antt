use Rattle.std.proofs.Common.{◌≡◌, slice_get, ap, ◌∙◌, arith}
use Rattle.std.proofs.lemmas.Grind.{common_steps}
use Rattle.cfgast.specs.TreeView.{syntax}
use Rattle.cfgvalidation.specs.EveryError.{every_error}
use Rattle.cfgvalidation.proofs.FirstOfEvery.{first_of_every}
use Rattle.cfgvalidation.proofs.every_check.every_error.Goals as goal

every : (c : goal.In_ok-push_symbols) → c.push_symbols.new.errors.items ≡ every_error (syntax c.args.ast.now)
unfolding every_error
every c = grind (arith, common_steps)

pub returns-clause-first : goal.returns-clause-first
returns-clause-first c = ap (λ errors. slice_get errors 0) (every c) ∙ first_of_every (syntax c.args.ast.now)
