use Rattle.std.proofs.Common.{rules, ◌≡◌}
use Rattle.cfgerrors.specs.Warnings.{same_warning}
use Rattle.cfgerrors.proofs.WarningLemmas.{same_warning_iff}
use Rattle.cfgerrors.proofs.warning.YaccGrammarWarningPartialEq.eq.Goals as goal

pub returns-then-eq : goal.returns-then-eq
returns-then-eq c =
    let value : c.eq-then-eq.result ≡ same_warning c.args.self.now c.args.other.now = search rules in
    record { value = value; same = rw value (same_warning_iff _ _) }
