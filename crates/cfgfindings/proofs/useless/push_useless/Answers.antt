use Rattle.std.proofs.Common.{[], append-nil, length, sym}
use Rattle.cfgrammar.specs.Grammar.{Rule, Sym, Token}
use Rattle.cfgrammar.specs.Numbered.{core}
use Rattle.cfgfindings.specs.Findings.{ReportsUselessRule, ReportsUselessToken}
use Rattle.cfgfindings.specs.Useless.{IsUseless}
use Rattle.cfgfindings.proofs.Reporting.{none_below}
use Rattle.cfgfindings.proofs.useless.push_useless.Goals as goal

pub returns-then-has_no_useless : goal.returns-then-has_no_useless
returns-then-has_no_useless c =
    let g = c.args.unproductive.now in
    let none : (symbol : Sym) → IsUseless (core g) symbol → ⊥ = c.if-has_no_useless.ensures in (
      [],
      [],
      none_below (ReportsUselessRule g) (λ r useless. none (Rule r) useless.useless) (length g.rules),
      none_below (ReportsUselessToken g) (λ t useless. none (Token t) useless.useless) (length g.tokens),
      sym (append-nil c.args.all.now.items),
    )
