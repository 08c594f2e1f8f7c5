use Rattle.std.proofs.Common.{◌↔◌, [], ◌∷◌, IsTrue, ap, refl, subst, sym, true≢false}
use Rattle.derivation.proofs.UnitPaths.{token_stays}
use Rattle.cfgrammar.specs.Derivation.{Derives}
use Rattle.cfgrammar.specs.Grammar.{Rule}
use Rattle.cfgrammar.specs.NumberedSymbols.{sym_of}
use Rattle.lr_states.specs.Lookaheads.{HasUsed}
use Rattle.lr_states.proofs.Nullables.{nullable_by_used}
use Rattle.lr_conflicts.specs.Inner.Searches.{grammar_of, setting}
use Rattle.lr_conflicts.proofs.examples.ways.Ways.is_nullable.Goals as goal

pub returns-in-Rule : goal.returns-in-Rule
returns-in-Rule c =
    let g = grammar_of c.args.self.now in
    let r = c.in-Rule.rule.0 in
    let by = nullable_by_used g (Rule r ∷ []) in
    let empty = c.requires.ready.firsts.empty r in
    let is = c.is_epsilon_set.ensures in
    subst (λ s. IsTrue c.is_epsilon_set.result ↔ Derives (HasUsed g (setting c.args.self.now).Used) (s ∷ []) []) (sym (ap (sym_of (λ s. s)) c.in-Rule.is))
    ((λ h. by.0 (empty.0 (is.0 h))), (λ d. is.1 (empty.1 (by.1 d))))

pub returns-in-Token : goal.returns-in-Token
returns-in-Token c =
    let g = grammar_of c.args.self.now in (
      (λ no. absurd (true≢false (sym no))),
      (λ d. absurd (token_stays (HasUsed g (setting c.args.self.now).Used) c.in-Token.field-0.0 (ap (λ s. sym_of (λ t. t) s ∷ []) c.in-Token.is) refl d)),
    )
