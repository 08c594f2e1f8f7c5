use Rattle.std.proofs.Common.{◌↔◌, [], ◌∷◌, IsTrue, ap, refl, subst, sym, true≢false}
use Rattle.derivation.proofs.UnitPaths.{token_stays}
use Rattle.cfgrammar.specs.Derivation.{Derives}
use Rattle.cfgrammar.specs.Grammar.{Rule}
use Rattle.cfgrammar.specs.NumberedSymbols.{sym_of}
use Rattle.lr_states.specs.Viable.{IsUsed}
use Rattle.lr_states.specs.Lookaheads.{HasUsed}
use Rattle.lr_states.proofs.Nullables.{nullable_by_used}
use Rattle.lr_states.proofs.lookaheads.nullable.is_nullable.Goals as goal

pub returns-in-Rule : goal.returns-in-Rule
returns-in-Rule c = λ g firsts.
    let r = c.in-Rule.rule.0 in
    let by = nullable_by_used g (Rule r ∷ []) in
    let empty = firsts.empty r in
    let is = c.is_epsilon_set.ensures in
    subst (λ s. IsTrue c.is_epsilon_set.result ↔ Derives (HasUsed g (IsUsed g)) (s ∷ []) []) (sym (ap (sym_of (λ s. s)) c.in-Rule.is))
    ((λ h. by.0 (empty.0 (is.0 h))), (λ d. is.1 (empty.1 (by.1 d))))

pub returns-in-Token : goal.returns-in-Token
returns-in-Token c = λ g firsts. (
  (λ no. absurd (true≢false (sym no))),
  (λ d. absurd (token_stays (HasUsed g (IsUsed g)) c.in-Token.field-0.0 (ap (λ s. sym_of (λ t. t) s ∷ []) c.in-Token.is) refl d)),
)
