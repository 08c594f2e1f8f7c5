-- The rules and symbols of productions are those of the grammar.
use Rattle.std.proofs.Common.{ℕ, ◌<◌, [], inl, inr, All, length, sym, subst}
use Rattle.std.proofs.lemmas.Bool.{cases_lt}
use Rattle.std.proofs.lemmas.List.{get_or_past}
use Rattle.std.proofs.lemmas.List.Elements.{All-nil}
use Rattle.cfgrammar.specs.Grammar.{Grammar, IsGrammar, IsSymbolOf, Production}
use Rattle.cfgrammar.specs.Openings.{nth_production}

module _ (g : Grammar) (grammar : IsGrammar g) where
  pub rule_within : (p : ℕ) → (nth_production g p).rule < g.rules
  rule_within p = elim (cases_lt p (length g.productions)) [
    | inl within ↦ grammar.owners p (record { rule = 0; symbols = [] }) within
    | inr past ↦ subst (λ (q : Production). q.rule < g.rules) (sym (get_or_past g.productions p (record { rule = 0; symbols = [] }) past)) grammar.start
  ]

  pub symbols_within : (p : ℕ) → All (IsSymbolOf g) (nth_production g p).symbols
  symbols_within p = elim (cases_lt p (length g.productions)) [
    | inl within ↦ grammar.symbols p (record { rule = 0; symbols = [] }) within
    | inr past ↦ subst (λ (q : Production). All (IsSymbolOf g) q.symbols) (sym (get_or_past g.productions p (record { rule = 0; symbols = [] }) past)) (All-nil (IsSymbolOf g))
  ]
