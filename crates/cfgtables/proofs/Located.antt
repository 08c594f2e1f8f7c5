-- Productions by number.
use Rattle.std.proofs.Common.{◌≡◌, ℕ, ◌<◌, length, All, Contains, sym, ap, ◌∙◌, subst}
use Rattle.std.proofs.lemmas.List.Elements.{Contains-get_or}
use Rattle.derivation.specs.Grammar.{Grammar, Production, IsGrammar, IsSymbolOf}
use Rattle.cfgtables.specs.Openings.{nth_production}

pub same_production : (p q : Production) → p.rule ≡ q.rule → p.symbols ≡ q.symbols → p ≡ q
same_production p q e h = ap (λ r. record { rule = r; symbols = p.symbols }) e ∙ ap (λ s. record { rule = q.rule; symbols = s }) h

pub at_position : (g : Grammar) (n : ℕ) (p : Production) → n < length g.productions → p.rule ≡ (nth_production g n).rule → p.symbols ≡ (nth_production g n).symbols → Contains g.productions p
at_position g n p lt e h = subst (λ q. Contains g.productions q) (sym (same_production p (nth_production g n) e h)) (Contains-get_or g.productions n _ lt)

-- a production's rule and symbols are those of the grammar
pub owner : (g : Grammar) (p : Production) → IsGrammar g → Contains g.productions p → p.rule < g.rules
owner g p is has = subst (λ (q : Production). q.rule < g.rules) has.2 (is.owners has.0 p has.1)

pub all_symbols : (g : Grammar) (p : Production) → IsGrammar g → Contains g.productions p → All (IsSymbolOf g) p.symbols
all_symbols g p is has = subst (λ (q : Production). All (IsSymbolOf g) q.symbols) has.2 (is.symbols has.0 p has.1)
