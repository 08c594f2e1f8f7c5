-- Productions that no sentence of their rule uses, where it is known which productions are used.
use Rattle.std.proofs.Common.{◌≡◌, ◌↔◌, ℕ, ◌<◌, false, List, ◌∷◌, Some, Contains, length, sym, subst}
use Rattle.std.proofs.lemmas.List.Elements.{Contains-append_right}
use Rattle.cfgrammar.proofs.Contained.{contains_first}
use Rattle.cfgrammar.specs.Grammar.{HasProduction, Rule, Sym}
use Rattle.cfgrammar.specs.Productive.{Productive}
use Rattle.cfgrammar.specs.Uses.{IsUsable}
use Rattle.cfgrammar.specs.Openings.{nth_production}
use Rattle.cfgrammar.specs.Numbered.{Numbered, core}
use Rattle.cfgrammar.specs.Accessors.{production_part}
use Rattle.cfgfindings.specs.Findings.{IsFirstUnproductive, IsUnusable}
use Rattle.cfgfindings.specs.Inner.Unproductive.{UnproductiveOrNot}
use Rattle.cfgfindings.proofs.Read.{has_read, rule_read, symbols_read}

-- some sentence uses a production exactly if each rule in it is productive
abbrev pub UsesByRules : Numbered → Type 0
UsesByRules g = (r : ℕ) (symbols : List Sym) → HasProduction (core g) r symbols
    → IsUsable (HasProduction (core g)) r symbols ↔ ((q : ℕ) → Contains symbols (Rule q) → Productive (HasProduction (core g)) q)

module _ (g : Numbered) (law : UsesByRules g) (p : ℕ) (within : p < length g.productions) (symbols : List Sym)
    (held : production_part (λ production. production.symbols) g p ≡ Some symbols) where
  -- if each rule in it is productive, it is usable
  pub is_usable : ((q : ℕ) → Contains symbols (Rule q) → UnproductiveOrNot g q false)
      → IsUsable (HasProduction (core g)) (nth_production (core g) p).rule (nth_production (core g) p).symbols
  is_usable each =
      let read = symbols_read g p within symbols held in
      (law _ _ (has_read g p within)).1 (λ q among. each q (subst (λ l. Contains l (Rule q)) read among))

  -- if a rule in it is unproductive, it isn't
  pub not_usable : (q : ℕ) → IsFirstUnproductive g symbols q
      → IsUsable (HasProduction (core g)) (nth_production (core g) p).rule (nth_production (core g) p).symbols → ⊥
  not_usable q first usable =
      let read = symbols_read g p within symbols held in
      let holds = subst (λ l. Contains l (Rule q)) (sym first.holds) (Contains-append_right first.prefix (Rule q ∷ first.back) (Rule q) (contains_first (Rule q) first.back)) in
      let among = subst (λ l. Contains l (Rule q)) (sym read) holds in
      let (w, has) = (law _ _ (has_read g p within)).0 usable q among in
      first.unproductive w has

  -- the first unproductive one, in what is shown of the production
  pub first_read : (q : ℕ) → IsFirstUnproductive g symbols q → IsFirstUnproductive g (nth_production (core g) p).symbols q
  first_read q first = subst (λ l. IsFirstUnproductive g l q) (sym (symbols_read g p within symbols held)) first

  pub not_unusable : ((q : ℕ) → Contains symbols (Rule q) → UnproductiveOrNot g q false) → IsUnusable g p → ⊥
  not_unusable each unusable = unusable.unused (is_usable each)

  -- a rule in it is unproductive, though its own rule is productive
  pub is_unusable : (rule : ℕ) → production_part (λ production. production.rule) g p ≡ Some rule → p < g.start_production → UnproductiveOrNot g rule false
      → (q : ℕ) → IsFirstUnproductive g symbols q → IsUnusable g p
  is_unusable rule owner ours productive q first = record {
    ours = ours;
    productive = subst (Productive (HasProduction (core g))) (sym (rule_read g p within rule owner)) productive;
    unused = not_usable q first;
  }
