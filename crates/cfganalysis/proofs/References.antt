-- Rules are reachable by references exactly as paths lead to them.
use Rattle.std.proofs.Common.{◌≡◌, ℕ, ◌<◌, List, Contains, All, length, refl, sym, ap, ◌∙◌, subst}
use Rattle.std.proofs.lemmas.List.{get_or_default}
use Rattle.std.proofs.lemmas.List.Elements.{All-get_or, Contains-get_or}
use Rattle.derivation.specs.Grammar.{Sym, Rule, Grammar, Production, IsGrammar, IsSymbolOf, HasProduction}
use Rattle.derivation.specs.Path.{Refers, Path, one, more}
use Rattle.search.specs.Reachable.{FoundBy, Reachable, Reaches, SearchState, led, seed}
use Rattle.search.proofs.Reaching.{reaches_as}
use Rattle.cfgtables.specs.Openings.{nth_production, ArePositionsOf}
use Rattle.cfganalysis.specs.Paths.{ProductionRefersAt}

-- the symbols of a production are symbols of the grammar
pub symbols_there : (g : Grammar) (p : ℕ) (symbols : List Sym) → IsGrammar g → p < length g.productions
    → symbols ≡ (nth_production g p).symbols → All (IsSymbolOf g) symbols
symbols_there g p symbols is lt e = subst (λ l. All (IsSymbolOf g) l) (sym e) (is.symbols p _ lt)

-- the rules among symbols
pub found_rules : (symbols : List Sym) (old new : SearchState) → Reaches (FoundBy (λ s r. Rule r ≡ s) symbols) old new
    → Reaches (λ r. Contains symbols (Rule r)) old new
found_rules symbols old new w = reaches_as _ _ old new
    (λ r h. subst (Contains symbols) (sym h.finds) h.among)
    (λ r h. record { thing = Rule r; among = h; finds = refl })
    w

module _ (g : Grammar) (rule : ℕ) (positions : List ℕ) (are : ArePositionsOf g rule positions) where
  -- what the productions with these numbers find is what those of the rule find
  pub found_by_rule : (Finds : List Sym → ℕ → Type 0) (old new : SearchState) → Reaches (FoundBy (λ p. Finds (nth_production g p).symbols) positions) old new
      → Reaches (λ r. (a : List Sym) × HasProduction g rule a × Finds a r) old new
  found_by_rule Finds old new w = reaches_as _ _ old new (λ r h. to r h) (λ r h. from r h) w
    where
      to : (r : ℕ) → FoundBy (λ p. Finds (nth_production g p).symbols) positions r → (a : List Sym) × HasProduction g rule a × Finds a r
      to r h = let lt = All-get_or (λ p. p < length g.productions) positions h.among.0 h.thing h.among.1 are.within in
          let within = subst (λ p. p < length g.productions) h.among.2 lt in (
            (nth_production g h.thing).symbols,
            subst (λ n. HasProduction g n (nth_production g h.thing).symbols) ((are.listed h.thing within).0 h.among)
                (Contains-get_or g.productions h.thing _ within),
            h.finds,
          )

      from : (r : ℕ) → (a : List Sym) × HasProduction g rule a × Finds a r → FoundBy (λ p. Finds (nth_production g p).symbols) positions r
      from r (a, has, finds) =
          let at : nth_production g has.0 ≡ record { rule = rule; symbols = a } = get_or_default g.productions has.0 _ _ has.1 ∙ has.2 in
          record {
            thing = has.0;
            among = (are.listed has.0 has.1).1 (ap (λ p. p.rule) at);
            finds = subst (λ (p : Production). Finds p.symbols r) (sym at) finds;
          }

  -- the rules that a rule's productions contain are those that the rule leads to in one reference
  pub referred_by_rule : (old new : SearchState) → Reaches (FoundBy (ProductionRefersAt g) positions) old new → Reaches (Refers (HasProduction g) rule) old new
  referred_by_rule old new w = reaches_as _ _ old new
      (λ r h. record { symbols = h.0; has = h.1; holds = h.2 })
      (λ r h. (h.symbols, h.has, h.holds))
      (found_by_rule (λ a r. Contains a (Rule r)) old new w)

module _ (P : ℕ → List Sym → Type 0) (a : ℕ) (Seed : ℕ → Type 0) where
  pub path_to_reachable : ((b : ℕ) → Seed b → Refers P a b) → {b : ℕ} → Reachable Seed (Refers P) b → Path P a b
  path_to_reachable holds (seed {a = b} h) = one (holds b h)
  path_to_reachable holds (led r h) = path_more (path_to_reachable holds r) h
    where
      path_more : {a b c : ℕ} → Path P a b → Refers P b c → Path P a c
      path_more (one h) k = more h (one k)
      path_more (more h p) k = more h (path_more p k)

  pub reachable_by_path : ((b : ℕ) → Refers P a b → Seed b) → {b : ℕ} → Path P a b → Reachable Seed (Refers P) b
  reachable_by_path seeds (one {b = b} h) = seed (seeds b h)
  reachable_by_path seeds (more {b = b} h p) = along (seed (seeds b h)) p
    where
      along : {b c : ℕ} → Reachable Seed (Refers P) b → Path P b c → Reachable Seed (Refers P) c
      along r (one h) = led r h
      along r (more h p) = along (led r h) p
