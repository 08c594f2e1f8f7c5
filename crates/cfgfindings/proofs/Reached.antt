-- The symbols of a grammar as the nodes of a search, and what the searches by all productions and by usable ones say of useless symbols.
use Rattle.std.proofs.Common.{◌≡◌, ◌↔◌, ℕ, ◌<◌, ◌≤◌, Bool, true, false, List, All, Contains, IsTrue, Some, get_or, inl, inr, length, not, refl, sym, subst, ap, ◌∙◌, arith, true≢false}
use Rattle.std.proofs.lemmas.Bool.{cases_Bool, not-true}
use Rattle.std.proofs.lemmas.List.{get_or_default}
use Rattle.std.proofs.lemmas.List.Elements.{All-contains}
use Rattle.std.proofs.lemmas.Option.{same_Some}
use Rattle.search.specs.Reachable.{FoundBy, IsReachableIn, Reachable, Reaches, SearchState, led, seed}
use Rattle.search.proofs.Nodes.{knows as knows_nodes}
use Rattle.search.proofs.Reaching.{reaches_as, reaches_known}
use Rattle.cfgrammar.specs.Grammar.{HasProduction, IsGrammar, IsSymbolOf, Production, Rule, Sym, Token}
use Rattle.cfgrammar.specs.Accessors.{IsSymbolWithin}
use Rattle.cfgrammar.specs.Numbered.{Numbered, core}
use Rattle.cfgrammar.specs.NumberedSymbols.{sym_of}
use Rattle.cfgrammar.specs.Openings.{ArePositionsOf, nth_production}
use Rattle.cfgrammar.specs.Symbol.{Symbol}
use Rattle.cfgrammar.specs.Symbol.TheVariants as symbols
use Rattle.cfgrammar.specs.Uses.{IsUsable}
use Rattle.cfgfindings.specs.Useless.{IsReachable, IsUseless, Leads}
use Rattle.cfgfindings.specs.Inner.Reached.{AreReached, RefersAt, IsFollowed, IsFollowedEdge, IsFollowedAt, IsNodeOf, Knows, node_of}
use Rattle.cfgfindings.specs.Inner.Unproductive.{UnproductiveOrNot}
use Rattle.cfgfindings.proofs.Unusable.{UsesByRules}

module _ (g : Numbered) where
  same_symbol : (a b : Sym) (node : ℕ) → IsNodeOf g a node → IsNodeOf g b node → a ≡ b
  same_symbol (Rule r) (Rule q) node (is, at) (other, there) = ap Rule (at ∙ sym there)
  same_symbol (Rule r) (Token t) node (is, at) (other, there) = absurd (omega (arith, is, at, there))
  same_symbol (Token t) (Rule r) node (is, at) (other, there) = absurd (omega (arith, other, at, there))
  same_symbol (Token t) (Token u) node (is, at) (other, there) = let index : t ≡ u = omega (arith, at, there) in ap Token index

  -- a production that is followed is one of the grammar
  has_followed : (only_usable : Bool) (r : ℕ) (symbols : List Sym) → IsFollowed g only_usable r symbols → HasProduction (core g) r symbols
  has_followed true r symbols (sentence, uses) = uses.has
  has_followed false r symbols has = has

module _ (g : Numbered) (is : IsGrammar (core g)) where
  owner_within : (r : ℕ) (symbols : List Sym) → HasProduction (core g) r symbols → r < length g.rules
  owner_within r symbols has = All-contains (λ (p : Production). p.rule < length g.rules) (core g).productions _ is.owners has

  symbol_within : (r : ℕ) (symbols : List Sym) (symbol : Sym) → HasProduction (core g) r symbols → Contains symbols symbol → IsSymbolOf (core g) symbol
  symbol_within r symbols symbol has held = All-contains (IsSymbolOf (core g)) symbols symbol
      (All-contains (λ (p : Production). All (IsSymbolOf (core g)) p.symbols) (core g).productions _ is.symbols has) held

  -- if all rules are productive, usable productions reach what all productions reach
  module _ (law : UsesByRules g) (all : (r : ℕ) → r < length g.rules → UnproductiveOrNot g r false) where
    reached_usably : {symbol : Sym} → IsReachable (HasProduction (core g)) symbol → IsReachable (IsUsable (HasProduction (core g))) symbol
    reached_usably (seed first) = seed first
    reached_usably (led {a = Rule r} reachable (symbols, has, held)) =
        led (reached_usably reachable) (symbols, (law r symbols has).1 (λ q among. all q (symbol_within r symbols (Rule q) has among)), held)
    reached_usably (led {a = Token t} reachable leads) = absurd leads

    pub none_useless : (symbol : Sym) → IsUseless (core g) symbol → ⊥
    none_useless symbol useless = useless.unusably (reached_usably useless.reachable)

  module _ (only_usable : Bool) where
    leader : (a b : Sym) → Leads (IsFollowed g only_usable) a b → (node : ℕ) × IsNodeOf g a node
    leader (Rule r) b (symbols, followed, held) = (r, (owner_within r symbols (has_followed g only_usable r symbols followed), refl))
    leader (Token t) b leads = absurd leads

    -- what a search from the start rule's node has reached
    pub knows : (start : ℕ) → start ≡ 0 → (x : SearchState) → ((n : ℕ) → (IsReachableIn x n ↔ Reachable (λ n. Some start ≡ Some n) (IsFollowedEdge g only_usable) n))
        → Knows g only_usable x
    knows start first x found symbol within =
        knows_nodes (IsNodeOf g) (Leads (IsFollowed g only_usable)) (λ symbol. symbol ≡ Rule 0) (same_symbol g) leader (λ n. Some start ≡ Some n) roots x found
        symbol (node_of g symbol) (within, refl)
      where
        roots : (n : ℕ) → (Some start ≡ Some n) ↔ ((symbol : Sym) × (symbol ≡ Rule 0) × IsNodeOf g symbol n)
        roots n = (
          (λ at. (Rule 0, refl, (is.start, sym first ∙ same_Some _ _ at))),
          (λ h. ap Some (first ∙ sym (ap (node_of g) h.1) ∙ h.2.1)),
        )

module _ (g : Numbered) (only_usable : Bool) where
  -- a production that is followed has its symbols' nodes, and another none
  pub held_if_followed : (p : ℕ) (symbols : List Sym) → (nth_production (core g) p).symbols ≡ symbols → IsFollowedAt g only_usable p → (old new : SearchState)
      → Reaches (FoundBy (IsNodeOf g) symbols) old new → Reaches (RefersAt g only_usable p) old new
  held_if_followed p symbols read followed old new w = reaches_as _ _ old new
      (λ n h. record { followed = followed; holds = subst (λ l. FoundBy (IsNodeOf g) l n) (sym read) h })
      (λ n h. subst (λ l. FoundBy (IsNodeOf g) l n) read h.holds)
      w

  pub referred_unless_followed : (p : ℕ) → (IsFollowedAt g only_usable p → ⊥) → (x : SearchState) → Reaches (RefersAt g only_usable p) x x
  referred_unless_followed p unfollowed x = reaches_known _ x (λ n h. absurd (unfollowed h.followed))

  -- the productions of a rule have the nodes that its node leads to
  pub edges_of_rule : (rule : ℕ) → rule < length g.rules → (positions : List ℕ) → ArePositionsOf (core g) rule positions → (old new : SearchState)
      → Reaches (FoundBy (RefersAt g only_usable) positions) old new → Reaches (IsFollowedEdge g only_usable rule) old new
  edges_of_rule rule within positions are old new w = reaches_as _ _ old new to from w
    where
      to : (n : ℕ) → FoundBy (RefersAt g only_usable) positions n → IsFollowedEdge g only_usable rule n
      to n h =
          let p = h.thing in
          let there = All-contains (λ p. p < length (core g).productions) positions p are.within h.among in
          let owner : (nth_production (core g) p).rule ≡ rule = (are.listed p there).0 h.among in
          let symbols = (nth_production (core g) p).symbols in
          record {
            from = Rule rule;
            there = (within, refl);
            to = h.finds.holds.thing;
            leads = (symbols, subst (λ r. IsFollowed g only_usable r symbols) owner h.finds.followed, h.finds.holds.among);
            is = h.finds.holds.finds;
          }

      from : (n : ℕ) → IsFollowedEdge g only_usable rule n → FoundBy (RefersAt g only_usable) positions n
      from n h =
          let (symbols, followed, held) =
          subst (λ from. Leads (IsFollowed g only_usable) from h.to) (same_symbol g h.from (Rule rule) rule h.there (within, refl)) h.leads in
          let (p, there, at) = has_followed g only_usable rule symbols followed in
          let production : nth_production (core g) p ≡ record { rule = rule; symbols = symbols } = get_or_default (core g).productions p _ _ there ∙ at in
          record {
            thing = p;
            among = (are.listed p there).1 (ap (λ (x : Production). x.rule) production);
            finds = record {
              followed = subst (λ (x : Production). IsFollowed g only_usable x.rule x.symbols) (sym production) followed;
              holds = record { thing = h.to; among = subst (λ (x : Production). Contains x.symbols h.to) (sym production) held; finds = h.is };
            };
          }

  -- a token leads to nothing
  pub leads_nowhere : (node : ℕ) → length g.rules ≤ node → (x : SearchState) → Reaches (IsFollowedEdge g only_usable node) x x
  leads_nowhere node past x = reaches_known _ x (λ n h. absurd (nothing h.from h.there h.to h.leads))
    where
      nothing : (from : Sym) → IsNodeOf g from node → (to : Sym) → Leads (IsFollowed g only_usable) from to → ⊥
      nothing (Rule r) (within, at) to leads = omega (arith, within, at, past)
      nothing (Token t) at to leads = leads

-- what both searches say of a symbol's node
module _ (g : Numbered) (by_any by_usable : SearchState) (are : AreReached g by_any by_usable) (symbol : Sym) (is : IsSymbolOf (core g) symbol)
    (node : ℕ) (at : node ≡ node_of g symbol) (any : Bool) (reads_any : any ≡ get_or by_any.reachable node false) where
  pub useless_if_unusable : any ≡ true → (usable : Bool) → usable ≡ get_or by_usable.reachable node false → IsTrue (not usable) ↔ IsUseless (core g) symbol
  useless_if_unusable reached usable reads_usable = (
    (λ unusable. record {
      sentence = are.start.0;
      is = are.start.1;
      reachable = (are.any symbol is).0 (sym (reads_any ∙ ap (λ n. get_or by_any.reachable n false) at) ∙ reached);
      unusably = λ usably. true≢false (sym (usable_bit ∙ (are.usable symbol is).1 usably) ∙ not-true usable unusable);
    }),
    (λ useless. elim (cases_Bool usable) [
      | inl reached_usably ↦ absurd (useless.unusably ((are.usable symbol is).0 (sym usable_bit ∙ reached_usably)))
      | inr unreached ↦ ap not unreached
    ]),
  )
    where
      usable_bit : usable ≡ get_or by_usable.reachable (node_of g symbol) false
      usable_bit = reads_usable ∙ ap (λ n. get_or by_usable.reachable n false) at

  pub useless_unless_reached : any ≡ false → IsTrue any ↔ IsUseless (core g) symbol
  useless_unless_reached unreached = (
    (λ reached. absurd (true≢false (sym reached ∙ unreached))),
    (λ useless. reads_any ∙ ap (λ n. get_or by_any.reachable n false) at ∙ (are.any symbol is).1 useless.reachable),
  )

-- a symbol that exists is one of the grammar
pub symbol_of : (g : Numbered) (symbol : Symbol ℕ) → IsSymbolWithin (λ s. s) g symbol → IsSymbolOf (core g) (sym_of (λ s. s) symbol)
symbol_of g (symbols.Rule rule) within = within
symbol_of g (symbols.Token token) within = within

-- what is reached is the node of the symbol
pub reaches_node : (g : Numbered) (symbol : Sym) → IsSymbolOf (core g) symbol → (node : ℕ) → node ≡ node_of g symbol → (old new : SearchState)
    → Reaches (λ n. n ≡ node) old new → Reaches (IsNodeOf g symbol) old new
reaches_node g symbol within node is old new w = reaches_as _ _ old new (λ n at. (within, sym (at ∙ is))) (λ n at. sym (is ∙ at.1)) w
