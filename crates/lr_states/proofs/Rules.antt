-- Rules among symbols, and rules that are reached.
use Rattle.std.proofs.Common.{◌≡◌, ◌↔◌, inl, inr, ℕ, ◌+◌, ◌<◌, Bool, List, [], Contains, IsTrue, get_or, length, map, take, sym, ap, subst, ◌∙◌}
use Rattle.std.proofs.lemmas.List.{get_or-map, length-map}
use Rattle.std.proofs.lemmas.List.Elements.{All-contains}
use Rattle.search.specs.Reachable.{FoundBy, Reaches, SearchState}
use Rattle.search.proofs.Reaching.{reaches_as}
use Rattle.cfgrammar.specs.Grammar.{Grammar, Sym, Rule}
use Rattle.cfgrammar.specs.NumberedSymbols.{sym_of}
use Rattle.cfgrammar.specs.Openings.{ArePositionsOf, nth_production}
use Rattle.cfgrammar.specs.Numbered.{Numbered, core, production_core}
use Rattle.cfgrammar.specs.PIdx.{PIdx}
use Rattle.cfgrammar.specs.ProductiveRules.{AreProductiveRules}
use Rattle.cfgrammar.specs.Symbol.{Symbol}
use Rattle.cfgrammar.proofs.Contained.{contains_source}
use Rattle.cfgrammar.proofs.Taken.{contains_taken}
use Rattle.lr_states.specs.declared.Item.{Item}
use Rattle.lr_states.specs.Inner.Closure.{Begins, Enters, IsOn, IsSeed, first, next}
use Rattle.lr_states.specs.Viable.{HasNext, IsUsed, item_at}
use Rattle.lr_states.proofs.Closed.{next_within}

-- each rule among the symbols has its bit on
abbrev pub AreOn : List Bool → List (Symbol ℕ) → Type 0
AreOn bits xs = (x : Symbol ℕ) → Contains xs x → (r : ℕ) → sym_of (λ s. s) x ≡ Rule r → IsOn bits r

module _ (bits : List Bool) (xs : List (Symbol ℕ)) where
  pub on_more : (i : ℕ) (x : Symbol ℕ) → i < length xs → x ≡ get_or xs i x → AreOn bits (take i xs) → ((r : ℕ) → sym_of (λ s. s) x ≡ Rule r → IsOn bits r) → AreOn bits (take (i + 1) xs)
  on_more i x within is known here y h = elim ((contains_taken xs i x within is y).0 h) [
    | inl early ↦ known y early
    | inr same ↦ subst (λ z. (r : ℕ) → sym_of (λ s. s) z ≡ Rule r → IsOn bits r) (sym same) here
  ]

  pub on_all : AreOn bits xs → (r : ℕ) → Contains (map (sym_of (λ s. s)) xs) (Rule r) → IsOn bits r
  on_all known r h = let (x, among, is) = contains_source (sym_of (λ s. s)) xs (Rule r) h in known x among r is

module _ (g : Grammar) (Used : ℕ → Type 0) where
  pub enters_found : (rule : ℕ) (positions : List ℕ) → ArePositionsOf g rule positions → (old new : SearchState) → Reaches (FoundBy (Begins g Used) positions) old new
      → Reaches (Enters g Used rule) old new
  enters_found rule positions are old new w = reaches_as (FoundBy (Begins g Used) positions) (Enters g Used rule) old new
      (λ n h.
      let there = All-contains (λ p. p < length g.productions) positions h.thing are.within h.among in
      record { index = h.thing; used = h.finds.used; owner = (are.listed h.thing there).0 h.among; begins = h.finds.begins })
      (λ n e. record {
        thing = e.index;
        among = (are.listed e.index (next_within g (item_at e.index 0) (Rule n) e.begins)).1 e.owner;
        finds = record { used = e.used; begins = e.begins };
      })
      w

  pub seeds_found : (kernel : List Item) → (kernel ≡ [] → ⊥) → (old new : SearchState) → Reaches (FoundBy (λ item r. HasNext g item (Rule r)) kernel) old new → Reaches (IsSeed g kernel) old new
  seeds_found kernel some old new w = reaches_as (FoundBy (λ item r. HasNext g item (Rule r)) kernel) (IsSeed g kernel) old new
      (λ n h. next h.thing h.among h.finds) (λ n h. found n h) w
    where
      found : (n : ℕ) → IsSeed g kernel n → FoundBy (λ item r. HasNext g item (Rule r)) kernel n
      found n (first none zero) = absurd (some none)
      found n (next item among at) = record { thing = item; among = among; finds = at }

-- the productions of a rule exist
pub position_within : (g : Numbered) (rule : ℕ) (listed : List (PIdx ℕ)) → ArePositionsOf (core g) rule (map (λ p. p.0) listed) → (i : ℕ) (p : PIdx ℕ) → i < length listed
    → p ≡ get_or listed i p → (n : ℕ) → n ≡ p.0 → n < length g.productions
position_within g rule listed are i p within is n same =
    let there : get_or (map (λ p. p.0) listed) i 0 ≡ n = get_or-map (λ p. p.0) listed i p 0 within ∙ ap (λ (p : PIdx ℕ). p.0) (sym is) ∙ sym same in
    let inside = are.within i 0 (subst (λ m. i < m) (sym (length-map listed (λ p. p.0))) within) in
    subst (λ m. n < m) (length-map g.productions production_core) (subst (λ m. m < length (core g).productions) there inside)

-- a production is used exactly if its rules are productive
pub used_is : (g : Grammar) (p : ℕ) → p < length g.productions → (bits : List Bool) → AreProductiveRules g bits → (symbols : List Sym) → symbols ≡ (nth_production g p).symbols
    → (have : Bool) → IsTrue have ↔ ((r : ℕ) → Contains symbols (Rule r) → IsOn bits r) → IsTrue have ↔ IsUsed g p
used_is g p within bits are symbols is have known = (
  (λ yes. record { within = within; productive = λ r h. (are.productive r).0 (known.0 yes r (subst (λ l. Contains l (Rule r)) (sym is) h)) }),
  (λ used. known.1 (λ r h. (are.productive r).1 (used.productive r (subst (λ l. Contains l (Rule r)) is h)))),
)
