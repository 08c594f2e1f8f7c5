-- What whole sides show, and what comes first after their prefixes.
use Rattle.std.proofs.Common.{◌≡◌, ℕ, ◌+◌, List, [], ◌∷◌, ◌++◌, Option, None, Some, drop, length, map, slice_get, refl, sym, ap, subst, ◌∙◌, arith}
use Rattle.std.specs.Prelude.{option_map}
use Rattle.std.proofs.lemmas.List.{drop_all, drop_more}
use Rattle.std.proofs.lemmas.Option.{get_or_from_slice_get, slice_get-map}
use Rattle.cfgrammar.specs.Grammar.{Grammar, Production, Sym, Rule, Token}
use Rattle.cfgrammar.specs.Derivation.{Derives}
use Rattle.cfgrammar.specs.Numbered.{Numbered, NumberedProduction, core, production_core}
use Rattle.cfgrammar.specs.Openings.{nth_production}
use Rattle.cfgrammar.specs.WellNumbered.{IsWhole}
use Rattle.lr_states.specs.Lookaheads.{HasUsed}
use Rattle.lr_states.specs.declared.Item.{Item}
use Rattle.lr_states.specs.Viable.{HasNext}
use Rattle.lr_states.proofs.Spines.{within_at}
use Rattle.lr_conflicts.specs.declared.examples.Side.{Side}
use Rattle.lr_conflicts.specs.declared.examples.nodes.ItemAt.{ItemAt}
use Rattle.lr_conflicts.specs.declared.examples.nodes.Node.TheVariants as nodes
use Rattle.lr_conflicts.specs.Examples.{BeginsAt, IsSide, IsStartApart, ends, rest_of, token}
use Rattle.lr_conflicts.specs.Inner.Ways.{IsSideAt, IsSideWith, Setting}
use Rattle.lr_conflicts.proofs.Derived.{start_alone}

-- with what isn't read of the item's production
pub whole_shown : (S : Setting) (x : ItemAt) (unread : List Sym) (side : Side)
    → unread ≡ drop x.item.read (nth_production S.grammar x.item.production).symbols → IsSideWith S (nodes.Item x) unread side → IsSideAt S x side
whole_shown S x unread side left w =
    let read = w.shown.0 in
    let all = w.rest ∙ ap (λ l. l ++ w.after) left in
    record {
      leads = read.leads;
      is = record { before = read.before; after = w.after; derived = read.derived; used = read.used; prefix = read.is; rest = all };
      follows = λ yes end. subst (BeginsAt S.grammar S.token)
          (sym (all ∙ ap (λ l. l ++ w.after) (drop_all x.item.read (nth_production S.grammar x.item.production).symbols (omega (arith, end))))) (w.shown.1 yes);
    }

module _ (g : Grammar) (Used : ℕ → Type 0) (item : Item) (side : Side) (w : IsSide g Used item side) where
  -- the token that is next in the item
  pub next_begins : (t : ℕ) → HasNext g item (Token t) → BeginsAt g t (rest_of side)
  next_begins t at =
      let list = (nth_production g item.production).symbols in
      let within = within_at list item.read (Token t) at in
      let more : drop item.read list ≡ Token t ∷ drop (item.read + 1) list =
      drop_more list item.read (Token t) within ∙ ap (λ s. s ∷ drop (item.read + 1) list) (get_or_from_slice_get list item.read (Token t) (Token t) at) in
      token (drop (item.read + 1) list ++ w.after) (w.rest ∙ ap (λ l. l ++ w.after) more)

  -- nothing, where the start rule is read
  pub start_ends : (t : ℕ) → IsStartApart g → (nth_production g item.production).rule ≡ 0 → item.read ≡ length (nth_production g item.production).symbols → t + 1 ≡ g.tokens
      → BeginsAt g t (rest_of side)
  start_ends t apart own end last =
      let list = (nth_production g item.production).symbols in
      let none : w.after ≡ [] = start_alone g Used apart w.before w.after
      (subst (λ r. Derives (HasUsed g Used) (Rule 0 ∷ []) (w.before ++ Rule r ∷ w.after)) own w.derived) in
      ends (w.rest ∙ ap (λ l. l ++ w.after) (drop_all item.read list (omega (arith, end))) ∙ none) last

-- the rule of the start production
pub start_rule : (g : Numbered) → IsWhole g → (nth_production (core g) g.start_production).rule ≡ 0
start_rule g is = go (slice_get g.productions g.start_production) refl is.start_production
  where
    go : (o : Option NumberedProduction) → slice_get g.productions g.start_production ≡ o → option_map (λ (p : NumberedProduction). p.rule) o ≡ Some 0
        → (nth_production (core g) g.start_production).rule ≡ 0
    go None is e = absurd (cc)
    go (Some p) is e =
        let own : p.rule ≡ 0 = cc in
        let at : slice_get (map production_core g.productions) g.start_production ≡ Some (production_core p) =
        slice_get-map production_core g.productions g.start_production ∙ ap (option_map production_core) is in
        ap (λ (q : Production). q.rule)
        (get_or_from_slice_get (map production_core g.productions) g.start_production (production_core p) (record { rule = 0; symbols = [] }) at) ∙ own
