-- Nodes are equal as the code compares them, and which of them a map has.
use Rattle.std.proofs.Common.{◌≡◌, ℕ, zero, suc, ◌≤◌, ◌⊎◌, inl, inr, if◌then◌else◌, Bool, true, false, List, [], ◌∷◌, Option, None, Some, Contains, is_some, slice_get, ap, refl, sym, subst, ◌∙◌, true≢false, arith}
use Rattle.std.specs.Bool.{Decides}
use Rattle.std.specs.Cmp.{booleans_Decides}
use Rattle.std.specs.Map.{lookup}
use Rattle.std.proofs.lemmas.Bool.Decides.{Decides-and, Decides-eqb, Decides-like}
use Rattle.std.proofs.lemmas.Map.Views.{Contains-from_lookup}
use Rattle.std.proofs.lemmas.Option.{slice_get_within}
use Rattle.cfgrammar.proofs.Contained.{contains_cases, contains_none}
use Rattle.lr_states.proofs.Added.{items_Decide}
use Rattle.lr_conflicts.specs.declared.examples.nodes.ItemAt.{ItemAt}
use Rattle.lr_conflicts.specs.declared.examples.nodes.Node.{Node}
use Rattle.lr_conflicts.specs.declared.examples.nodes.OpenedAt.{OpenedAt}
use Rattle.lr_conflicts.specs.declared.examples.nodes.Step.{Step}
use Rattle.lr_conflicts.specs.declared.examples.nodes.Node.TheVariants.{Item, Opened}
use Rattle.lr_conflicts.specs.Inner.Ways.{HasNode}
use Rattle.lr_conflicts.specs.contracts.examples.nodes.NodePartialEq.TheImpl.{ghosts as compared}

items_Compare : (a b : ItemAt) → Decides (compared.eq (Item a) (Item b)) (a ≡ b)
items_Compare a b = Decides-like _
    (λ both. λ i. record { place = both.0 i; item = both.1.0 i; followed = both.1.1 i })
    (λ e. (ap (λ (z : ItemAt). z.place) e, (ap (λ (z : ItemAt). z.item) e, ap (λ (z : ItemAt). z.followed) e)))
    (Decides-and _ _ (Decides-eqb a.place b.place) (Decides-and _ _ (items_Decide a.item b.item) (booleans_Decides a.followed b.followed)))

opened_Compare : (a b : OpenedAt) → Decides (compared.eq (Opened a) (Opened b)) (a ≡ b)
opened_Compare a b = Decides-like _
    (λ both. λ i. record { place = both.0 i; rule = both.1.0 i; first = both.1.1 i })
    (λ e. (ap (λ (z : OpenedAt). z.place) e, (ap (λ (z : OpenedAt). z.rule) e, ap (λ (z : OpenedAt). z.first) e)))
    (Decides-and _ _ (Decides-eqb a.place b.place) (Decides-and _ _ (Decides-eqb a.rule b.rule) (Decides-eqb a.first b.first)))

pub nodes_same : (x y : Node) → compared.eq x y ≡ true → x ≡ y
nodes_same (Item a) (Item b) h = ap Item ((items_Compare a b).0 h)
nodes_same (Opened a) (Opened b) h = ap Opened ((opened_Compare a b).0 h)
nodes_same (Item a) (Opened b) h = absurd (true≢false (sym h))
nodes_same (Opened a) (Item b) h = absurd (true≢false (sym h))

nodes_alike : (x : Node) → compared.eq x x ≡ true
nodes_alike (Item a) = (items_Compare a a).1 refl
nodes_alike (Opened a) = (opened_Compare a a).1 refl

-- a node that is looked up is there with some step
pub known_step : (node : Node) (es : List (Node × Step)) → is_some (lookup (compared.eq node) es) ≡ true → HasNode es node
known_step node es there = go (lookup (compared.eq node) es) refl there
  where
    go : (o : Option Step) → lookup (compared.eq node) es ≡ o → is_some o ≡ true → HasNode es node
    go None is some = absurd (true≢false (sym some))
    go (Some s) is some = (s, Contains-from_lookup nodes_same node s es is)

-- a node that is there is found
pub none_known : (node : Node) (s : Step) (es : List (Node × Step)) → Contains es (node, s) → lookup (compared.eq node) es ≡ None → ⊥
none_known node s [] there none = contains_none (node, s) there
none_known node s (e ∷ es) there none = go (compared.eq node e.0) refl none (contains_cases e (node, s) es there) (none_known node s es)
  where
    go : (b : Bool) → compared.eq node e.0 ≡ b → (if b then Some e.1 else lookup (compared.eq node) es) ≡ None → (e ≡ (node, s)) ⊎ Contains es (node, s)
        → (Contains es (node, s) → lookup (compared.eq node) es ≡ None → ⊥) → ⊥
    go true is none either later = true≢false (ap is_some none)
    go false is none (inl same) later = true≢false (sym (nodes_alike node) ∙ ap (λ (k : Node × Step). compared.eq node k.0) (sym same) ∙ is)
    go false is none (inr there) later = later there none

-- how many are before a node
abbrev pub before : List (Node × Step) → Node → ℕ
before [] node = 0
before (e ∷ es) node = if compared.eq node e.0 then 0 else suc (before es node)

-- a node that is looked up comes after those
pub at_before : (node : Node) (s : Step) (es : List (Node × Step)) → lookup (compared.eq node) es ≡ Some s → slice_get es (before es node) ≡ Some (node, s)
at_before node s [] is = absurd (cc)
at_before node s (e ∷ es) is = go (compared.eq node e.0) refl is (at_before node s es)
  where
    go : (b : Bool) → compared.eq node e.0 ≡ b → (if b then Some e.1 else lookup (compared.eq node) es) ≡ Some s
        → (lookup (compared.eq node) es ≡ Some s → slice_get es (before es node) ≡ Some (node, s)) → slice_get (e ∷ es) (if b then 0 else suc (before es node)) ≡ Some (node, s)
    go true same is later = let key : e.0 ≡ node = sym (nodes_same node e.0 same) in let value : e.1 ≡ s = cc in λ i. Some (key i, value i)
    go false other is later = later is

-- and no place where it is comes before it
pub before_least : (node : Node) (s : Step) (es : List (Node × Step)) (j : ℕ) → slice_get es j ≡ Some (node, s) → before es node ≤ j
before_least node s [] j is = absurd (omega (arith, slice_get_within [] j (node, s) is))
before_least node s (e ∷ es) zero is =
    let same : e ≡ (node, s) = cc in
    subst (λ b. (if b then 0 else suc (before es node)) ≤ 0) (sym (ap (λ (k : Node × Step). compared.eq node k.0) same ∙ nodes_alike node)) (omega arith)
before_least node s (e ∷ es) (suc j) is = go (compared.eq node e.0) (before_least node s es j is)
  where
    go : (b : Bool) → before es node ≤ j → (if b then 0 else suc (before es node)) ≤ suc j
    go true less = omega arith
    go false less = omega (arith, less)
