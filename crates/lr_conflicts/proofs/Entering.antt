-- What is found by the productions of a rule, one after the other.
use Rattle.std.proofs.Common.{◌≡◌, inl, inr, ℕ, ◌+◌, ◌<◌, ◌≤◌, List, Option, Contains, ap, get_or, length, map, take, sym, subst, ◌∙◌}
use Rattle.std.proofs.lemmas.List.{get_or_default, take_all}
use Rattle.std.proofs.lemmas.List.Elements.{All-contains, Contains-get_or}
use Rattle.cfgindex.specs.declared.idxnewtype.PIdx.{PIdx}
use Rattle.cfgrammar.specs.Openings.{ArePositionsOf, nth_production}
use Rattle.cfgrammar.proofs.Contained.{contains_mapped, contains_source}
use Rattle.cfgrammar.proofs.Taken.{contains_taken}
use Rattle.lr_conflicts.specs.declared.examples.nodes.Node.{Node}
use Rattle.lr_conflicts.specs.declared.examples.nodes.Step.{Step}
use Rattle.lr_conflicts.specs.Inner.Ways.{Finds, Setting}
use Rattle.lr_conflicts.proofs.Found.{finds_as, finds_then}

abbrev number : PIdx ℕ → ℕ
number p = p.0

-- by one of these productions
pub record Among (Finds : ℕ → Node → Type 0) (list : List (PIdx ℕ)) (n : Node) : Type 0 where
  pub production : PIdx ℕ
  pub among : Contains list production
  pub finds : Finds production.0 n

module _ (S : Setting) (rule : ℕ) (all : List (PIdx ℕ)) (are : ArePositionsOf S.grammar rule (map number all)) where
  -- the production at an index is one of the rule
  pub position_is : (i p : ℕ) (d : PIdx ℕ) → i < length all → p ≡ (get_or all i d).0 → (p < length S.grammar.productions) × ((nth_production S.grammar p).rule ≡ rule)
  position_is i p d within is =
      let x = get_or all i d in
      let among = contains_mapped number all x (Contains-get_or all i d within) in
      let low = All-contains (λ q. q < length S.grammar.productions) (map number all) x.0 are.within among in
      subst (λ q. (q < length S.grammar.productions) × ((nth_production S.grammar q).rule ≡ rule)) (sym is) (low, (are.listed x.0 low).0 among)

  module _ {from : Option Node} (F : ℕ → Node → Type 0) where
    pub among_more : (i p : ℕ) (d : PIdx ℕ) → i < length all → p ≡ (get_or all i d).0 → (old mid new : List (Node × Step)) → Finds S from (Among F (take i all)) old mid
        → Finds S from (F p) mid new → Finds S from (Among F (take (i + 1) all)) old new
    among_more i p d within is old mid new w v = finds_then S (Among F (take i all)) (F p) (Among F (take (i + 1) all)) old mid new
        (λ n h. elim ((contains_taken all i (get_or all i d) within (get_or_default all i d (get_or all i d) within) h.production).0 h.among) [
          | inl before ↦ inl (record { production = h.production; among = before; finds = h.finds })
          | inr same ↦ inr (subst (λ q. F q n) (ap number same ∙ sym is) h.finds)
        ])
        w v

    -- whatever the productions of the rule find
    pub among_all : (G : Node → Type 0) → ((n : Node) → G n → (p : ℕ) × (p < length S.grammar.productions) × ((nth_production S.grammar p).rule ≡ rule) × F p n) → (i : ℕ)
        → length all ≤ i → (old new : List (Node × Step)) → Finds S from (Among F (take i all)) old new → Finds S from G old new
    among_all G of i most old new w = finds_as S (Among F (take i all)) G old new
        (λ n h.
        let (p, within, own, by) = of n h in
        let (x, among, same) = contains_source number all p ((are.listed p within).1 own) in
        record { production = x; among = subst (λ l. Contains l x) (sym (take_all i all most)) among; finds = subst (λ q. F q n) (sym same) by })
        w
