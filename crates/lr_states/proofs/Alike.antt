-- The state of the empty prefix, and grammars that have none.
use Rattle.std.proofs.Common.{◌≡◌, ◌==◌, ◌↔◌, inl, inr, ℕ, Bool, true, false, List, [], ◌∷◌, IsTrue, ap, arith, length, not, refl, sym, ◌∙◌}
use Rattle.std.proofs.lemmas.Bool.{cases_Bool}
use Rattle.std.proofs.lemmas.Bool.Decides.{Decides-eqb}
use Rattle.cfgrammar.specs.Grammar.{Grammar}
use Rattle.cfgrammar.proofs.Contained.{contains_first, contains_none}
use Rattle.lr_states.specs.declared.Item.{Item}
use Rattle.lr_states.specs.declared.kernels.Target.{Target}
use Rattle.lr_states.specs.Automaton.{AreGotos, HaveTargets}
use Rattle.lr_states.specs.Viable.{AreStates, IsStateOf, IsViable}
use Rattle.lr_states.specs.Inner.Closure.{IsClosure}
use Rattle.lr_states.proofs.Closed.{closure_state}
use Rattle.lr_states.proofs.Explored.{kernel_first}
use Rattle.lr_states.proofs.Spines.{viable_prefix}

pub none_targets : (g : Grammar) → HaveTargets g (record { rules = g.rules; states = []; targets = [] })
none_targets g = record {
  rules = refl;
  count = refl;
  symbols = λ q within target h. absurd (omega (arith, within));
  ascending = λ q within. absurd (omega (arith, within));
}

module _ (g : Grammar) (Used : ℕ → Type 0) where
  pub none_gotos : (rules : ℕ) (targets : List (List Target)) → AreGotos g Used (record { rules = rules; states = []; targets = targets })
  none_gotos rules targets q within x symbol = absurd (omega (arith, within))

  -- the items for the empty prefix
  pub first_state : (items : List Item) → IsClosure g Used [] items → IsStateOf g Used [] items
  first_state items closure = closure_state g Used [] [] (kernel_first g Used) items closure

  pub none_viable : (IsViable g Used [] → ⊥) → AreStates g Used []
  none_viable none = record {
    each = λ prefix viable. absurd (none (viable_prefix g Used [] prefix viable));
    only = λ q within. absurd (omega (arith, within));
    distinct = λ q r within inside same. absurd (omega (arith, within));
    first = λ some. absurd (omega (arith, some));
    sorted = λ q within. absurd (omega (arith, within));
  }

  -- the empty prefix is viable if it has an item
  pub viable_by : (items : List Item) → IsStateOf g Used [] items → (empty : Bool) → empty ≡ (length items == 0) → IsTrue (not empty) ↔ IsViable g Used []
  viable_by [] state empty is = (
    (λ some. let no : false ≡ true = ap not (sym is) ∙ some in cc),
    (λ viable. absurd (contains_none viable.item ((state viable.item).1 viable.is))),
  )
  viable_by (x ∷ items) state empty is = (
    (λ some. record { item = x; is = (state x).0 (contains_first x items) }),
    (λ viable.
        let some : (length (x ∷ items) == 0) ≡ false = elim (cases_Bool (length (x ∷ items) == 0)) [
          | inl on ↦ absurd (omega (arith, (Decides-eqb (length (x ∷ items)) 0).0 on))
          | inr off ↦ off
        ] in
        ap not (is ∙ some)),
  )
