-- Choices that are made one by one: what they give stays the same.
use Rattle.std.proofs.Common.{◌≡◌, ℕ, inl, inr, List, slice_set, Option, Some, None, sym, ap, ◌∙◌}
use Rattle.lemmas.proofs.Elements.{get_or-set}
use Rattle.derivation.specs.Grammar.{Sym}
use Rattle.cfgleast.specs.Certificate.{rule_choice}
use Rattle.cfgchoices.specs.Choices.{ChoicesGive, empty, token, free, chosen}
use Rattle.cfgchoices.specs.Inner.Candidates.{Choices, with_choices}
use Rattle.cfgleast.specs.Generator.{CostTables, cost_answer, choice_answer, where_some}

-- each choice is kept
abbrev pub Keeps : Choices → Choices → Type 0
Keeps l l' = (q : ℕ) (choice : ℕ × ℕ) → rule_choice l q ≡ Some choice → rule_choice l' q ≡ Some choice

pub keeps_one : (l : Choices) (r : ℕ) (choice : ℕ × ℕ) → rule_choice l r ≡ None → Keeps l (slice_set l r (Some choice))
keeps_one l r choice unset q old e = elim (get_or-set l r q (Some choice) None) [
  | inl same ↦ same ∙ e
  | inr is ↦ let no : None ≡ Some old = sym unset ∙ ap (rule_choice l) (sym is.0) ∙ e in absurd (cc)
]

module _ (x : CostTables) where
  module _ (l l' : Choices) (keeps : Keeps l l') where
    answer_kept : (q : ℕ) (choice : ℕ × ℕ) → choice_answer (with_choices x l) q ≡ Some choice → choice_answer (with_choices x l') q ≡ Some choice
    answer_kept q choice = go (cost_answer x q)
      where
        go : (o : Option ℕ) → where_some o (rule_choice l q) ≡ Some choice → where_some o (rule_choice l' q) ≡ Some choice
        go None e = e
        go (Some c) e = keeps q choice e

    pub gives_kept : {a : List Sym} {w : List ℕ} → ChoicesGive (with_choices x l) a w → ChoicesGive (with_choices x l') a w
    gives_kept empty = empty
    gives_kept (token h) = token (gives_kept h)
    gives_kept (free nothing h) = free nothing (gives_kept h)
    gives_kept (chosen {r = q} {p = p} {m = m} costly choice h k e) = chosen costly (answer_kept q (p, m) choice) (gives_kept h) (gives_kept k) e
