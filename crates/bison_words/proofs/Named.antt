-- A look-up in the table of directives, row by row.
use Rattle.std.proofs.Common.{◌≡◌, ℕ, ◌+◌, ◌<◌, ◌≤◌, Bool, cond, List, length, map, drop, get_or, Some, None, sym, ap, ◌∙◌}
use Rattle.std.specs.Prelude.{bytes_eq}
use Rattle.std.proofs.lemmas.List.{drop_all, drop_more}
use denote.Ref.{Bor}
use Rattle.bison_words.specs.declared.directive.Directive.{Directive}
use Rattle.bison_words.specs.Directives.{named}
use Rattle.bison_words.specs.Inner.Directives.{shown_row}

module _ (table : List (Bor (List ℕ) × Directive)) (name : List ℕ) (i : ℕ)
    (so_far : named (map shown_row (drop i table)) name ≡ named (map shown_row table) name) where
  -- one row more
  pub by_row : (d : Bor (List ℕ) × Directive) → i < length table → (t : Bool) → bytes_eq (get_or table i d).0.now name ≡ t
      → cond t (Some (get_or table i d).1) (named (map shown_row (drop (i + 1) table)) name) ≡ named (map shown_row table) name
  unfolding named
  by_row d within t e = ap (λ t. cond t (Some (get_or table i d).1) (named (map shown_row (drop (i + 1) table)) name)) (sym e)
      ∙ ap (λ rows. named (map shown_row rows) name) (sym (drop_more table i d within)) ∙ so_far

  -- no row has the name
  pub by_none : length table ≤ i → None ≡ named (map shown_row table) name
  unfolding named
  by_none over = ap (λ rows. named (map shown_row rows) name) (sym (drop_all i table over)) ∙ so_far
