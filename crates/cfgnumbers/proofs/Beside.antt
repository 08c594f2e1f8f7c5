-- What parallel lists of rules, symbols and rows show of productions.
use Rattle.std.proofs.Common.{◌≡◌, ℕ, ◌<◌, List, [], ◌∷◌, ◌++◌, length, map, get_or, slice_get, option_map, Some, arith, refl, sym, ap, ◌∙◌}
use Rattle.std.specs.List.{zip}
use Rattle.std.proofs.lemmas.List.{length-map, map-append}
use Rattle.std.proofs.lemmas.Option.{slice_get-map, slice_get_read}
use Rattle.std.proofs.lemmas.Slice.Zip.{length-zip}
use Rattle.indexmap.proofs.ReorderLemmas.{slice_get-zip_some, zip_push}
use Rattle.cfgindex.specs.declared.idxnewtype.RIdx.{RIdx}
use Rattle.cfgindex.specs.declared.idxnewtype.Symbol.{Symbol}
use Rattle.cfgtables.specs.NumberedSymbols.{sym_of}
use Rattle.cfgnumbers.specs.Numbered.{NumberedProduction}
use Rattle.cfgnumbers.specs.TablesView.{production_view}
use Rattle.cfgnumbers.specs.declared.rows.ProductionRow.{ProductionRow}
use Rattle.lemmas.proofs.Elements.{element_at}

module _ {S : Type 0} (number : S → ℕ) (rules : List (RIdx S)) (lists : List (List (Symbol S))) (rows : List ProductionRow)
    (same : (length rules ≡ length rows) × (length lists ≡ length rows)) (xs : List NumberedProduction) (shown : map (production_view number) (zip rules (zip lists rows)) ≡ xs) where
  pub beside-length : length xs ≡ length rows
  beside-length = omega (arith, same.0, same.1, ap length shown, length-map (zip rules (zip lists rows)) (production_view number), length-zip rules (zip lists rows), length-zip lists rows)

  -- one more of each, and what they then show
  pub pushed : (rule : RIdx S) (list : List (Symbol S)) (row : ProductionRow) (rules' : List (RIdx S)) (lists' : List (List (Symbol S))) (rows' : List ProductionRow)
      → rules' ≡ rules ++ rule ∷ [] → lists' ≡ lists ++ list ∷ [] → rows' ≡ rows ++ row ∷ []
      → map (production_view number) (zip rules' (zip lists' rows')) ≡ xs ++ production_view number (rule, (list, row)) ∷ []
  pushed rule list row rules' lists' rows' rules_are lists_are rows_are =
      (λ i. map (production_view number) (zip (rules_are i) (zip (lists_are i) (rows_are i))))
      ∙ ap (λ pairs. map (production_view number) (zip (rules ++ rule ∷ []) pairs)) (zip_push lists rows list row (sym same.1))
      ∙ ap (map (production_view number)) (zip_push rules (zip lists rows) rule (list, row) (omega (arith, same.0, same.1, length-zip lists rows)))
      ∙ map-append (production_view number) (zip rules (zip lists rows)) ((rule, (list, row)) ∷ [])
      ∙ ap (λ l. l ++ production_view number (rule, (list, row)) ∷ []) shown

  -- what is read at an index
  module _ (index : ℕ) (within : index < length xs) where
    pub in_rows : index < length rows
    in_rows = omega (arith, within, beside-length)

    pub in_rules : index < length rules
    in_rules = omega (arith, within, beside-length, same.0)

    pub in_lists : index < length lists
    in_lists = omega (arith, within, beside-length, same.1)

    at : (rule : RIdx S) (list : List (Symbol S)) (row : ProductionRow) → slice_get rules index ≡ Some rule → slice_get lists index ≡ Some list → slice_get rows index ≡ Some row
        → slice_get xs index ≡ Some (production_view number (rule, (list, row)))
    at rule list row rule_at list_at row_at =
        ap (λ l. slice_get l index) (sym shown) ∙ slice_get-map (production_view number) (zip rules (zip lists rows)) index
        ∙ ap (option_map (production_view number)) (slice_get-zip_some rules (zip lists rows) index rule (list, row) rule_at (slice_get-zip_some lists rows index list row list_at row_at))

    pub rule_beside : (rule : RIdx S) → rule ≡ get_or rules index rule → option_map (λ (p : NumberedProduction). p.rule) (slice_get xs index) ≡ Some (number rule.0)
    rule_beside rule is =
        let list = element_at lists index in_lists in
        let row = element_at rows index in_rows in
        ap (option_map (λ (p : NumberedProduction). p.rule)) (at rule list.0 row.0 (slice_get_read rules (length rules) index rule refl in_rules is) list.1 row.1)

    pub symbols_beside : (list : List (Symbol S)) → slice_get lists index ≡ Some list
        → option_map (λ (p : NumberedProduction). p.symbols) (slice_get xs index) ≡ Some (map (sym_of number) list)
    symbols_beside list is =
        let rule = element_at rules index in_rules in
        let row = element_at rows index in_rows in
        ap (option_map (λ (p : NumberedProduction). p.symbols)) (at rule.0 list row.0 rule.1 is row.1)

    pub row_beside : (row : ProductionRow) → row ≡ get_or rows index row → (rule : RIdx S) × (list : List (Symbol S)) × (slice_get xs index ≡ Some (production_view number (rule, (list, row))))
    row_beside row is =
        let rule = element_at rules index in_rules in
        let list = element_at lists index in_lists in
        (rule.0, list.0, at rule.0 list.0 row rule.1 list.1 (slice_get_read rows (length rows) index row refl in_rows is))
