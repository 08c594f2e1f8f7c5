-- A list of a table is replaced.
use Rattle.std.proofs.Common.{◌≡◌, ℕ, ◌<◌, List, [], map, get_or, length, slice_set, Vec, Global, Result, Ok, Err, OnErr, sym, ap, subst, ◌∙◌}
use Rattle.std.proofs.lemmas.List.{get_or-map, length-map, map-set, set-get_or}

module _ {T : Type 0} (lists : List (Vec T Global)) (table : List (List T)) (index : ℕ) (shown : map (λ list. list.items) lists ≡ table) where
  abbrev items : Vec T Global → List T
  items list = list.items

  pub replaced : (now : Vec T Global) → map items (slice_set lists index now) ≡ slice_set table index now.items
  replaced now = map-set items lists index now ∙ ap (λ l. slice_set l index now.items) shown

  module _ (was : Vec T Global) (within : index < length table) (is : was ≡ get_or lists index was) where
    pub list_shown : was.items ≡ get_or table index []
    list_shown = sym (ap (λ l. get_or l index []) (sym shown)
        ∙ get_or-map items lists index was [] (subst (λ n. index < n) (sym (ap length shown) ∙ length-map lists items) within) ∙ ap items (sym is))

    pub list_kept : (now : Vec T Global) → now.items ≡ was.items → map items (slice_set lists index now) ≡ table
    list_kept now same = replaced now ∙ ap (slice_set table index) (same ∙ list_shown) ∙ set-get_or table index []

pub on_err : {A E P : Type 0} (r : Result A E) → P → OnErr r P
on_err (Ok x) p = tt
on_err (Err e) p = p
