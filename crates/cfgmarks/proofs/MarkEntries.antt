-- What writing at a key makes of an ordered list of entries.
use Rattle.std.proofs.Common.{◌≡◌, Bool, true, false, if◌then◌else◌, None, Some, IsSome, is_some, unwrap_or, List, sym, ap, ◌∙◌}
use Rattle.std.specs.declared.cmp.Ordering.{Ordering}
use Rattle.std.specs.declared.cmp.Ordering.TheVariants.{Equal}
use Rattle.std.specs.Cmp.{IsTotalOrder}
use Rattle.std.specs.List.Sorted.{IsStrictlySortedBy}
use Rattle.std.specs.Map.{keys_of}
use Rattle.std.specs.Map as map
use Rattle.std.proofs.lemmas.Map.Steps.{set_value_same}
use Rattle.std.specs.BTreeMap.{insert_entry, is_at}
use Rattle.cfgmarks.specs.declared.markmap.marked.Marked.{Marked}
use Rattle.cfgmarks.specs.declared.markmap.marked.Mark.{Mark}
use Rattle.cfgmarks.specs.declared.markmap.marked.Mark.TheVariants.{Used, Required, Merges}
use Rattle.cfgmarks.specs.Inner.Marking.{set_mark}
use Rattle.lemmas.proofs.Entries.{lookup_inserted, lookup_congr, inserted_twice, set_value_inserts}
use Rattle.cfgmarks.specs.Marks.{Marks, entry_at, marks_at, unmarked, value_at, changed, set_value}

-- writing f's marks through a borrow of a key's entry changes the map by f at that key
pub changed_by_write : {K V : Type 0} (cmp : K → K → Ordering) → IsTotalOrder cmp → (m : Marks K V) (k : K) (x : Marked V) (f : Marked V → Marked V) (es : List (K × Marked V))
    → IsStrictlySortedBy cmp (keys_of m.entries) → entry_at cmp m k ≡ Some x → es ≡ map.set_value (is_at (cmp k)) m.entries (f x)
    → record { entries = es; behavior = m.behavior } ≡ changed cmp m k f
changed_by_write cmp total m k x f es ordered found written =
    let stored : IsSome (entry_at cmp m k) = ap is_some found in
    let same : x ≡ marks_at cmp m k = sym (ap (λ o. unwrap_or o unmarked) found) in
    ap (λ es. record m { entries = es }) (written ∙ set_value_inserts cmp total m.entries k (f x) ordered stored ∙ ap (λ y. insert_entry cmp m.entries k (f y)) same)

-- leaving what was read through a borrow of a key's entry changes nothing
pub unchanged_by_write : {K V : Type 0} (cmp : K → K → Ordering) (m : Marks K V) (k : K) (x w : Marked V) (es : List (K × Marked V)) → entry_at cmp m k ≡ Some x → w ≡ x
    → es ≡ map.set_value (is_at (cmp k)) m.entries w → record { entries = es; behavior = m.behavior } ≡ m
unchanged_by_write cmp m k x w es found same written =
    ap (λ es. record m { entries = es }) (written ∙ ap (map.set_value (is_at (cmp k)) m.entries) same ∙ set_value_same (is_at (cmp k)) m.entries x found)

-- setting a mark keeps the value
pub mark_keeps : (mark : Mark) {V : Type 0} (x : Marked V) → is_some x.value ≡ true → is_some (set_mark mark x).value ≡ true
mark_keeps Used x held = held
mark_keeps Required x held = held
mark_keeps (Merges behavior) x held = held

module _ {K : Type 0} (cmp : K → K → Ordering) (total : IsTotalOrder cmp) where
  -- a change of a key's marks is visible at the key
  pub marks_at_changed : {V : Type 0} (m : Marks K V) (k : K) (f : Marked V → Marked V) → marks_at cmp (changed cmp m k f) k ≡ f (marks_at cmp m k)
  marks_at_changed m k f = ap (λ o. unwrap_or o unmarked) (lookup_inserted cmp total m.entries k (f (marks_at cmp m k)))

  -- a change that keeps values keeps the one at its key
  pub held_through : {V : Type 0} (m n : Marks K V) (k : K) (f : Marked V → Marked V) (found : Bool) → n ≡ (if found then changed cmp m k f else m)
      → ((x : Marked V) → is_some x.value ≡ true → is_some (f x).value ≡ true) → is_some (value_at cmp m k) ≡ true → is_some (value_at cmp n k) ≡ true
  held_through m n k f found is keeps held =
      let at_change : is_some (value_at cmp (changed cmp m k f) k) ≡ true =
      ap (λ x. is_some x.value) (marks_at_changed m k f) ∙ keeps _ held in
      elim found as (λ b. n ≡ (if b then changed cmp m k f else m) → is_some (value_at cmp n k) ≡ true) [
        | true ↦ λ is. ap (λ n. is_some (value_at cmp n k)) is ∙ at_change
        | false ↦ λ is. ap (λ n. is_some (value_at cmp n k)) is ∙ held
      ] is

  -- a value that is put at a key is found there
  pub held_after : {V : Type 0} (m n : Marks K V) (k : K) (v : V) → n ≡ changed cmp m k (set_value v) → is_some (value_at cmp n k) ≡ true
  held_after m n k v is = ap (λ n. is_some (value_at cmp n k)) is ∙ ap (λ x. is_some x.value) (marks_at_changed m k (set_value v))

  module _ {V : Type 0} (m n : Marks K V) (k q : K) (same : cmp k q ≡ Equal) (added : n ≡ changed cmp m k (λ _. unmarked)) where
    -- an entry without marks is found there
    pub added_is : entry_at cmp n q ≡ Some unmarked
    added_is = ap (λ n. entry_at cmp n q) added ∙ sym (lookup_congr cmp total _ k q same) ∙ lookup_inserted cmp total m.entries k unmarked

    -- a change at a new entry is a change at the key that it was made for
    pub changed_after_adding : entry_at cmp m k ≡ None → (f : Marked V → Marked V) → changed cmp n q f ≡ changed cmp m k f
    changed_after_adding absent f =
        let behavior : n.behavior ≡ m.behavior = ap (λ n. n.behavior) added in
        let mark : marks_at cmp n q ≡ unmarked = ap (λ o. unwrap_or o unmarked) added_is in
        let old_mark : marks_at cmp m k ≡ unmarked = ap (λ o. unwrap_or o unmarked) absent in
        let entries : insert_entry cmp n.entries q (f (marks_at cmp n q)) ≡ insert_entry cmp m.entries k (f (marks_at cmp m k)) =
        rw (mark, old_mark, ap (λ n. n.entries) added) (inserted_twice cmp total m.entries k q unmarked (f unmarked) same) in
        λ i. record { entries = entries i; behavior = behavior i }
