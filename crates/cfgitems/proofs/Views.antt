-- What the views of keys, entries and copies show.
use Rattle.std.proofs.Common.{◌≡◌, ℕ, Bool, true, false, List, [], ◌∷◌, ◌++◌, map, position, slice_get, Option, Some, None, option_map, Result, Ok, Err, OnErr, String, Global, string_bytes, string_eq, if◌then◌else◌, is_some, refl, sym, ap, ◌∙◌}
use Rattle.std.specs.List.{list_any, position_or_len, AllZip, IsDistinct}
use Rattle.std.specs.Map.{lookup, set_value, keys_of, values_of}
use Rattle.std.specs.Str.{bytes_eq}
use Rattle.std.specs.String.{string_eq_equiv}
use Rattle.std.specs.Cmp.Lexicographic.{bytes_decides, nat_list_eq_equiv}
use Rattle.std.proofs.lemmas.List.{map-append}
use Rattle.std.proofs.lemmas.Simd.{map-map}
use Rattle.std.proofs.lemmas.Map.Made.{is_some-lookup}
use Rattle.std.proofs.lemmas.Option.{slice_get-map}
use Rattle.lemmas.specs.Lists.{pushed_unless}
use Rattle.lemmas.proofs.Copies.{AreCopies, map-copies, option_map-copies}
use Rattle.lemmas.proofs.Options.{None-from_is_some}
use Rattle.lemmas.proofs.Pushed.{map-pushed_unless}
use Rattle.lemmas.proofs.Positions.{position_or_len-map, position_or_len-push, position-distinct}
use Rattle.lemmas.proofs.Tests.{list_any-map}
use Rattle.indexmap.specs.IndexMap.{IndexMap, insert_entry, set_value_at}
use Rattle.indexmap.specs.IndexSet.{insert_key}
use Rattle.indexmap.proofs.CallerLemmas.{insert_entry-new}
use Rattle.cfgbase.specs.declared.span.Span.{Span}
use Rattle.cfgitems.specs.Syntax.{index_of, entry_name, Rule}
use Rattle.cfgitems.specs.Building.{has_name, has_entry, with_entry}
use Rattle.cfgitems.specs.SyntaxView.{text_view, rule_entry, rule_view, span_entry}
use Rattle.cfgitems.specs.declared.rule.Rule as source
use Rattle.cfgitems.proofs.Names.{entries-put}
use Rattle.cfgitems.proofs.Written as one

-- the test by which a text is looked up among keys
abbrev pub is_key : List ℕ → String Global → Bool
is_key name key = bytes_eq name (string_bytes key)

pub has_name-keys : (name : List ℕ) (keys : List (String Global)) → has_name name (map string_bytes keys) ≡ list_any (is_key name) keys
has_name-keys name keys = list_any-map (bytes_eq name) string_bytes keys

pub index_of-keys : (name : List ℕ) (keys : List (String Global)) → index_of name (map string_bytes keys) ≡ position_or_len (is_key name) keys
index_of-keys name keys = position_or_len-map (bytes_eq name) string_bytes keys

-- one more key, of the bytes of a name
pub keys-insert_key : (name : List ℕ) (keys : List (String Global)) (key : String Global) → string_bytes key ≡ name
    → map string_bytes (insert_key string_eq keys key) ≡ pushed_unless (has_name name (map string_bytes keys)) (map string_bytes keys) name
keys-insert_key name keys key is =
    map-pushed_unless string_bytes (list_any (is_key (string_bytes key)) keys) keys key
    ∙ ap (λ b. pushed_unless b (map string_bytes keys) (string_bytes key)) (sym (has_name-keys (string_bytes key) keys))
    ∙ ap (λ n. pushed_unless (has_name n (map string_bytes keys)) (map string_bytes keys) n) is

-- its index
pub index_of-insert_key : (name : List ℕ) (keys : List (String Global)) (key : String Global) → string_bytes key ≡ name
    → index_of name (map string_bytes (insert_key string_eq keys key)) ≡ position_or_len (is_key (string_bytes key)) keys
index_of-insert_key name keys key is =
    index_of-keys name (insert_key string_eq keys key)
    ∙ ap (λ n. position_or_len (is_key n) (insert_key string_eq keys key)) (sym is) ∙ go (list_any (is_key (string_bytes key)) keys)
  where
    go : (b : Bool) → position_or_len (is_key (string_bytes key)) (pushed_unless b keys key) ≡ position_or_len (is_key (string_bytes key)) keys
    go true = refl
    go false = position_or_len-push (is_key (string_bytes key)) keys key (nat_list_eq_equiv.refl (string_bytes key))

-- Entries under the bytes of their keys, with what they show of their values.
module _ {V W : Type 0} (show : V → W) where
  abbrev pub shown_entry : String Global × V → List ℕ × W
  shown_entry entry = (string_bytes entry.0, show entry.1)

  pub has_entry-entries : (name : List ℕ) (es : List (String Global × V)) → has_entry name (map shown_entry es) ≡ is_some (lookup (is_key name) es)
  has_entry-entries name es =
      list_any-map (λ (r : List ℕ × W). bytes_eq name r.0) shown_entry es
      ∙ sym (list_any-map (is_key name) (λ (e : String Global × V). e.0) es) ∙ sym (is_some-lookup (is_key name) es)

  -- one more entry, under a name that no entry has yet
  pub entries-new : {S : Type 0} (name : List ℕ) (m : IndexMap (String Global) V S) (key : String Global) (value : V) → string_bytes key ≡ name
      → has_entry name (map shown_entry m.entries) ≡ false → map shown_entry (insert_entry string_eq m.entries key value) ≡ map shown_entry m.entries ++ (name, show value) ∷ []
  entries-new name m key value is new =
      let absent : lookup (string_eq key) m.entries ≡ None =
      ap (λ n. lookup (is_key n) m.entries) is ∙ None-from_is_some _ (sym (has_entry-entries name m.entries) ∙ new) in
      ap (map shown_entry) (insert_entry-new string_eq m key value absent)
      ∙ map-append shown_entry m.entries ((key, value) ∷ []) ∙ ap (λ n. map shown_entry m.entries ++ (n, show value) ∷ []) is

-- a value that is put under a name, by what it shows
pub shown-put : {V W : Type 0} (show : V → W) (name : List ℕ) (value : V) (before after : List (String Global × V))
    → map (shown_entry (λ v. v)) after ≡ with_entry (Some (name, value)) (map (shown_entry (λ v. v)) before)
    → map (shown_entry show) after ≡ with_entry (Some (name, show value)) (map (shown_entry show) before)
shown-put {V} {W} show name value before after put =
    sym (map-map second plain after) ∙ ap (map second) put
    ∙ entries-put entry_name (λ (entry : List ℕ × V). show entry.1) (map plain before) (Some (name, value))
    ∙ ap (with_entry (Some (name, show value))) (map-map second plain before)
  where
    plain : String Global × V → List ℕ × V
    plain = shown_entry (λ v. v)

    second : List ℕ × V → List ℕ × W
    second entry = (entry.0, show entry.1)

abbrev pub form_view : Span × (String Global × Span) → Span × (List ℕ × Span)
form_view form = (form.0, text_view form.1)

-- a copy of a table of marked tokens, if there is one
pub marked-copies : {S : Type 0} (R : String Global × Span → String Global × Span → Type 0) → ((x y : String Global × Span) → R x y → span_entry y ≡ span_entry x)
    → (o p : Option (IndexMap (String Global) Span S)) → AreCopies (λ x y. AllZip R x.entries y.entries) o p
    → option_map (λ table. map span_entry table.entries) p ≡ option_map (λ table. map span_entry table.entries) o
marked-copies {S} R same o p h =
    option_map-copies (λ x y. AllZip R x.entries y.entries) (λ (table : IndexMap (String Global) Span S). map span_entry table.entries)
    (λ x y h. map-copies R span_entry same x.entries y.entries h) o p h

-- keys differ from each other, so the entry at an index is the one that a look-up of its key finds
pub index_of-entry : {V : Type 0} (name : List ℕ) (es : List (String Global × V)) (i : ℕ) (entry : String Global × V) → IsDistinct string_eq (keys_of es)
    → Some entry ≡ slice_get es i → string_bytes entry.0 ≡ name → Some i ≡ position (is_key name) (keys_of es)
index_of-entry {V} name es i entry distinct at is =
    sym (position-distinct string_eq_equiv (keys_of es) i entry.0 distinct (slice_get-map first es i ∙ ap (option_map first) (sym at)))
    ∙ ap (λ n. position (is_key n) (keys_of es)) is
  where
    first : String Global × V → String Global
    first e = e.0

-- the index of a rule's name among the rules
pub rule_index : (name : List ℕ) (es : List (String Global × source.Rule)) → index_of name (map (λ (rule : List ℕ × Rule). rule.0) (map rule_entry es)) ≡ position_or_len (is_key name) (keys_of es)
rule_index name es =
    ap (index_of name) (map-map (λ (rule : List ℕ × Rule). rule.0) rule_entry es ∙ sym (map-map string_bytes (λ (e : String Global × source.Rule). e.0) es))
    ∙ index_of-keys name (keys_of es)

-- a new one comes after the others
pub rule_index-new : (name : List ℕ) (rules : List (List ℕ × Rule)) (rule : List ℕ × Rule) → rule.0 ≡ name
    → index_of name (map (λ (r : List ℕ × Rule). r.0) (rules ++ rule ∷ [])) ≡ index_of name (map (λ (r : List ℕ × Rule). r.0) rules)
rule_index-new name rules rule is =
    ap (index_of name) (map-append (λ (r : List ℕ × Rule). r.0) rules (rule ∷ []))
    ∙ position_or_len-push (bytes_eq name) (map (λ (r : List ℕ × Rule). r.0) rules) rule.0 (ap (bytes_eq name) is ∙ nat_list_eq_equiv.refl name)

-- the rule, with the production of this index too
abbrev pub longer : ℕ → Rule → Rule
longer i rule = record rule { productions = rule.productions ++ i ∷ [] }

-- The rule of a name, changed.
module _ (name : List ℕ) (change : Rule → Rule) where
  abbrev pub changed : List ℕ × Rule → List ℕ × Rule
  changed rule = if bytes_eq name rule.0 then (rule.0, change rule.1) else rule

  own : (x y : String Global) → is_key name x ≡ true → is_key name y ≡ string_eq x y
  own x y is = ap (λ n. is_key n y) ((bytes_decides name (string_bytes x)).0 is)

  others : (e : String Global × source.Rule) → is_key name e.0 ≡ false → changed (rule_entry e) ≡ rule_entry e
  others e is = λ i. if is i then (string_bytes e.0, change (rule_view e.1)) else rule_entry e

  -- no rule has the name
  pub changed-absent : (es : List (String Global × source.Rule)) → lookup (is_key name) es ≡ None → map changed (map rule_entry es) ≡ map rule_entry es
  changed-absent = one.changed-absent string_eq (is_key name) own rule_entry changed others

  -- keys differ from each other, so only the one rule that is written changes
  pub changed-set_value : (es : List (String Global × source.Rule)) (old new : source.Rule) → IsDistinct string_eq (keys_of es) → lookup (is_key name) es ≡ Some old
      → rule_view new ≡ change (rule_view old) → map rule_entry (set_value (is_key name) es new) ≡ map changed (map rule_entry es)
  changed-set_value es old new distinct found grown = one.changed-set_value string_eq (is_key name) own rule_entry changed others es old new distinct found
      (λ key is. (λ i. (string_bytes key, grown i)) ∙ (λ i. if sym is i then (string_bytes key, change (rule_view old)) else rule_entry (key, old)))

  -- the same if it is written by its index
  pub changed-set_value_at : (es : List (String Global × source.Rule)) (i : ℕ) (old new : source.Rule) → IsDistinct string_eq (keys_of es)
      → i ≡ index_of name (map (λ (rule : List ℕ × Rule). rule.0) (map rule_entry es)) → Some old ≡ slice_get (values_of es) i
      → rule_view new ≡ change (rule_view old) → map rule_entry (set_value_at es i new) ≡ map changed (map rule_entry es)
  changed-set_value_at es i old new distinct is at grown =
      let index : i ≡ position_or_len (is_key name) (keys_of es) = is ∙ rule_index name es in
      ap (map rule_entry) (ap (λ k. set_value_at es k new) index ∙ one.set_value-index (is_key name) es new)
      ∙ changed-set_value es old new distinct (one.lookup-index (is_key name) es ∙ ap (slice_get (values_of es)) (sym index) ∙ sym at) grown

  -- no rule is at that index
  pub changed-no_value_at : (es : List (String Global × source.Rule)) (i : ℕ) → i ≡ index_of name (map (λ (rule : List ℕ × Rule). rule.0) (map rule_entry es))
      → None ≡ slice_get (values_of es) i → map changed (map rule_entry es) ≡ map rule_entry es
  changed-no_value_at es i is none =
      changed-absent es (one.lookup-index (is_key name) es ∙ ap (slice_get (values_of es)) (sym (is ∙ rule_index name es)) ∙ sym none)

-- a rule that isn't changed
pub changed-nothing : (name : List ℕ) (rules : List (List ℕ × Rule)) → map (changed name (λ rule. rule)) rules ≡ rules
changed-nothing name [] = refl
changed-nothing name (rule ∷ rules) = λ i. go (bytes_eq name rule.0) i ∷ changed-nothing name rules i
  where
    go : (b : Bool) → (if b then (rule.0, rule.1) else rule) ≡ rule
    go true = refl
    go false = refl

pub on_err : {T E P : Type 0} (r : Result T E) → P → OnErr r P
on_err (Ok x) h = tt
on_err (Err e) h = h
