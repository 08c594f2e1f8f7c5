-- Tables of bits in one list of words: a write to the words of one row leaves the other rows as they are.
use Rattle.std.proofs.Common.{◌≡◌, ◌≢◌, ℕ, ◌+◌, ◌-◌, ◌*◌, ◌/◌, ◌%◌, ◌^◌, ◌<◌, ◌≤◌, ◌==◌, ◌||◌, ◌⊎◌, bit_or, inl, inr, Bool, true, false, not, All, List, Vec, [], length, get_or, slice_set, replicate, MatchBool, IsTrue, arith, refl, sym, ap, ◌∙◌, subst, ext_get_or, get_or-set_same, get_or-set_other, length-set}
use Rattle.std.specs.List.{between}
use Rattle.std.specs.Vec.{with_items}
use Rattle.std.specs.Int.{bit_at}
use Rattle.std.proofs.lemmas.Bool.{cases_eq, cases_lt}
use Rattle.std.proofs.lemmas.Nat.{row_fits}
use Rattle.std.proofs.lemmas.Nat.Bits.{bit_at-zero}
use Rattle.std.proofs.lemmas.List.{get_or_default, get_or_past, with_items_is, length-replicate}
use Rattle.std.proofs.lemmas.List.Edits.{length-between, get_or-between}
use Rattle.std.proofs.lemmas.List.FromFn.{length-map-range_with_len, get_or-map-range_with_len}
use Rattle.lemmas.proofs.Elements.{get_or-replicate_default}
use Rattle.cfgindex.specs.BitWords.{AreWords, bits_of}
use Rattle.cfgindex.proofs.Words.{length-bits_of, get_or-bits_of, same_length, word_within, word_bit_read, words_set, bits_set, words_joined, bits_joined, joined_changed}
use Rattle.cfgindex.proofs.Joining.{Joining, joining_none, joining_more, joining_all, joining_grew}
use Rattle.cfgsets.specs.Table.{Table, Joins, bit, no_bits, row_of, with_bit}
use Rattle.cfgsets.specs.Inner.Flat.{AreRows, JoinsWords, table_of, words_of}
use Rattle.cfgsets.specs.Inner.Joined.{GrewTo, joined}
use Rattle.cfgsets.proofs.Joins.{joins_list}

-- rows don't overlap
below_row : (n a b : ℕ) → a < b → a * n + n ≤ b * n
below_row n a b lt = row_fits a n b n lt (omega arith)

pub rows_apart : (n a b : ℕ) → a ≢ b → (a * n + n ≤ b * n) ⊎ (b * n + n ≤ a * n)
rows_apart n a b ne = elim (cases_lt a b) [
  | inl lt ↦ inl (below_row n a b lt)
  | inr le ↦ inr (below_row n b a (omega (arith, le, ne)))
]

-- a part of a list after a write to it
pub between_set : (words : List ℕ) (at n i v : ℕ) → i < n → at + n ≤ length words
    → between at (at + n) (slice_set words (at + i) v) ≡ slice_set (between at (at + n) words) i v
between_set words at n i v lt fits = ext_get_or 0 _ _ (long_new ∙ sym (length-set (between at (at + n) words) i v ∙ long)) (λ k h. go k (subst (λ m. k < m) long_new h) (cases_eq k i))
  where
    long : length (between at (at + n) words) ≡ n
    long = length-between words at (at + n) fits ∙ omega arith

    long_new : length (between at (at + n) (slice_set words (at + i) v)) ≡ n
    long_new = length-between (slice_set words (at + i) v) at (at + n) (subst (λ m. at + n ≤ m) (sym (length-set words (at + i) v)) fits) ∙ omega arith

    go : (k : ℕ) → k < n → (k ≡ i) ⊎ (k ≡ i → ⊥)
        → get_or (between at (at + n) (slice_set words (at + i) v)) k 0 ≡ get_or (slice_set (between at (at + n) words) i v) k 0
    go k h (inl e) = get_or-between (slice_set words (at + i) v) at (at + n) k 0 (omega (arith, h))
        ∙ ap (λ m. get_or (slice_set words (at + i) v) (at + m) 0) e ∙ get_or-set_same words (at + i) v 0 (omega (arith, fits, lt))
        ∙ sym (ap (λ m. get_or (slice_set (between at (at + n) words) i v) m 0) e ∙ get_or-set_same (between at (at + n) words) i v 0 (omega (arith, lt, long)))
    go k h (inr ne) =
        let other : at + k ≢ at + i = omega (arith, ne) in
        get_or-between (slice_set words (at + i) v) at (at + n) k 0 (omega (arith, h)) ∙ get_or-set_other words (at + i) (at + k) v 0 other
        ∙ sym (get_or-set_other (between at (at + n) words) i k v 0 ne ∙ get_or-between words at (at + n) k 0 (omega (arith, h)))

module _ (rows columns n : ℕ) (words : List ℕ) (is : AreRows rows columns n words) where
  pub height : length (table_of rows columns n words).rows ≡ rows
  height = length-map-range_with_len (λ row. bits_of (words_of n words row) columns) 0 rows

  pub row_within : (r : ℕ) → r < rows → r * n + n ≤ length words
  row_within r h = subst (λ m. r * n + n ≤ m) (sym is.long) (row_fits r n rows n h (omega arith))

  pub long_row : (r : ℕ) → r < rows → length (words_of n words r) ≡ n
  long_row r h = length-between words (r * n) (r * n + n) (row_within r h) ∙ omega arith

  pub row_is : (r : ℕ) → r < rows → row_of (table_of rows columns n words) r ≡ bits_of (words_of n words r) columns
  row_is r h = get_or-map-range_with_len (λ row. bits_of (words_of n words row) columns) 0 rows r r [] h (omega arith)

  -- the words of a row were written, and no others
  module _ (r : ℕ) (lt : r < rows) (new : List ℕ) (long : length new ≡ length words)
      (rest : (k : ℕ) → (k < r * n) ⊎ (r * n + n ≤ k) → get_or new k 0 ≡ get_or words k 0) where
    other_row : (q : ℕ) → q < rows → (q ≡ r → ⊥) → words_of n new q ≡ words_of n words q
    other_row q h ne = ext_get_or 0 _ _ (long_new ∙ sym (long_row q h)) (λ k i. let inside = subst (λ m. k < m) long_new i in
        get_or-between new (q * n) (q * n + n) k 0 (omega (arith, inside)) ∙ rest (q * n + k) (side k inside (cases_lt q r))
        ∙ sym (get_or-between words (q * n) (q * n + n) k 0 (omega (arith, inside))))
      where
        long_new : length (words_of n new q) ≡ n
        long_new = length-between new (q * n) (q * n + n) (subst (λ m. q * n + n ≤ m) (sym long) (row_within q h)) ∙ omega arith

        side : (k : ℕ) → k < n → (q < r) ⊎ (r ≤ q) → (q * n + k < r * n) ⊎ (r * n + n ≤ q * n + k)
        side k i (inl less) = let past = below_row n q r less in inl (omega (arith, past, i))
        side k i (inr more) = let past = below_row n r q (omega (arith, more, ne)) in inr (omega (arith, past))

    pub rows_written : AreWords columns (words_of n new r) → AreRows rows columns n new
    rows_written here = record {
      long = long ∙ is.long;
      each = λ q h. elim (cases_eq q r) [
        | inl e ↦ subst (λ m. AreWords columns (words_of n new m)) (sym e) here
        | inr ne ↦ subst (AreWords columns) (sym (other_row q h ne)) (is.each q h)
      ];
    }

    pub table_written : table_of rows columns n new
        ≡ record { columns = columns; rows = slice_set (table_of rows columns n words).rows r (bits_of (words_of n new r) columns) }
    table_written = ap (λ l. record { columns = columns; rows = l }) (ext_get_or [] (table_of rows columns n new).rows
        (slice_set (table_of rows columns n words).rows r (bits_of (words_of n new r) columns))
        (high ∙ sym (length-set (table_of rows columns n words).rows r _ ∙ height))
        (λ q h. let inside = subst (λ m. q < m) high h in
        get_or-map-range_with_len (λ row. bits_of (words_of n new row) columns) 0 rows q q [] inside (omega arith) ∙ go q inside (cases_eq q r)))
      where
        high : length (table_of rows columns n new).rows ≡ rows
        high = length-map-range_with_len (λ row. bits_of (words_of n new row) columns) 0 rows

        go : (q : ℕ) → q < rows → (q ≡ r) ⊎ (q ≡ r → ⊥) → bits_of (words_of n new q) columns
            ≡ get_or (slice_set (table_of rows columns n words).rows r (bits_of (words_of n new r) columns)) q []
        go q h (inl e) = ap (λ m. bits_of (words_of n new m) columns) e
            ∙ sym (ap (λ m. get_or (slice_set (table_of rows columns n words).rows r (bits_of (words_of n new r) columns)) m []) e
            ∙ get_or-set_same (table_of rows columns n words).rows r _ [] (subst (λ m. r < m) (sym height) lt))
        go q h (inr ne) = ap (λ l. bits_of l columns) (other_row q h ne)
            ∙ sym (get_or-set_other (table_of rows columns n words).rows r q _ [] ne ∙ row_is q h)

  -- the words of a row were joined with others
  module _ (r : ℕ) (lt : r < rows) (many : ℕ) (others new : List ℕ) (changed : Bool) (isb : AreWords columns others) (as_many : many ≡ n)
      (w : JoinsWords (r * n) many others words new changed) where
    all : JoinsWords (r * n) n others words new changed
    all = subst (λ m. JoinsWords (r * n) m others words new changed) as_many w

    here : AreWords columns (words_of n new r)
    here = words_joined columns (words_of n words r) others (words_of n new r) (is.each r lt) isb all.joined

    pub rows_joined : AreRows rows columns n new
    rows_joined = rows_written r lt new all.long all.rest here

    pub table_joined : Joins (λ q k. (q ≡ r) × IsTrue (get_or (bits_of others columns) k false))
        (table_of rows columns n words) (table_of rows columns n new) changed
    table_joined = subst (λ y. Joins (λ q k. (q ≡ r) × IsTrue (get_or (bits_of others columns) k false)) (table_of rows columns n words) y changed)
        (sym (table_written r lt new all.long all.rest))
        (joins_list (table_of rows columns n words) r (bits_of others columns) (bits_of (words_of n new r) columns) changed
        (subst (λ m. r < m) (sym height) lt)
        (ap length (row_is r lt) ∙ length-bits_of (words_of n words r) columns ∙ sym (length-bits_of others columns))
        (bits_joined columns (words_of n words r) others (words_of n new r) (is.each r lt) isb all.joined
        ∙ ap (λ l. joined l (bits_of others columns)) (sym (row_is r lt)))
        (subst (λ l. GrewTo l (bits_of (words_of n new r) columns) changed) (sym (row_is r lt))
        (joined_changed columns (words_of n words r) others (words_of n new r) (is.each r lt) isb all.joined changed all.grew)))

  module _ (r column : ℕ) (lt : r < rows) (lt' : column < columns) where
    inside : column / 64 < n
    inside = subst (λ m. column / 64 < m) (long_row r lt) (word_within (words_of n words r) columns column (is.each r lt) lt')

    pub position_within : r * n + column / 64 < length words
    position_within = let all = row_within r lt in omega (arith, inside, all)

    -- a bit of a row was written
    module _ (word new : ℕ) (read : word ≡ get_or words (r * n + column / 64) word)
        (here : bit_at new (column % 64) ≡ 1) (others : (k : ℕ) → k < 64 → k ≢ column % 64 → bit_at new k ≡ bit_at word k) (fits : new < 2 ^ 64) where
      word_is : word ≡ get_or (words_of n words r) (column / 64) word
      word_is = read ∙ sym (get_or-between words (r * n) (r * n + n) (column / 64) word (omega (arith, inside)))

      row_set : words_of n (slice_set words (r * n + column / 64) new) r ≡ slice_set (words_of n words r) (column / 64) new
      row_set = between_set words (r * n) n (column / 64) new inside (row_within r lt)

      long : length (slice_set words (r * n + column / 64) new) ≡ length words
      long = length-set words (r * n + column / 64) new

      rest : (k : ℕ) → (k < r * n) ⊎ (r * n + n ≤ k) → get_or (slice_set words (r * n + column / 64) new) k 0 ≡ get_or words k 0
      rest k side = get_or-set_other words (r * n + column / 64) k new 0 (λ e. elim side [
        | inl less ↦ absurd (omega (arith, less, e))
        | inr more ↦ absurd (omega (arith, more, e, inside))
      ])

      pub rows_set : AreRows rows columns n (slice_set words (r * n + column / 64) new)
      rows_set = rows_written r lt _ long rest (subst (AreWords columns) (sym row_set)
          (words_set columns (words_of n words r) column word new true (is.each r lt) lt' word_is here others fits))

      pub table_set : table_of rows columns n (slice_set words (r * n + column / 64) new) ≡ with_bit (table_of rows columns n words) r column
      table_set = table_written r lt _ long rest
          ∙ ap (λ l. record { columns = columns; rows = slice_set (table_of rows columns n words).rows r l }) (ap (λ l. bits_of l columns) row_set
          ∙ bits_set columns (words_of n words r) column word new true (is.each r lt) lt' word_is here others fits
          ∙ ap (λ l. slice_set l column true) (sym (row_is r lt)))

      pub bit_was : bit (table_of rows columns n words) r column ≡ (bit_at word (column % 64) == 1)
      bit_was = ap (λ l. get_or l column false) (row_is r lt) ∙ get_or-bits_of (words_of n words r) columns column false lt'
          ∙ sym (word_bit_read (words_of n words r) columns column word (is.each r lt) lt' word_is)

-- if all words are zero, no bit is on
module _ (columns : ℕ) (zeros : List ℕ) (zero : (k : ℕ) → get_or zeros k 0 ≡ 0) (enough : columns ≤ length zeros * 64) (few : length zeros * 64 < columns + 64) where
  bits_none : bits_of zeros columns ≡ replicate columns false
  bits_none = ext_get_or false (bits_of zeros columns) (replicate columns false)
      (length-bits_of zeros columns ∙ sym (length-replicate columns false))
      (λ k h. get_or-bits_of zeros columns k false (subst (λ m. k < m) (length-bits_of zeros columns) h)
      ∙ ap (λ w. bit_at w (k % 64) == 1) (zero (k / 64)) ∙ ap (λ b. b == 1) (bit_at-zero (k % 64)) ∙ sym (get_or-replicate_default columns k false))

-- no bit of a new table is on
module _ (rows columns n : ℕ) (enough : columns ≤ n * 64) (few : n * 64 < columns + 64) where
  long_none : (r : ℕ) → r < rows → length (words_of n (replicate (rows * n) 0) r) ≡ n
  long_none r h = length-between (replicate (rows * n) 0) (r * n) (r * n + n)
      (subst (λ m. r * n + n ≤ m) (sym (length-replicate (rows * n) 0)) (row_fits r n rows n h (omega arith))) ∙ omega arith

  zero_row : (r k : ℕ) → r < rows → get_or (words_of n (replicate (rows * n) 0) r) k 0 ≡ 0
  zero_row r k h = elim (cases_lt k n) [
    | inl i ↦ get_or-between (replicate (rows * n) 0) (r * n) (r * n + n) k 0 (omega (arith, i)) ∙ get_or-replicate_default (rows * n) (r * n + k) 0
    | inr i ↦ get_or_past (words_of n (replicate (rows * n) 0) r) k 0 (omega (arith, i, long_none r h))
  ]

  pub table_none : table_of rows columns n (replicate (rows * n) 0) ≡ no_bits rows columns
  table_none = ap (λ l. record { columns = columns; rows = l }) (ext_get_or (replicate columns false)
      (table_of rows columns n (replicate (rows * n) 0)).rows (replicate rows (replicate columns false))
      (high ∙ sym (length-replicate rows (replicate columns false)))
      (λ r h. let inside = subst (λ m. r < m) high h in
      get_or-map-range_with_len (λ row. bits_of (words_of n (replicate (rows * n) 0) row) columns) 0 rows r r (replicate columns false) inside (omega arith)
      ∙ bits_none columns _ (λ k. zero_row r k inside) (subst (λ m. columns ≤ m * 64) (sym (long_none r inside)) enough)
      (subst (λ m. m * 64 < columns + 64) (sym (long_none r inside)) few)
      ∙ sym (get_or-replicate_default rows r (replicate columns false))))
    where
      high : length (table_of rows columns n (replicate (rows * n) 0)).rows ≡ rows
      high = length-map-range_with_len (λ row. bits_of (words_of n (replicate (rows * n) 0) row) columns) 0 rows

-- The words from one index on are joined with as many from another, up to where a loop has come.
pub record JoiningAt (to from many i : ℕ) (old now : List ℕ) (changed : Bool) : Type 0 where
  pub long : length now ≡ length old
  pub joining : Joining i (between to (to + many) old) (between from (from + many) old) (between to (to + many) now) changed
  pub rest : (k : ℕ) → (k < to) ⊎ (to + many ≤ k) → get_or now k 0 ≡ get_or old k 0

module _ (to from many : ℕ) (old : List ℕ) (fits : to + many ≤ length old) (fits' : from + many ≤ length old) where
  pub joining_at_none : JoiningAt to from many 0 old old false
  joining_at_none = record { long = refl; joining = joining_none _ _; rest = λ k h. refl }

  long_to : length (between to (to + many) old) ≡ many
  long_to = length-between old to (to + many) fits ∙ omega arith

  pub joining_at_more : (i x y : ℕ) (now : List ℕ) (changed r : Bool) → (to + many ≤ from) ⊎ (from + many ≤ to) → i < many
      → x ≡ get_or now (to + i) 0 → y ≡ get_or now (from + i) 0 → MatchBool r (bit_or x y ≢ x) (bit_or x y ≡ x)
      → JoiningAt to from many i old now changed → JoiningAt to from many (i + 1) old (slice_set now (to + i) (bit_or x y)) (changed || r)
  joining_at_more i x y now changed r apart lt ex ey differs w = record {
    long = length-set now (to + i) (bit_or x y) ∙ w.long;
    joining = subst (λ l. Joining (i + 1) (between to (to + many) old) (between from (from + many) old) l (changed || r))
        (sym (between_set now to many i (bit_or x y) lt (subst (λ m. to + many ≤ m) (sym w.long) fits)))
        (joining_more i x y _ _ _ changed r (subst (λ m. i < m) (sym long_to) lt)
        (long_to ∙ sym (length-between old from (from + many) fits' ∙ omega arith))
        (ex ∙ sym (get_or-between now to (to + many) i 0 (omega (arith, lt))))
        (ey ∙ w.rest (from + i) (side apart) ∙ sym (get_or-between old from (from + many) i 0 (omega (arith, lt)))) differs w.joining);
    rest = λ k h. get_or-set_other now (to + i) k (bit_or x y) 0 (λ e. elim h [
      | inl less ↦ absurd (omega (arith, less, e))
      | inr more ↦ absurd (omega (arith, more, e, lt))
    ]) ∙ w.rest k h;
  }
    where
      side : (to + many ≤ from) ⊎ (from + many ≤ to) → (from + i < to) ⊎ (to + many ≤ from + i)
      side (inl a) = inr (omega (arith, a))
      side (inr a) = inl (omega (arith, a, lt))

  pub joining_at_all : (i : ℕ) (now : List ℕ) (changed : Bool) → many ≤ i → JoiningAt to from many i old now changed
      → JoinsWords to many (between from (from + many) old) old now changed
  joining_at_all i now changed le w = record {
    long = w.long;
    joined = joining_all i _ _ _ changed (subst (λ m. m ≤ i) (sym long_to) le) w.joining;
    rest = w.rest;
    grew = joining_grew i _ _ _ changed w.joining;
  }

-- what the table says of a row
module _ (rows columns n : ℕ) (words : List ℕ) (is : AreRows rows columns n words) (x : Table) (view : table_of rows columns n words ≡ x) where
  pub rows_are : rows ≡ length x.rows
  rows_are = sym (height rows columns n words is) ∙ ap (λ y. length y.rows) view

  pub columns_are : columns ≡ x.columns
  columns_are = ap (λ y. y.columns) view

  pub rows_wide : All (λ row. length row ≡ columns) x.rows
  rows_wide = subst (λ y. All (λ row. length row ≡ columns) y.rows) view (λ r d h. let lt = subst (λ m. r < m) (height rows columns n words is) h in
      ap length (get_or_default (table_of rows columns n words).rows r d [] h ∙ row_is rows columns n words is r lt)
      ∙ length-bits_of (words_of n words r) columns)

  module _ (r : ℕ) (h : r < length x.rows) where
    pub row_below : r < rows
    row_below = subst (λ m. r < m) (sym rows_are) h

    pub row_fits_in : r * n + n ≤ length words
    row_fits_in = row_within rows columns n words is r row_below

    pub row_words_are : (a l : List ℕ) → a ≡ words → l ≡ words_of n a r → AreWords x.columns l
    row_words_are a l e f = subst (λ m. AreWords m l) columns_are
        (subst (AreWords columns) (sym (f ∙ ap (λ k. words_of n k r) e)) (is.each r row_below))

    pub row_bits_are : (a l : List ℕ) → a ≡ words → l ≡ words_of n a r → bits_of l x.columns ≡ row_of x r
    row_bits_are a l e f = ap (bits_of l) (sym columns_are) ∙ ap (λ k. bits_of k columns) (f ∙ ap (λ k. words_of n k r) e)
        ∙ sym (row_is rows columns n words is r row_below) ∙ ap (λ y. row_of y r) view

    pub as_many : (others : List ℕ) → AreWords columns others → length others ≡ n
    as_many others isb = same_length columns others (words_of n words r) isb (is.each r row_below) ∙ long_row rows columns n words is r row_below

-- a row was joined with others, and the table is in a `Vec`
module _ {Z : Type 0} (v : Vec ℕ Z) (rows columns n : ℕ) (is : AreRows rows columns n v.items) (x : Table) (view : table_of rows columns n v.items ≡ x)
    (r : ℕ) (h : r < length x.rows) (many : ℕ) (others a new : List ℕ) (changed : Bool) (ea : a ≡ v.items) (isb : AreWords columns others) (same : many ≡ n)
    (w : JoinsWords (r * n) many others a new changed) where
  items_are : (with_items v new).items ≡ new
  items_are = with_items_is v new (w.long ∙ ap length ea ∙ sym v.ok.0)

  now : JoinsWords (r * n) many others v.items (with_items v new).items changed
  now = subst (λ l. JoinsWords (r * n) many others v.items l changed) (sym items_are) (subst (λ l. JoinsWords (r * n) many others l new changed) ea w)

  pub now_rows : AreRows rows columns n (with_items v new).items
  now_rows = rows_joined rows columns n v.items is r (row_below rows columns n v.items is x view r h) many others _ changed isb same now

  pub now_joins : (b : List Bool) → bits_of others columns ≡ b → Joins (λ q k. (q ≡ r) × IsTrue (get_or b k false)) x
      (table_of rows columns n (with_items v new).items) changed
  now_joins b e = subst (λ y. Joins (λ q k. (q ≡ r) × IsTrue (get_or b k false)) y (table_of rows columns n (with_items v new).items) changed) view
      (subst (λ l. Joins (λ q k. (q ≡ r) × IsTrue (get_or l k false)) (table_of rows columns n v.items) (table_of rows columns n (with_items v new).items) changed) e
      (table_joined rows columns n v.items is r (row_below rows columns n v.items is x view r h) many others _ changed isb same now))

pub was_off : (b c : Bool) → c ≡ b → MatchBool (not b) (c ≡ false) (c ≡ true)
was_off true c e = e
was_off false c e = e
