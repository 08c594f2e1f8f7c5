-- Tables of bits: how wide they are, how many bits are on, and what joining adds.
use Rattle.std.proofs.Common.{◌≡◌, ◌↔◌, ℕ, zero, suc, ◌-◌, ◌<◌, ◌≤◌, ◌⊎◌, inl, Bool, true, false, List, [], ◌∷◌, sum_by, length, get_or, slice_set, MatchBool, IsTrue, arith, refl, sym, ap, ◌∙◌, subst, length-set}
use Rattle.std.proofs.lemmas.List.{set-get_or, length-replicate}
use Rattle.std.proofs.lemmas.List.Sums.{sum_by-cons, sum_by-set}
use Rattle.std.proofs.lemmas.List.Elements.{All-get_or, All-replicate, All-set}
use Rattle.lemmas.proofs.Adding.{set_adds}
use Rattle.lemmas.proofs.Elements.{get_or-replicate_default}
use Rattle.cfgindex.proofs.Bits.{length-union, union_adds}
use Rattle.search.proofs.Bits.{bit_put, bits_on-fewer, bits_on-less, bits_on-set}
use Rattle.cfgsets.specs.Table.{Table, IsTable, HasBit, Joins, row_of, bit, no_bits, bits_on, count_of, with_bit}
use Rattle.cfgsets.specs.Inner.Joined.{GrewTo, joined}

pub row_wide : (rows columns : ℕ) (x : Table) → IsTable rows columns x → (r : ℕ) → r < rows → length (row_of x r) ≡ columns
row_wide rows columns x is r h = All-get_or (λ row. length row ≡ columns) x.rows r [] (subst (λ n. r < n) (sym is.height) h) is.all_wide

-- in a table with no bit on, no bit is on
pub bit-no_bits : (rows columns r k : ℕ) → bit (no_bits rows columns) r k ≡ false
bit-no_bits zero columns r k = refl
bit-no_bits (suc n) columns zero k = get_or-replicate_default columns k false
bit-no_bits (suc n) columns (suc r) k = bit-no_bits n columns r k

pub IsTable-no_bits : (rows columns : ℕ) → IsTable rows columns (no_bits rows columns)
IsTable-no_bits rows columns = record {
  width = refl;
  height = length-replicate rows _;
  all_wide = All-replicate (λ row. length row ≡ columns) rows _ (length-replicate columns false);
}

rows-fewer : (xs ys : List (List Bool)) → ((r k : ℕ) → get_or (get_or xs r []) k false ≡ true → get_or (get_or ys r []) k false ≡ true)
    → sum_by bits_on xs ≤ sum_by bits_on ys
rows-fewer [] ys f = omega arith
rows-fewer (x ∷ xs) [] f =
    let h = rows-fewer xs [] (λ r k on. f (suc r) k on) in
    let i = bits_on-fewer x [] (λ k on. f 0 k on) in
    omega (arith, h, i, sum_by-cons bits_on x xs)
rows-fewer (x ∷ xs) (y ∷ ys) f =
    let h = rows-fewer xs ys (λ r k on. f (suc r) k on) in
    let i = bits_on-fewer x y (λ k on. f 0 k on) in
    omega (arith, h, i, sum_by-cons bits_on x xs, sum_by-cons bits_on y ys)

pub count_of-fewer : (x y : Table) → ((r k : ℕ) → bit x r k ≡ true → bit y r k ≡ true) → count_of x ≤ count_of y
count_of-fewer x y f = rows-fewer x.rows y.rows f

-- a row was replaced by one with more bits on, or stayed the same
module _ (x : Table) (row : ℕ) (l : List Bool) (gives : ℕ → Type 0) (within : row < length x.rows) (long : length l ≡ length (row_of x row))
    (adds : (k : ℕ) → (IsTrue (get_or l k false) ↔ (HasBit x row k ⊎ gives k))) where
  joins_row : (changed : Bool) → (changed ≡ true → bits_on (row_of x row) < bits_on l) → (changed ≡ false → l ≡ row_of x row)
      → Joins (λ r k. (r ≡ row) × gives k) x (record { columns = x.columns; rows = slice_set x.rows row l }) changed
  joins_row changed more same = record {
    shape = λ rows columns is. record {
      width = is.width;
      height = length-set x.rows row l ∙ is.height;
      all_wide = All-set (λ l. length l ≡ columns) x.rows row l (long ∙ row_wide rows columns x is row (subst (λ n. row < n) is.height within)) is.all_wide;
    };
    bits = set_adds (λ l k. IsTrue (get_or l k false)) gives x.rows row l [] within adds;
    more = λ e. let sums = sum_by-set bits_on x.rows row l [] within in omega (arith, sums, more e);
    same = λ e. ap (λ y. record { columns = x.columns; rows = y }) (ap (slice_set x.rows row) (same e) ∙ set-get_or x.rows row []);
  }

-- a row was joined with a list
pub joins_list : (x : Table) (row : ℕ) (b now : List Bool) (changed : Bool) → row < length x.rows → length (row_of x row) ≡ length b → now ≡ joined (row_of x row) b
    → GrewTo (row_of x row) now changed → Joins (λ r k. (r ≡ row) × IsTrue (get_or b k false)) x (record { columns = x.columns; rows = slice_set x.rows row now }) changed
joins_list x row b now changed within wide put grew = joins_row x row now (λ k. IsTrue (get_or b k false)) within long adds changed
    (λ e. bits_on-less (row_of x row) now (sym long) (λ k on. (adds k).1 (inl on)) (subst (GrewTo (row_of x row) now) e grew))
    (λ e. subst (GrewTo (row_of x row) now) e grew)
  where
    long : length now ≡ length (row_of x row)
    long = ap length put ∙ length-union (row_of x row) b wide

    adds : (k : ℕ) → IsTrue (get_or now k false) ↔ (HasBit x row k ⊎ IsTrue (get_or b k false))
    adds = subst (λ l. (k : ℕ) → IsTrue (get_or l k false) ↔ (HasBit x row k ⊎ IsTrue (get_or b k false))) (sym put) (union_adds (row_of x row) b wide)

-- a bit was set
pub joins_bit : (rows columns : ℕ) (x : Table) (row column : ℕ) (changed : Bool) → IsTable rows columns x → row < rows → column < columns
    → MatchBool changed (bit x row column ≡ false) (bit x row column ≡ true)
    → Joins (λ r k. (r ≡ row) × (k ≡ column)) x (with_bit x row column) changed
joins_bit rows columns x row column changed is lt lt' set =
    joins_row x row (slice_set (row_of x row) column true) (λ k. k ≡ column) (subst (λ n. row < n) (sym is.height) lt) (length-set (row_of x row) column true)
    (bit_put (row_of x row) column within) changed
    (λ e. let one = bits_on-set (row_of x row) column within (subst (λ c. MatchBool c (bit x row column ≡ false) (bit x row column ≡ true)) e set) in omega (arith, one))
    (λ e. ap (slice_set (row_of x row) column) (sym (subst (λ c. MatchBool c (bit x row column ≡ false) (bit x row column ≡ true)) e set)) ∙ set-get_or (row_of x row) column false)
  where
    within : column < length (row_of x row)
    within = subst (λ n. column < n) (sym (row_wide rows columns x is row lt)) lt'
