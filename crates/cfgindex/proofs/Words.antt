-- Lists of bits in words: each bit by its index.
use Rattle.std.proofs.Common.{◌≡◌, ◌≢◌, ◌↔◌, ℕ, ◌+◌, ◌-◌, ◌*◌, ◌/◌, ◌%◌, ◌^◌, ◌<◌, ◌≤◌, ◌==◌, ◌||◌, inl, inr, Bool, true, false, not, if◌then◌else◌, List, length, get_or, slice_get, slice_set, replicate, Option, Some, MatchBool, IsTrue, max, arith, refl, sym, ap, ◌∙◌, subst, ext_get_or, get_or-set_same, get_or-set_other, length-set}
use Rattle.std.specs.Bool.{beq}
use Rattle.std.specs.Int.{bit_at}
use Rattle.std.proofs.lemmas.Bool.{cases_eq, cases_lt}
use Rattle.std.proofs.lemmas.Bool.Decides.{nat_tests}
use Rattle.std.proofs.lemmas.Nat.{or_lt}
use Rattle.std.proofs.lemmas.List.{get_or_default, get_or_past, get_or-replicate, length-replicate}
use Rattle.std.proofs.lemmas.List.Elements.{All-set, All-replicate}
use Rattle.std.proofs.lemmas.List.FromFn.{length-map-range_with_len, get_or-map-range_with_len}
use Rattle.std.proofs.lemmas.Option.{slice_get-get_or}
use Rattle.std.proofs.lemmas.Nat.Bits.{bit_at-lt, bit_at_or, same_from_bits_below, bit_at-zero, bit_at_ones, bit_at_ones_above, ones_shr}
use Rattle.std.proofs.Math.Nat.{zero-div, div-le_self}
use Rattle.cfgindex.specs.BitWords.{word_bit, bits_of, AreWords, AreJoined}
use Rattle.cfgindex.proofs.Bits.{union, length-union, get_or-union}

pub length-bits_of : (words : List ℕ) (n : ℕ) → length (bits_of words n) ≡ n
length-bits_of words n = length-map-range_with_len (word_bit words) 0 n

pub get_or-bits_of : (words : List ℕ) (n i : ℕ) (d : Bool) → i < n → get_or (bits_of words n) i d ≡ word_bit words i
get_or-bits_of words n i d lt = get_or-map-range_with_len (word_bit words) 0 n i i d lt (omega arith)

pub slice_get-bits_of : (words : List ℕ) (n i : ℕ) → i < n → slice_get (bits_of words n) i ≡ Some (word_bit words i)
slice_get-bits_of words n i lt =
    let within : i < length (bits_of words n) = omega (arith, lt, length-bits_of words n) in
    slice_get-get_or (bits_of words n) i false within ∙ ap Some (get_or-bits_of words n i false lt)

pub word_within : (words : List ℕ) (n i : ℕ) → AreWords n words → i < n → i / 64 < length words
word_within words n i is lt = omega (arith, is.enough, lt)

-- a bit by its word, read with any default
pub word_bit_read : (words : List ℕ) (n i word : ℕ) → AreWords n words → i < n → word ≡ get_or words (i / 64) word
    → (bit_at word (i % 64) == 1) ≡ word_bit words i
word_bit_read words n i word is lt read =
    ap (λ w. bit_at w (i % 64) == 1) (read ∙ get_or_default words (i / 64) word 0 (word_within words n i is lt))

bit_of : (words : List ℕ) (k j : ℕ) → j < 64 → word_bit words (k * 64 + j) ≡ (bit_at (get_or words k 0) j == 1)
bit_of words k j lt =
    let q : (k * 64 + j) / 64 ≡ k = omega (arith, lt) in
    let r : (k * 64 + j) % 64 ≡ j = omega (arith, lt) in
    ap (λ n. bit_at (get_or words n 0) ((k * 64 + j) % 64) == 1) q ∙ ap (λ n. bit_at (get_or words k 0) n == 1) r

same_bit : (x y : ℕ) → x < 2 → y < 2 → (x == 1) ≡ (y == 1) → x ≡ y
same_bit x y a b e = grind (arith, nat_tests)

pub same_length : (n : ℕ) (a b : List ℕ) → AreWords n a → AreWords n b → length a ≡ length b
same_length n a b isa isb = omega (arith, isa.enough, isa.few, isb.enough, isb.few)

-- words with the same bits are the same, since spare bits are off
pub same_words : (n : ℕ) (words others : List ℕ) → AreWords n words → AreWords n others → bits_of words n ≡ bits_of others n → words ≡ others
same_words n words others is are e = ext_get_or 0 words others (same_length n words others is are)
    (λ k h. same_from_bits_below 64 (get_or words k 0) (get_or others k 0) (is.fit k 0 h) (are.fit k 0 (subst (λ m. k < m) (same_length n words others is are) h))
    (λ j lt. elim (cases_lt (k * 64 + j) n) [
      | inl within ↦ same_bit _ _ (bit_at-lt (get_or words k 0) j) (bit_at-lt (get_or others k 0) j)
          (sym (bit_of words k j lt) ∙ sym (get_or-bits_of words n (k * 64 + j) false within) ∙ ap (λ l. get_or l (k * 64 + j) false) e
          ∙ get_or-bits_of others n (k * 64 + j) false within ∙ bit_of others k j lt)
      | inr past ↦ is.spare k j lt past ∙ sym (are.spare k j lt past)
    ]))

-- a word was written in which one bit may have changed
module _ (n : ℕ) (words : List ℕ) (i word new : ℕ) (bit : Bool) (is : AreWords n words) (lt : i < n) (read : word ≡ get_or words (i / 64) word)
    (here : bit_at new (i % 64) ≡ (if bit then 1 else 0)) (others : (k : ℕ) → k < 64 → k ≢ i % 64 → bit_at new k ≡ bit_at word k) (fits : new < 2 ^ 64) where
  within : i / 64 < length words
  within = word_within words n i is lt

  was : word ≡ get_or words (i / 64) 0
  was = read ∙ get_or_default words (i / 64) word 0 within

  pub words_set : AreWords n (slice_set words (i / 64) new)
  words_set = record {
    enough = subst (λ m. n ≤ m * 64) (sym (length-set words (i / 64) new)) is.enough;
    few = subst (λ m. m * 64 < n + 64) (sym (length-set words (i / 64) new)) is.few;
    fit = All-set (λ w. w < 2 ^ 64) words (i / 64) new fits is.fit;
    spare = λ k j h past. elim (cases_eq k (i / 64)) [
      | inl e ↦
          let apart : j ≢ i % 64 = omega (arith, e, h, past, lt) in
          ap (λ m. bit_at (get_or (slice_set words (i / 64) new) m 0) j) e ∙ ap (λ w. bit_at w j) (get_or-set_same words (i / 64) new 0 within)
          ∙ others j h apart ∙ ap (λ w. bit_at w j) was ∙ is.spare (i / 64) j h (subst (λ m. n ≤ m * 64 + j) e past)
      | inr ne ↦ ap (λ w. bit_at w j) (get_or-set_other words (i / 64) k new 0 ne) ∙ is.spare k j h past
    ];
  }

  bit_set : (q : ℕ) → word_bit (slice_set words (i / 64) new) q ≡ get_or (slice_set (bits_of words n) i bit) q (word_bit words q)
  bit_set q = elim (cases_eq q i) [
    | inl e ↦
        ap (word_bit (slice_set words (i / 64) new)) e ∙ ap (λ w. bit_at w (i % 64) == 1) (get_or-set_same words (i / 64) new 0 within)
        ∙ ap (λ b. b == 1) here ∙ tested bit ∙ sym (get_or-set_same (bits_of words n) i bit (word_bit words q) inside)
        ∙ ap (λ m. get_or (slice_set (bits_of words n) i bit) m (word_bit words q)) (sym e)
    | inr ne ↦ apart q ne ∙ sym (read_back q) ∙ sym (get_or-set_other (bits_of words n) i q bit (word_bit words q) ne)
  ]
    where
      tested : (b : Bool) → ((if b then 1 else 0) == 1) ≡ b
      tested true = refl
      tested false = refl

      inside : i < length (bits_of words n)
      inside = omega (arith, lt, length-bits_of words n)

      read_back : (q : ℕ) → get_or (bits_of words n) q (word_bit words q) ≡ word_bit words q
      read_back q = elim (cases_lt q n) [
        | inl h ↦ get_or-bits_of words n q (word_bit words q) h
        | inr h ↦ get_or_past (bits_of words n) q (word_bit words q) (omega (arith, h, length-bits_of words n))
      ]

      apart : (q : ℕ) → (q ≡ i → ⊥) → word_bit (slice_set words (i / 64) new) q ≡ word_bit words q
      apart q ne = elim (cases_eq (q / 64) (i / 64)) [
        | inl e ↦
            let differs : q % 64 ≢ i % 64 = omega (arith, ne, e) in
            ap (λ m. bit_at (get_or (slice_set words (i / 64) new) m 0) (q % 64) == 1) e
            ∙ ap (λ w. bit_at w (q % 64) == 1) (get_or-set_same words (i / 64) new 0 within)
            ∙ ap (λ b. b == 1) (others (q % 64) (omega arith) differs) ∙ ap (λ w. bit_at w (q % 64) == 1) was
            ∙ ap (λ m. bit_at (get_or words m 0) (q % 64) == 1) (sym e)
        | inr other ↦ ap (λ w. bit_at w (q % 64) == 1) (get_or-set_other words (i / 64) (q / 64) new 0 other)
      ]

  pub bits_set : bits_of (slice_set words (i / 64) new) n ≡ slice_set (bits_of words n) i bit
  bits_set = ext_get_or false (bits_of (slice_set words (i / 64) new) n) (slice_set (bits_of words n) i bit) same_length
      (λ q h. let inside = subst (λ m. q < m) (length-bits_of (slice_set words (i / 64) new) n) h in
      get_or-bits_of (slice_set words (i / 64) new) n q false inside ∙ bit_set q
      ∙ get_or_default (slice_set (bits_of words n) i bit) q (word_bit words q) false (subst (λ m. q < m) same_length h))
    where
      same_length : length (bits_of (slice_set words (i / 64) new) n) ≡ length (slice_set (bits_of words n) i bit)
      same_length = length-bits_of (slice_set words (i / 64) new) n ∙ sym (length-set (bits_of words n) i bit ∙ length-bits_of words n)

pub changed_bit : (was bit : Bool) (o : Option Bool) → o ≡ Some was → MatchBool (not (beq was bit)) (o ≡ Some (not bit)) (o ≡ Some bit)
changed_bit true true o e = e
changed_bit true false o e = e
changed_bit false true o e = e
changed_bit false false o e = e

-- words that are joined one by one
module _ (n : ℕ) (a b words : List ℕ) (isa : AreWords n a) (isb : AreWords n b) (w : AreJoined a b words) where
  as_long : length a ≡ length b
  as_long = same_length n a b isa isb

  joined_at : (k j : ℕ) → bit_at (get_or words k 0) j ≡ max (bit_at (get_or a k 0) j) (bit_at (get_or b k 0) j)
  joined_at k j = elim (cases_lt k (length a)) [
    | inl h ↦ ap (λ x. bit_at x j) (w.each k h) ∙ bit_at_or (get_or a k 0) (get_or b k 0) j
    | inr h ↦
        let x : bit_at (get_or words k 0) j ≡ 0 = ap (λ y. bit_at y j) (get_or_past words k 0 (omega (arith, h, w.long))) ∙ bit_at-zero j in
        let y : bit_at (get_or a k 0) j ≡ 0 = ap (λ y. bit_at y j) (get_or_past a k 0 h) ∙ bit_at-zero j in
        let z : bit_at (get_or b k 0) j ≡ 0 = ap (λ y. bit_at y j) (get_or_past b k 0 (omega (arith, h, as_long))) ∙ bit_at-zero j in
        omega (arith, x, y, z)
  ]

  pub words_joined : AreWords n words
  words_joined = record {
    enough = omega (arith, isa.enough, w.long);
    few = omega (arith, isa.few, w.long);
    fit = λ k d h. subst (λ x. x < 2 ^ 64) (sym (get_or_default words k d 0 h ∙ w.each k (subst (λ m. k < m) w.long h)))
        (or_lt 64 (get_or a k 0) (get_or b k 0) (isa.fit k 0 (subst (λ m. k < m) w.long h)) (isb.fit k 0 (subst (λ m. k < m) (w.long ∙ as_long) h)));
    spare = λ k j h past. let x = isa.spare k j h past in let y = isb.spare k j h past in let z = joined_at k j in omega (arith, x, y, z);
  }

  either : (x y : ℕ) → x < 2 → y < 2 → (max x y == 1) ≡ ((x == 1) || (y == 1))
  either x y h k = grind (arith, nat_tests)

  pub bits_joined : bits_of words n ≡ union (bits_of a n) (bits_of b n)
  bits_joined = ext_get_or false (bits_of words n) (union (bits_of a n) (bits_of b n))
      (length-bits_of words n ∙ sym (length-union (bits_of a n) (bits_of b n) both ∙ length-bits_of a n))
      (λ q h. let lt = subst (λ m. q < m) (length-bits_of words n) h in
      get_or-bits_of words n q false lt ∙ ap (λ x. x == 1) (joined_at (q / 64) (q % 64))
      ∙ either _ _ (bit_at-lt (get_or a (q / 64) 0) (q % 64)) (bit_at-lt (get_or b (q / 64) 0) (q % 64))
      ∙ sym (get_or-union (bits_of a n) (bits_of b n) both q
      ∙ ap (λ x. x || get_or (bits_of b n) q false) (get_or-bits_of a n q false lt) ∙ ap (λ x. word_bit a q || x) (get_or-bits_of b n q false lt)))
    where
      both : length (bits_of a n) ≡ length (bits_of b n)
      both = length-bits_of a n ∙ sym (length-bits_of b n)

  pub joined_changed : (changed : Bool) → MatchBool changed (words ≢ a) (words ≡ a) → MatchBool changed (bits_of words n ≢ bits_of a n) (bits_of words n ≡ bits_of a n)
  joined_changed true ne = λ e. ne (same_words n words a words_joined isa e)
  joined_changed false e = ap (λ l. bits_of l n) e

-- Words for at least one bit, all filled alike, except that the last one has its spare bits off. b says what the bits are.
module _ (len word last b : ℕ) (some : 0 < len) (fits : word < 2 ^ 64) (last_fits : last < 2 ^ 64)
    (full : (i : ℕ) → i < 64 → bit_at word i ≡ b) (used : (i : ℕ) → i ≤ (len - 1) % 64 → bit_at last i ≡ b)
    (unused : (i : ℕ) → (len - 1) % 64 < i → bit_at last i ≡ 0) where
  abbrev filled_words : List ℕ
  filled_words = slice_set (replicate ((len - 1) / 64 + 1) word) ((len - 1) / 64) last

  length-filled : length filled_words ≡ (len - 1) / 64 + 1
  length-filled = length-set (replicate ((len - 1) / 64 + 1) word) ((len - 1) / 64) last ∙ length-replicate ((len - 1) / 64 + 1) word

  at_last : get_or filled_words ((len - 1) / 64) 0 ≡ last
  at_last = get_or-set_same (replicate ((len - 1) / 64 + 1) word) ((len - 1) / 64) last 0 (omega (arith, length-replicate ((len - 1) / 64 + 1) word))

  at_other : (k : ℕ) → k < (len - 1) / 64 → get_or filled_words k 0 ≡ word
  at_other k h =
      let ne : k ≢ (len - 1) / 64 = omega (arith, h) in
      get_or-set_other (replicate ((len - 1) / 64 + 1) word) ((len - 1) / 64) k last 0 ne ∙ get_or-replicate ((len - 1) / 64 + 1) k word 0 (omega (arith, h))

  pub words_filled : AreWords len filled_words
  words_filled = record {
    enough = omega (arith, length-filled, some);
    few = omega (arith, length-filled, some);
    fit = All-set (λ w. w < 2 ^ 64) (replicate ((len - 1) / 64 + 1) word) ((len - 1) / 64) last last_fits
        (All-replicate (λ w. w < 2 ^ 64) ((len - 1) / 64 + 1) word fits);
    spare = λ k i h past. elim (cases_eq k ((len - 1) / 64)) [
      | inl e ↦ ap (λ n. bit_at (get_or filled_words n 0) i) e ∙ ap (λ w. bit_at w i) at_last ∙ unused i (omega (arith, e, past, some))
      | inr ne ↦ ap (λ w. bit_at w i) (get_or_past filled_words k 0 (omega (arith, ne, past, some, h, length-filled))) ∙ bit_at-zero i
    ];
  }

  filled_bit : (q : ℕ) → q < len → word_bit filled_words q ≡ (b == 1)
  filled_bit q h = elim (cases_eq (q / 64) ((len - 1) / 64)) [
    | inl e ↦ ap (λ n. bit_at (get_or filled_words n 0) (q % 64) == 1) e ∙ ap (λ w. bit_at w (q % 64) == 1) at_last
        ∙ ap (λ n. n == 1) (used (q % 64) (omega (arith, e, h, some)))
    | inr ne ↦ ap (λ w. bit_at w (q % 64) == 1) (at_other (q / 64) (omega (arith, ne, h, some))) ∙ ap (λ n. n == 1) (full (q % 64) (omega arith))
  ]

  pub bits_filled : bits_of filled_words len ≡ replicate len (b == 1)
  bits_filled = ext_get_or (b == 1) (bits_of filled_words len) (replicate len (b == 1))
      (length-bits_of filled_words len ∙ sym (length-replicate len (b == 1)))
      (λ q h. let lt = subst (λ n. q < n) (length-bits_of filled_words len) h in
      get_or-bits_of filled_words len q (b == 1) lt ∙ filled_bit q lt ∙ sym (get_or-replicate len q (b == 1) (b == 1) lt))

-- all bits on, or all off
abbrev pub full_word : Bool → ℕ
full_word bit = if bit then 2 ^ 64 - 1 else 0

abbrev pub full_words : ℕ → Bool → List ℕ
full_words len bit = slice_set (replicate ((len - 1) / 64 + 1) (full_word bit)) ((len - 1) / 64) (full_word bit / 2 ^ (63 - (len - 1) % 64))

pub filled_all : (len : ℕ) (bit : Bool) → 0 < len → AreWords len (full_words len bit) × (bits_of (full_words len bit) len ≡ replicate len bit)
filled_all len true some = (words_filled len _ _ 1 some (omega arith) fits full used unused, bits_filled len _ _ 1 some (omega arith) fits full used unused)
  where
    last : (2 ^ 64 - 1) / 2 ^ (63 - (len - 1) % 64) ≡ 2 ^ ((len - 1) % 64 + 1) - 1
    last =
        let positions : 64 - (63 - (len - 1) % 64) ≡ (len - 1) % 64 + 1 = omega arith in
        ones_shr 64 (63 - (len - 1) % 64) (omega arith) ∙ ap (λ n. 2 ^ n - 1) positions

    fits : (2 ^ 64 - 1) / 2 ^ (63 - (len - 1) % 64) < 2 ^ 64
    fits = omega (arith, div-le_self (2 ^ 64 - 1) (2 ^ (63 - (len - 1) % 64)))

    full : (i : ℕ) → i < 64 → bit_at (2 ^ 64 - 1) i ≡ 1
    full i h = bit_at_ones 64 i h

    used : (i : ℕ) → i ≤ (len - 1) % 64 → bit_at ((2 ^ 64 - 1) / 2 ^ (63 - (len - 1) % 64)) i ≡ 1
    used i h = ap (λ w. bit_at w i) last ∙ bit_at_ones ((len - 1) % 64 + 1) i (omega (arith, h))

    unused : (i : ℕ) → (len - 1) % 64 < i → bit_at ((2 ^ 64 - 1) / 2 ^ (63 - (len - 1) % 64)) i ≡ 0
    unused i h = ap (λ w. bit_at w i) last ∙ bit_at_ones_above ((len - 1) % 64 + 1) i (omega (arith, h))
filled_all len false some = (words_filled len _ _ 0 some (omega arith) fits full used unused, bits_filled len _ _ 0 some (omega arith) fits full used unused)
  where
    last : 0 / 2 ^ (63 - (len - 1) % 64) ≡ 0
    last = zero-div (2 ^ (63 - (len - 1) % 64))

    fits : 0 / 2 ^ (63 - (len - 1) % 64) < 2 ^ 64
    fits = omega (arith, last)

    full : (i : ℕ) → i < 64 → bit_at 0 i ≡ 0
    full i h = bit_at-zero i

    used : (i : ℕ) → i ≤ (len - 1) % 64 → bit_at (0 / 2 ^ (63 - (len - 1) % 64)) i ≡ 0
    used i h = ap (λ w. bit_at w i) last ∙ bit_at-zero i

    unused : (i : ℕ) → (len - 1) % 64 < i → bit_at (0 / 2 ^ (63 - (len - 1) % 64)) i ≡ 0
    unused i h = ap (λ w. bit_at w i) last ∙ bit_at-zero i

-- the words as they are made
pub made_full : (len word : ℕ) (bit : Bool) (items : List ℕ) → word ≡ full_word bit → items ≡ replicate ((len - 1) / 64 + 1) word
    → slice_set items ((len - 1) / 64) (word / 2 ^ (63 - (len - 1) % 64)) ≡ full_words len bit
made_full len word bit items e h = ap (λ l. slice_set l ((len - 1) / 64) (word / 2 ^ (63 - (len - 1) % 64))) h
    ∙ ap (λ w. slice_set (replicate ((len - 1) / 64 + 1) w) ((len - 1) / 64) (w / 2 ^ (63 - (len - 1) % 64))) e

-- two tests of the same fact are the same
pub decided : (b c : Bool) (P : Type 0) → (IsTrue b ↔ P) → (IsTrue c ↔ P) → b ≡ c
decided true true P d e = refl
decided true false P d e = sym (e.1 (d.0 refl))
decided false true P d e = d.1 (e.0 refl)
decided false false P d e = refl
