use Rattle.std.proofs.Common.{◌≡◌, ◌+◌, ◌-◌, ◌/◌, ◌%◌, ◌^◌, ◌<◌, ℕ, Bool, List, Vec, length, replicate, slice_set, arith, sym, ap, ◌∙◌, subst}
use Rattle.std.specs.Vec.{with_items}
use Rattle.std.proofs.lemmas.List.{with_items_is, length-replicate}
use Rattle.cfgindex.specs.BitWords.{AreWords, bits_of}
use Rattle.cfgindex.proofs.Words.{full_word, full_words, filled_all, made_full, length-bits_of}
use Rattle.cfgindex.proofs.vob.Vob.set_all.Goals as goal

-- the words of a list, filled anew
module _ (len word : ℕ) (bit : Bool) {Z : Type 0} (v : Vec ℕ Z) (a new : List ℕ) (are : AreWords len v.items) (some : 0 < len) (full : word ≡ full_word bit)
    (ea : a ≡ v.items) (filled : new ≡ replicate (length a) word) where
  as_many : length v.items ≡ (len - 1) / 64 + 1
  as_many = omega (arith, are.enough, are.few, some)

  items_are : (with_items v new).items ≡ replicate ((len - 1) / 64 + 1) word
  items_are = with_items_is v new (ap length filled ∙ length-replicate (length a) word ∙ ap length ea ∙ sym v.ok.0)
      ∙ filled ∙ ap (λ n. replicate n word) (ap length ea ∙ as_many)

  now_full : slice_set (with_items v new).items ((len - 1) / 64) (word / 2 ^ (63 - (len - 1) % 64)) ≡ full_words len bit
  now_full = made_full len word bit (with_items v new).items full items_are

  now_words : AreWords len (slice_set (with_items v new).items ((len - 1) / 64) (word / 2 ^ (63 - (len - 1) % 64)))
  now_words = subst (AreWords len) (sym now_full) (filled_all len bit some).0

  now_bits : (old : List Bool) → bits_of v.items len ≡ old
      → bits_of (slice_set (with_items v new).items ((len - 1) / 64) (word / 2 ^ (63 - (len - 1) % 64))) len ≡ replicate (length old) bit
  now_bits old e = ap (λ l. bits_of l len) now_full ∙ (filled_all len bit some).1
      ∙ ap (λ n. replicate n bit) (sym (length-bits_of v.items len) ∙ ap length e)

pub invariant_of-self : goal.invariant_of-self
invariant_of-self c = now_words _ _ _ c.self.inside.words _ _ c.self.invariant (omega (arith, c.if-self-eq0.false)) c.filled-word.ensures
    c.as_mut_slice.ensures.value c.fill.ensures

pub returns : goal.returns
returns c = now_bits _ _ _ c.self.inside.words _ _ c.self.invariant (omega (arith, c.if-self-eq0.false)) c.filled-word.ensures
    c.as_mut_slice.ensures.value c.fill.ensures _ c.self.view_is
