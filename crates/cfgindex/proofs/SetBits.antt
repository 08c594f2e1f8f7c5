-- The bits of a list that are on, one bit after the other.
use Rattle.std.proofs.Common.{◌≡◌, ℕ, ◌+◌, ◌<◌, ◌≤◌, Bool, true, false, if◌then◌else◌, List, [], ◌∷◌, Option, length, get_or, slice_get, unwrap_or, sym, ap, ◌∙◌}
use Rattle.std.proofs.lemmas.List.{drop_all, drop_more}
use Rattle.std.proofs.lemmas.Option.{slice_get-get_or}
use Rattle.lemmas.specs.Lists.{positions_from}
use Rattle.cfgindex.specs.Inner.SetBits.{set_bits_from}

module _ (bits : List Bool) (i : ℕ) where
  pub set_bits_from-end : length bits ≤ i → set_bits_from bits i ≡ []
  set_bits_from-end past = ap (positions_from i (λ b. b)) (drop_all i bits past)

  set_bits_from-more : i < length bits
      → set_bits_from bits i ≡ (if get_or bits i false then i ∷ set_bits_from bits (i + 1) else set_bits_from bits (i + 1))
  set_bits_from-more within = ap (positions_from i (λ b. b)) (drop_more bits i false within)

  pub set_bits_from-on : i < length bits → get_or bits i false ≡ true → set_bits_from bits i ≡ i ∷ set_bits_from bits (i + 1)
  set_bits_from-on within on =
      set_bits_from-more within ∙ ap (λ b. if b then i ∷ set_bits_from bits (i + 1) else set_bits_from bits (i + 1)) on

  pub set_bits_from-off : i < length bits → get_or bits i false ≡ false → set_bits_from bits i ≡ set_bits_from bits (i + 1)
  set_bits_from-off within off =
      set_bits_from-more within ∙ ap (λ b. if b then i ∷ set_bits_from bits (i + 1) else set_bits_from bits (i + 1)) off

-- a bit that was read
pub bit_read : (bits : List Bool) (i : ℕ) (got : Option Bool) (bit : Bool) → i < length bits → got ≡ slice_get bits i → bit ≡ unwrap_or got false → get_or bits i false ≡ bit
bit_read bits i got bit within found read = sym (read ∙ ap (λ o. unwrap_or o false) (found ∙ slice_get-get_or bits i false within))
