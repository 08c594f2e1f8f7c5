use Rattle.std.proofs.Common.{rules, ◌≡◌, ℕ, ◌<◌, ◌/◌, ◌%◌, true, false, [], ◌∷◌, refl, sym, ◌∙◌}
use Rattle.std.specs.Fmt.{digit_glyph}
use Rattle.std.proofs.lemmas.Fmt.{hex_byte}
use Rattle.cfgjson.specs.Sarif.{is_kept, uri_byte}
use Rattle.cfgjson.proofs.uri.push_byte.Goals as goal

byte_escaped : (byte : ℕ) → is_kept byte ≡ false → uri_byte byte ≡ 37 ∷ digit_glyph true (byte / 16) ∷ digit_glyph true (byte % 16) ∷ []
unfolding uri_byte
byte_escaped byte other = rw other refl

pub returns-else-is_kept : goal.returns-else-is_kept
returns-else-is_kept c =
    let byte = c.args.byte in
    let small : byte < 256 = search (rules, c.ranges.byte.fits) in
    rw (byte_escaped byte (sym c.is_kept.ensures ∙ c.if-is_kept.false))
    (rw (hex_byte true byte small) at (rw c.laid_out.ensures at (rw c.in_radix.ensures at c.write.ensures.bytes)))
