-- A search for LFs gives the offsets of the newlines.
use Rattle.std.proofs.Common.{◌≡◌, ℕ, zero, suc, ◌+◌, ◌-◌, ◌<◌, ◌≤◌, true, false, List, [], ◌∷◌, ◌++◌, length, take, get_or, All, ⊎_elim, ap, subst, ◌∙◌, refl, add-one, zero-add, append-nil, length-append, take_all, arith}
use Rattle.std.proofs.lemmas.Bool.{cases_Bool, eqb-true}
use Rattle.std.proofs.Math.Seq.{get_or-append_seam}
use Rattle.memchr.specs.Find.{Passes, is_byte, places, places_from}
use Rattle.memchr.proofs.lemmas.CallerLemmas.{All-places}
use Rattle.memchr.proofs.lemmas.PlaceLemmas.{places_from-append}
use Rattle.cfglines.specs.Lines.{is_newline, newlines_of}
use Rattle.cfglines.proofs.LineEnds.{newlines_of-take_newline, newlines_of-take_other}

module _ (text : List ℕ) where
  found_here : (i : ℕ) → is_newline (get_or text i 0) ≡ true → places_from (is_byte 10) text i 1 ≡ i ∷ []
  unfolding places_from
  found_here i newline = rw newline refl

  none_here : (i : ℕ) → is_newline (get_or text i 0) ≡ false → places_from (is_byte 10) text i 1 ≡ []
  unfolding places_from
  none_here i other = rw other refl

  found_before : (i : ℕ) → i ≤ length text → places_from (is_byte 10) text 0 i ≡ newlines_of (take i text)
  unfolding places_from newlines_of
  found_before zero within = refl
  found_before (suc i) within =
      let so_far = found_before i (omega arith) in
      let next : places_from (is_byte 10) text 0 (i + 1) ≡ newlines_of (take i text) ++ places_from (is_byte 10) text i 1 =
      rw (places_from-append (is_byte 10) text 0 i 1, zero-add i, so_far) refl in
      subst (λ n. places_from (is_byte 10) text 0 n ≡ newlines_of (take n text)) (add-one i) (⊎_elim
      (λ newline. next ∙ rw (found_here i newline, newlines_of-take_newline text i (omega arith) newline) refl)
      (λ other. next ∙ rw (none_here i other, newlines_of-take_other text i (omega arith) other) (append-nil _))
      (cases_Bool (is_newline (get_or text i 0))))

  pub places-newlines_of : places (is_byte 10) text ≡ newlines_of text
  places-newlines_of =
      let all : length text - 0 ≡ length text = omega arith in
      ap (places_from (is_byte 10) text 0) all ∙ found_before (length text) (omega arith) ∙ ap newlines_of (take_all _ text (omega arith))

  -- each offset found is that of an LF
  pub found_newline : (seen : List ℕ) (offset : ℕ) (rest : List ℕ) → newlines_of text ≡ seen ++ offset ∷ rest
      → (offset < length text) × (get_or text offset 0 ≡ 10)
  found_newline seen offset rest parts =
      let all : All (λ k. (k < length text) × Passes (is_byte 10) text k) (seen ++ offset ∷ rest) =
      rw (← parts, ← places-newlines_of) (All-places (is_byte 10) text) in
      let here = rw get_or-append_seam at (all (length seen) 0 (omega (arith, length-append seen (offset ∷ rest)))) in
      (here.0, eqb-true _ _ here.1)
