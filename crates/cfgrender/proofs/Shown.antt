-- What shows characters. What holds of each escape is found by trying them: the codes below 160, among which are the control characters, and
-- those of the format characters.
use Rattle.std.proofs.Common.{◌≡◌, ℕ, ◌+◌, ◌-◌, ◌<◌, ◌≤◌, Bool, true, false, not, ◌&&◌, ◌||◌, ◌==◌, nat_lt, nat_le, if◌then◌else◌, List, [], ◌∷◌, ◌++◌, codes, length, chars, ⊎_elim, subst, sym, ap, ◌∙◌, refl, append-nil, arith}
use Rattle.std.proofs.Math.Bool.{not-not}
use Rattle.std.proofs.Math.Utf8.{encode, encodes, scalar, scalars}
use Rattle.std.proofs.lemmas.Bool.{agree_below, agree_below_at, and_parts, cases_Bool, eqb-true, leb-true, ltb-true, or_cases, or_from, or_parts}
use Rattle.std.proofs.lemmas.List.Folds.{list_any-append}
use Rattle.std.proofs.lemmas.Slice.Eq.{bytes_eq-Decides}
use Rattle.std.proofs.lemmas.Str.{chars-append, chars-encodes, chars-nil, encodes-append, encodes-chars, scalars-chars}
use Rattle.std.specs.Char.{is_control}
use Rattle.std.specs.Char.Escape.{escape_unicode}
use Rattle.std.specs.Fmt.{digits}
use Rattle.std.specs.List.{flat_map, list_all, list_any}
use Rattle.std.specs.Str.{IsUtf8, bytes_eq}
use Rattle.cfgrender.specs.Visible.{format_ranges, is_escaped, is_format, is_in_ranges, shown_as, visible}

-- whether a test passes at each code of a range, and of some ranges
holds_within : (ℕ → Bool) → ℕ × ℕ → Bool
holds_within holds range = agree_below (λ k. holds (range.0 + k)) (λ _. true) (range.1 + 1 - range.0)

holds_in_ranges : (ℕ → Bool) → List (ℕ × ℕ) → Bool
holds_in_ranges holds ranges = list_all (holds_within holds) ranges

module _ (holds : ℕ → Bool) (c : ℕ) where
  within : (range : ℕ × ℕ) → holds_within holds range ≡ true → (nat_le range.0 c && nat_le c range.1) ≡ true → holds c ≡ true
  unfolding holds_within
  within range all is =
      let (low, high) = and_parts (nat_le range.0 c) (nat_le c range.1) is in
      let first = leb-true _ _ low in
      let last = leb-true _ _ high in
      subst (λ c. holds c ≡ true) (omega arith)
      (agree_below_at (λ k. holds (range.0 + k)) (λ _. true) (range.1 + 1 - range.0) (c - range.0) all (omega arith))

  in_ranges : (ranges : List (ℕ × ℕ)) → holds_in_ranges holds ranges ≡ true → is_in_ranges ranges c ≡ true → holds c ≡ true
  unfolding holds_in_ranges
  in_ranges [] all is = absurd (cc)
  in_ranges (range ∷ ranges) all is =
      let (here, others) = and_parts (holds_within holds range) (list_all (holds_within holds) ranges) all in
      ⊎_elim (within range here) (in_ranges ranges others) (or_cases (nat_le range.0 c && nat_le c range.1) (is_in_ranges ranges c) is)

  -- what holds of the escapes
  of_escape : agree_below holds (λ _. true) 160 ≡ true → holds_in_ranges holds format_ranges ≡ true → is_escaped c ≡ true → holds c ≡ true
  of_escape low others escaped = ⊎_elim
      (λ control. agree_below_at holds (λ _. true) 160 c low (control_below (and_parts (is_control c) (not (c == 9)) control).0))
      (λ format. in_ranges format_ranges others format)
      (or_cases (is_control c && not (c == 9)) (is_format c) escaped)
    where
      control_below : is_control c ≡ true → c < 160
      control_below control = ⊎_elim
          (λ low. let bound = leb-true c 31 (and_parts (nat_le 0 c) (nat_le c 31) low).1 in omega arith)
          (λ high. let bound = leb-true c 159 (and_parts (nat_le 127 c) (nat_le c 159) high).1 in omega arith)
          (or_cases _ _ control)

pub tab_itself : (c : ℕ) → (c == 9) ≡ true → is_escaped c ≡ false
tab_itself c tab = subst (λ c. is_escaped c ≡ false) (sym (eqb-true c 9 tab)) refl

pub shown_itself : (c : ℕ) → is_escaped c ≡ false → shown_as c ≡ c ∷ []
unfolding shown_as
shown_itself c itself = ap (λ (escaped : Bool). if escaped then escape_unicode c else c ∷ []) itself

pub shown_escape : (c : ℕ) → is_escaped c ≡ true → shown_as c ≡ escape_unicode c
unfolding shown_as
shown_escape c escaped = ap (λ (escaped : Bool). if escaped then escape_unicode c else c ∷ []) escaped

-- what is written for a character
pub written_itself : (c : ℕ) → is_escaped c ≡ false → encode c ≡ encodes (shown_as c)
written_itself c itself = sym (ap encodes (shown_itself c itself) ∙ append-nil (encode c))

escape_text : ℕ → List ℕ
escape_text c = codes "\\u{" ++ (digits 16 false c ++ codes "}")

escapes_written : (c : ℕ) → is_escaped c ≡ true → escape_text c ≡ encodes (escape_unicode c)
unfolding escape_text encode digits holds_in_ranges holds_within
escapes_written c escaped = (bytes_eq-Decides _ _).0
    (of_escape (λ c. bytes_eq (escape_text c) (encodes (escape_unicode c))) c refl refl escaped)

pub written_escape : (c : ℕ) → is_escaped c ≡ true → codes "\\u{" ++ (digits 16 false c ++ codes "}") ≡ encodes (shown_as c)
unfolding escape_text
written_escape c escaped = escapes_written c escaped ∙ ap encodes (sym (shown_escape c escaped))

-- how many characters show one
pub shown_one : (c : ℕ) → is_escaped c ≡ false → length (shown_as c) ≡ 1
shown_one c itself = ap length (shown_itself c itself)

some_escape : (c : ℕ) → is_escaped c ≡ true → 0 < length (escape_unicode c)
unfolding holds_in_ranges holds_within
some_escape c escaped = ltb-true _ _ (of_escape (λ c. nat_lt 0 (length (escape_unicode c))) c refl refl escaped)

pub shown_some : (c : ℕ) → 0 < length (shown_as c)
shown_some c = ⊎_elim
    (λ escaped. subst (λ shown. 0 < length shown) (sym (shown_escape c escaped)) (some_escape c escaped))
    (λ itself. let one = shown_one c itself in omega arith)
    (cases_Bool (is_escaped c))

-- a text as it is shown, by its characters
shown_whole : (characters : List ℕ) → list_any is_escaped characters ≡ false → flat_map shown_as characters ≡ characters
shown_whole [] _ = refl
shown_whole (c ∷ characters) none =
    let (itself, others) = or_parts (is_escaped c) (list_any is_escaped characters) none in
    λ i. shown_itself c itself i ++ shown_whole characters others i

pub visible_whole : (text : List ℕ) → IsUtf8 text → list_any is_escaped (chars text) ≡ false → text ≡ visible text
unfolding visible
visible_whole text utf8 none = sym (ap encodes (shown_whole (chars text) none) ∙ encodes-chars text utf8)

written_each : (characters : List ℕ) → flat_map (λ c. encodes (shown_as c)) characters ≡ encodes (flat_map shown_as characters)
written_each [] = refl
written_each (c ∷ characters) = ap (λ rest. encodes (shown_as c) ++ rest) (written_each characters)
    ∙ sym (encodes-append (shown_as c) (flat_map shown_as characters))

pub visible_each : (text : List ℕ) → flat_map (λ c. encodes (shown_as c)) (chars text) ≡ visible text
unfolding visible
visible_each text = written_each (chars text)

-- the characters of a text as it is shown
shown_scalars : (c : ℕ) → scalar c ≡ true → scalars (shown_as c) ≡ true
unfolding holds_in_ranges holds_within
shown_scalars c is_scalar = ⊎_elim
    (λ escaped. ap scalars (shown_escape c escaped) ∙ of_escape (λ c. scalars (escape_unicode c)) c refl refl escaped)
    (λ itself. ap scalars (shown_itself c itself) ∙ ap (λ (one : Bool). one && true) is_scalar)
    (cases_Bool (is_escaped c))

chars_shown : (characters : List ℕ) → scalars characters ≡ true
    → chars (encodes (flat_map shown_as characters)) ≡ flat_map shown_as characters
chars_shown [] _ = chars-nil
chars_shown (c ∷ characters) are_scalars =
    let (is_scalar, others) = and_parts (scalar c) (scalars characters) are_scalars in
    let here = shown_scalars c is_scalar in
    ap chars (encodes-append (shown_as c) (flat_map shown_as characters))
    ∙ (chars-append (encodes (shown_as c)) (encodes (flat_map shown_as characters)) (shown_as c, (here, refl))
    ∙ (λ i. chars-encodes (shown_as c) here i ++ chars_shown characters others i))

pub chars-visible : (text : List ℕ) → IsUtf8 text → chars (visible text) ≡ flat_map shown_as (chars text)
unfolding visible
chars-visible text utf8 = chars_shown (chars text) (scalars-chars text utf8)

shown_unescaped : (c : ℕ) → list_any is_escaped (shown_as c) ≡ false
unfolding holds_in_ranges holds_within
shown_unescaped c = ⊎_elim
    (λ escaped. ap (list_any is_escaped) (shown_escape c escaped)
    ∙ (sym (not-not _) ∙ ap not (of_escape (λ c. not (list_any is_escaped (escape_unicode c))) c refl refl escaped)))
    (λ itself. ap (list_any is_escaped) (shown_itself c itself) ∙ or_from (is_escaped c) false itself refl)
    (cases_Bool (is_escaped c))

none_escaped : (characters : List ℕ) → list_any is_escaped (flat_map shown_as characters) ≡ false
none_escaped [] = refl
none_escaped (c ∷ characters) = list_any-append is_escaped (shown_as c) (flat_map shown_as characters)
    ∙ or_from (list_any is_escaped (shown_as c)) _ (shown_unescaped c) (none_escaped characters)

pub shows_no_controls : (text : List ℕ) → IsUtf8 text → list_any is_escaped (chars (visible text)) ≡ false
shows_no_controls text utf8 = ap (list_any is_escaped) (chars-visible text utf8) ∙ none_escaped (chars text)
