-- The text of a value has no LF, and a line of an object without floats is one that reads back.
use Rattle.std.proofs.Common.{◌≡◌, ◌≤◌, ℕ, zero, suc, ◌/◌, ◌%◌, ◌==◌, Bool, true, false, cond, nat_eq, nat_lt, List, [], ◌∷◌, ◌++◌, Some, IfOk, Result, Ok, Err, String, string_bytes, map, pos, negsuc, decimal, OnOk, is_ok, if◌then◌else◌, codes, append_assoc, refl, sym, ap, subst, ◌∙◌, ⊎_elim, arith}
use Rattle.std.specs.List.{Contains, list_any}
use Rattle.std.specs.Char.{digit_char}
use Rattle.std.specs.Fmt.{digits, digits_onto, digit_glyph}
use Rattle.std.specs.declared.alloc.Global.{Global}
use Rattle.std.proofs.lemmas.Bool.Decides.{nat_tests}
use Rattle.std.proofs.lemmas.Cmp.{nat_eq_equiv}
use Rattle.std.proofs.lemmas.List.{map-append}
use Rattle.std.proofs.lemmas.List.Elements.{Contains-append_cases}
use Rattle.std.proofs.lemmas.Map.Views.{list_any-from_Contains}
use Rattle.json.specs.Print.{escape_letter, escape_byte, escape, quoted}
use Rattle.serde_json.specs.Data.{Num, unsigned, negative, float, Data, null, boolean, number, string, array, object, Items, no_items, item, Members, no_members, member, depth}
use Rattle.serde_json.specs.Read.{max_depth, read}
use Rattle.serde_json.specs.Written.{number_text, comma_if, compact_text, has_float, items_text, members_text}
use Rattle.cfgjson.specs.Objects.{AddsJsonLine, AreJsonLines, IsJsonLine, more}

-- no byte of it is an LF
pub record OneLine (text : List ℕ) : Type 0 where
  pub none : Contains text 10 → ⊥

pub fixed : (text : List ℕ) → list_any (nat_eq 10) text ≡ false → OneLine text
fixed text without = record { none = λ h. let among = list_any-from_Contains nat_eq_equiv 10 text h in absurd (cc) }

first : (byte : ℕ) (text : List ℕ) → (byte ≡ 10 → ⊥) → OneLine text → OneLine (byte ∷ text)
first byte text other rest = record { none = go }
  where
    go : Contains (byte ∷ text) 10 → ⊥
    go (zero, within, is) = other is
    go (suc k, within, is) = rest.none (k, omega arith, is)

pub both : (one two : List ℕ) → OneLine one → OneLine two → OneLine (one ++ two)
both one two a b = record { none = λ h. ⊎_elim a.none b.none (Contains-append_cases one two 10 h) }

pub either : (b : Bool) (one two : List ℕ) → OneLine one → (b ≡ false → OneLine two) → OneLine (cond b one two)
either true one two a b = a
either false one two a b = b refl

glyph : (n : ℕ) → digit_glyph false n ≡ 10 → ⊥
glyph n is = grind (arith, nat_tests)

onto : (k n : ℕ) (text : List ℕ) → OneLine text → OneLine (digits_onto k 10 false n text)
onto zero n text h = h
onto (suc k) n text h =
    let more = first (digit_glyph false (n % 10)) text (glyph (n % 10)) h in
    either (n / 10 == 0) _ _ more (λ _. onto k (n / 10) _ more)

pub decimal_line : (n : ℕ) → OneLine (decimal n)
unfolding digits
decimal_line n = onto 64 n [] (fixed [] refl)

number_line : (n : Num) → OneLine (number_text n)
number_line (unsigned n) = decimal_line n
number_line (negative (pos n)) = decimal_line n
number_line (negative (negsuc n)) = both (45 ∷ []) _ (fixed _ refl) (decimal_line (suc n))
number_line (float x) = fixed [] refl

letter : (byte : ℕ) → escape_letter byte ≡ 10 → ⊥
letter byte is = grind (arith, nat_tests)

digit : (n : ℕ) → digit_char n ≡ 10 → ⊥
digit n is = grind (arith, nat_tests)

printed : (byte : ℕ) → nat_lt byte 32 ≡ false → byte ≡ 10 → ⊥
printed byte high is = grind (arith, nat_tests)

byte_line : (byte : ℕ) → OneLine (escape_byte byte)
unfolding escape_byte
byte_line byte = either (nat_lt 0 (escape_letter byte)) _ _ (both (92 ∷ []) _ (fixed _ refl) (first _ [] (letter byte) (fixed [] refl)))
    (λ _. either (nat_lt byte 32) _ _
    (both (92 ∷ 117 ∷ 48 ∷ 48 ∷ []) _ (fixed _ refl) (first _ _ (digit (byte / 16)) (first _ [] (digit (byte % 16)) (fixed [] refl))))
    (λ high. first byte [] (printed byte high) (fixed [] refl)))

escape_line : (text : List ℕ) → OneLine (escape text)
escape_line [] = fixed [] refl
escape_line (byte ∷ text) = both (escape_byte byte) (escape text) (byte_line byte) (escape_line text)

quoted_line : (text : List ℕ) → OneLine (quoted text)
quoted_line text = both (34 ∷ []) _ (fixed _ refl) (both (escape text) (34 ∷ []) (escape_line text) (fixed _ refl))

comma_line : (later : Bool) → OneLine (comma_if later)
comma_line true = fixed _ refl
comma_line false = fixed _ refl

mutual
  -- no text of a value has an LF
  pub value_line : (value : Data) → OneLine (compact_text value)
  value_line null = fixed _ refl
  value_line (boolean true) = fixed _ refl
  value_line (boolean false) = fixed _ refl
  value_line (number n) = number_line n
  value_line (string text) = quoted_line text
  value_line (array items) = both (91 ∷ []) _ (fixed _ refl) (items_line false items)
  value_line (object members) = both (123 ∷ []) _ (fixed _ refl) (members_line false members)

  items_line : (later : Bool) (items : Items) → OneLine (items_text later items)
  items_line later no_items = fixed _ refl
  items_line later (item value items) = both (comma_if later) _ (comma_line later) (both (compact_text value) _ (value_line value) (items_line true items))

  members_line : (later : Bool) (members : Members) → OneLine (members_text later members)
  members_line later no_members = fixed _ refl
  members_line later (member key value members) = both (comma_if later) _ (comma_line later) (both (quoted key) _ (quoted_line key)
      (both (58 ∷ []) _ (fixed _ refl) (both (compact_text value) _ (value_line value) (members_line true members))))

-- what a value's text is, that it reads back, and that it is one line
pub are_json_lines : {E : Type 0} (r : Result (String Global) E) (value shown : Data) → value ≡ shown → has_float shown ≡ false → depth shown ≤ 127
    → IfOk r (λ text. has_float value ≡ false → string_bytes text ≡ compact_text value)
    → IfOk r (λ text. depth value ≤ max_depth → read (string_bytes text) ≡ Some value)
    → IfOk r (λ text. IsJsonLine shown (string_bytes text))
are_json_lines (Err e) value shown is whole shallow texts reads = tt
are_json_lines (Ok text) value shown is whole shallow texts reads =
    let same : string_bytes text ≡ compact_text shown = texts (ap has_float is ∙ whole) ∙ ap compact_text is in
    record {
      text = same;
      reads_back = reads (subst (λ (d : Data). depth d ≤ 127) (sym is) shallow) ∙ ap Some is;
      one_line = λ h. (value_line shown).none (subst (λ (t : List ℕ). Contains t 10) same h);
    }

-- the next line follows the first ones
pub one_more : {A : Type 0} (object_of : A → Data) (shown next : List A) (one : A) (lines new : List ℕ) → AreJsonLines (map object_of shown) lines
    → AddsJsonLine (object_of one) lines new → shown ++ one ∷ [] ≡ next → AreJsonLines (map object_of next) new
one_more object_of shown next one lines new before (line, is, added) more_of =
    subst (λ (objects : List Data). AreJsonLines objects new) (sym (map-append object_of shown (one ∷ [])) ∙ ap (map object_of) more_of)
    (subst (λ (t : List ℕ). AreJsonLines (map object_of shown ++ object_of one ∷ []) t) (sym added) (more before is))

-- a line and an LF are added
pub line_added : {U E : Type 0} (r : Result U E) (shown : Data) (old between new line : List ℕ) → IsJsonLine shown line → between ≡ old ++ line
    → new ≡ (if is_ok r then between ++ codes "\n" else between) → OnOk r (AddsJsonLine shown old new)
line_added (Err e) shown old between new line is first last = tt
line_added (Ok u) shown old between new line is first last =
    (line, is, last ∙ ap (λ t. t ++ codes "\n") first ∙ append_assoc old line (codes "\n"))
