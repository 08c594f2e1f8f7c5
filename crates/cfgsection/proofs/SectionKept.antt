-- What holds of everything that a section's constructs give: the spans of each entry's key and value, and of each fault, lie in the text.
use Rattle.std.proofs.Common.{◌≡◌, ℕ, zero, suc, ◌+◌, ◌≤◌, Bool, true, false, cond, List, [], ◌∷◌, ◌++◌, length, Option, Some, None, codes, refl, ap, subst, sym, ◌∙◌, arith, length-append, eqb, eqb-true}
use lib.Utf8.{encode}
use Rattle.std.specs.Prelude.{encode_utf8}
use Rattle.std.specs.Str.{IsUtf8, IsCharBoundary}
use Rattle.std.proofs.lemmas.Bool.Decides.{nat_tests}
use Rattle.std.proofs.lemmas.List.Elements.{All-nil, All-cons}
use Rattle.std.proofs.lemmas.Str.{IsUtf8-past_char, IsCharBoundary-start}
use Rattle.cfgbase.specs.declared.span.Span.{Span}
use Rattle.constructs.specs.Leaves.{Gives, ValueOf, Leaves}
use Rattle.constructs.specs.Pieces.{run}
use Rattle.constructs.specs.Construct.{Construct, repeat, while_test}
use Rattle.constructs.proofs.Keeps.{Keeps}
use Rattle.constructs.proofs.PiecesLemmas.{IsRun-run}
use Rattle.cfgwords.specs.declared.bytes.ByteClass.TheVariants as bytes
use Rattle.cfgwords.specs.Bytes.{holds}
use Rattle.cfgwords.specs.TextSpans.{IsPiece}
use Rattle.cfgwords.specs.SectionWords.{IsText, name_at, text_at}
use Rattle.cfgwords.specs.Text.{offset_of, span_of}
use Rattle.cfgwords.proofs.Cuts.{IsCut, cut_on, cut_same, cut_word, cut_byte, cut_before, offset_cut, boundary_cut}
use Rattle.cfgwords.proofs.WordOffsets.{ComesAfter, whole_cut, piece_after, word_passed, integer_is_at}
use Rattle.cfgerrors.specs.HeaderErrors.{ShownErrorKind, ExpectedToken}
use Rattle.cfgkinds.specs.Values.{Located, ShownNamespaced, ShownSetting}
use Rattle.cfgkinds.proofs.ValueOffsets.{EachNameOffset, EachSettingOffset, EachKindOffset}
use Rattle.cfgsection.specs.SectionGrammar.{Entry, Fault, Strict, most_brackets, unexpected_star, error_over, fault_at, end_fault, wide_character, white_character, separator, white, separators, comma, name, namespaced, argument, applied, number, element, elements, array, bare_setting, setting_by, bracketed, setting, negated, value_of, affirmed, entry, entry_turn, entries, braced, missing, section}
use Rattle.cfgsection.specs.SectionOffsets.{IsErrorAt}

module _ (whole : List ℕ) where
  abbrev pub IsEntryAt : Entry → Type 0
  IsEntryAt entry = IsPiece whole entry.key_span × EachKindOffset (IsPiece whole) entry.value

  abbrev pub KeepsOffsets : {l : Leaves} {G : Gives} → Construct Entry Fault l G → List ℕ → (ValueOf G → Type 0) → Type 0
  KeepsOffsets = Keeps (ComesAfter whole) IsEntryAt (IsErrorAt whole)

module _ (whole : List ℕ) (utf8 : IsUtf8 whole) where
  abbrev len : ℕ
  len = length whole

  cut_to : (from text rest : List ℕ) → ComesAfter whole from text → IsCut text rest → ComesAfter whole from rest
  cut_to from text rest t cut = record { origin = t.origin; further = cut_on from text rest t.further cut }

  -- a word after an offset
  word_is : (from text word rest : List ℕ) → ComesAfter whole from text → text ≡ word ++ rest → IsCut text rest → IsPiece whole (span_of (offset_of len text) word)
  word_is from text word rest t e cut = record {
    ordered = omega arith;
    begins_at = boundary_cut whole text utf8 here;
    ends_at = subst (IsCharBoundary whole) at (boundary_cut whole rest utf8 (cut_on whole text rest here cut));
  }
    where
      here : IsCut whole text
      here = whole_cut whole utf8 from text t

      at : offset_of len rest ≡ offset_of len text + length word
      at = omega (arith, offset_cut whole text here, ap length e, length-append word rest)

  -- errors at one span
  one_error : (kind : ShownErrorKind) (span : Span) → IsPiece whole span → IsErrorAt whole (record { kind = kind; locations = span ∷ [] })
  one_error kind span at = record { some = omega arith; each = All-cons (IsPiece whole) span [] at (All-nil (IsPiece whole)) }

  fault_is : (kind : ShownErrorKind) (from text : List ℕ) → ComesAfter whole from text → IsErrorAt whole (fault_at len kind text)
  fault_is kind from text t =
      let at = boundary_cut whole text utf8 (whole_cut whole utf8 from text t) in
      one_error kind _ (record { ordered = omega arith; begins_at = at; ends_at = at })

  -- characters beyond ASCII
  wide_passed : (code : ℕ) (word : List ℕ) → encode_utf8 code ≡ word → (from text rest : List ℕ) → ComesAfter whole from text → text ≡ word ++ rest → ComesAfter whole from rest
  wide_passed code word is from text rest t e = cut_to from text rest t (record {
    piece = word;
    whole = e;
    utf8 = λ u. IsUtf8-past_char text rest code u (e ∙ ap (λ w. w ++ rest) (sym is));
  })

  wide_character_kept : (from : List ℕ) (Q : Option (Unit {0}) → Type 0) → Q (Some tt) → Q None → KeepsOffsets whole wide_character from Q
  unfolding wide_character encode
  wide_character_kept from Q q n = (
    wide_passed 133 _ refl from,
    q,
    (
      wide_passed 8206 _ refl from,
      q,
      (
        wide_passed 8207 _ refl from,
        q,
        (
          wide_passed 8232 _ refl from,
          q,
          (wide_passed 8233 _ refl from, q, n),
        ),
      ),
    ),
  )

  white_character_kept : (from : List ℕ) (Q : Option (Unit {0}) → Type 0) → Q (Some tt) → Q None → KeepsOffsets whole white_character from Q
  unfolding white_character
  white_character_kept from Q q n =
      let ascii = word_passed whole utf8 in (
        ascii (9 ∷ []) refl from,
        q,
        (
          ascii (10 ∷ []) refl from,
          q,
          (
            ascii (11 ∷ []) refl from,
            q,
            (
              ascii (12 ∷ []) refl from,
              q,
              (ascii (13 ∷ []) refl from, q, (ascii (32 ∷ []) refl from, q, wide_character_kept from Q q n)),
            ),
          ),
        ),
      )

  separator_kept : (from : List ℕ) (Q : Option (Unit {0}) → Type 0) → Q (Some tt) → Q None → KeepsOffsets whole separator from Q
  unfolding separator
  separator_kept from Q q n = (word_passed whole utf8 (codes ",") refl from, q, white_character_kept from Q q n)

  white_kept : (from : List ℕ) (Q : Unit {0} → Type 0) → Q tt → KeepsOffsets whole white from Q
  unfolding white repeat
  white_kept from Q q = (white_character_kept from (λ _. Unit {0}) tt tt, λ _ _. q)

  separators_kept : (from : List ℕ) (Q : Unit {0} → Type 0) → Q tt → KeepsOffsets whole separators from Q
  unfolding separators repeat
  separators_kept from Q q = (separator_kept from (λ _. Unit {0}) tt tt, λ _ _. q)

  comma_kept : (from : List ℕ) (Q : Bool → Type 0) → ((b : Bool) → Q b) → KeepsOffsets whole comma from Q
  unfolding comma
  comma_kept from Q q = (word_passed whole utf8 (codes ",") refl from, white_kept from (λ _. Q true) (q true), q false)

  -- a name's span, not before the offset where its construct began
  abbrev IsAfter : List ℕ → Located Span → Type 0
  IsAfter from key = IsPiece whole key.1 × (offset_of len from ≤ key.1.end)

  name_kept : (from : List ℕ) (Q : Located Span → Type 0) → ((key : Located Span) → IsAfter from key → Q key) → KeepsOffsets whole (name len) from Q
  unfolding name
  name_kept from Q q = (
    λ text word rest t is.
        let cut : IsCut text rest = cut_same text (word ++ rest) rest is.run.whole (cut_word (holds bytes.IdentifierStart) (λ b h. grind (arith, nat_tests)) word rest is.run.passes) in
        (cut_to from text rest t cut, q (name_at len text word rest) (word_is from text word rest t is.run.whole cut, omega (arith, offset_cut from text t.further, offset_cut whole text (whole_cut whole utf8 from text t)))),
    λ text t. fault_is _ from text t,
  )

  namespaced_kept : (from : List ℕ) (Q : ShownNamespaced Span → Type 0) → ((n : ShownNamespaced Span) → EachNameOffset (IsPiece whole) n → Q n)
      → KeepsOffsets whole (namespaced len) from Q
  unfolding namespaced
  namespaced_kept from Q q = name_kept from _ (λ first at. white_kept from _ (
    word_passed whole utf8 (codes "::") refl from,
    white_kept from _ (name_kept from _ (λ member also. white_kept from _ (q _ (at.0, also.0)))),
    q _ (tt, at.0),
  ))

  argument_kept : (from : List ℕ) (Q : ShownNamespaced Span → Type 0) → ((n : ShownNamespaced Span) → EachNameOffset (IsPiece whole) n → Q n)
      → KeepsOffsets whole (argument len) from Q
  unfolding argument
  argument_kept from Q q = namespaced_kept from _ (λ n at. (word_passed whole utf8 (codes ")") refl from, q n at, λ text t. fault_is _ from text t))

  -- a construct that keeps the property, whatever is required of settings with their spans
  abbrev KeepsAll : Strict (ShownSetting Span) → Type 1
  KeepsAll c = (from : List ℕ) (Q : ShownSetting Span → Type 0) → ((s : ShownSetting Span) → EachSettingOffset (IsPiece whole) s → Q s) → KeepsOffsets whole c from Q

  applied_kept : KeepsAll (applied len)
  unfolding applied
  applied_kept from Q q = namespaced_kept from _ (λ n at. (word_passed whole utf8 (codes "(") refl from, argument_kept from _ (λ m also. q _ (at, also)), q _ at))

  number_kept : KeepsAll (number len)
  unfolding number
  number_kept from Q q = (
    λ text number rest t is. let it = integer_is_at whole utf8 from text number rest t is in (it.0, q _ it.1),
    λ text t.
        let digits = IsRun-run (holds bytes.Digit) text in
        let cut : IsCut text (run (holds bytes.Digit) text).1 = cut_same text _ _ digits.whole (cut_word (holds bytes.Digit) (λ b h. grind (arith, nat_tests)) _ _ digits.passes) in
        one_error _ _ (word_is from text _ _ t digits.whole cut),
  )

  -- a text between quotes, with its span
  text_kept : (from text word rest : List ℕ) → ComesAfter whole from text → IsText text word rest
      → ComesAfter whole from rest × IsPiece whole (text_at len text word rest).1
  text_kept from text word rest t is = (
    cut_to from text rest t (cut_on text inner rest opened (cut_on inner (34 ∷ rest) rest inside (cut_byte 34 rest (omega arith)))),
    subst (λ n. IsPiece whole (span_of n word)) at (word_is from inner word (34 ∷ rest) (cut_to from text inner t opened) refl inside),
  )
    where
      inner : List ℕ
      inner = word ++ 34 ∷ rest

      opened : IsCut text inner
      opened = cut_same text (34 ∷ inner) inner is.whole (cut_byte 34 inner (omega arith))

      inside : IsCut inner (34 ∷ rest)
      inside = cut_before word 34 rest (omega arith)

      at : offset_of len inner ≡ offset_of len text + 1
      at = omega (arith, offset_cut whole text (whole_cut whole utf8 from text t), ap length is.whole)

  setting_by_kept : (bracketed : Span → Strict (ShownSetting Span)) → ((opens : Span) → IsPiece whole opens → KeepsAll (bracketed opens)) → KeepsAll (setting_by len bracketed)
  unfolding setting_by bare_setting
  setting_by_kept bracketed kept from Q q = (
    number_kept from _ (λ s at. white_kept from _ (q s at)),
    (
      λ text word rest t is. let it = text_kept from text word rest t is in (it.0, white_kept from _ (q _ it.1)),
      λ opening t. (
        word_passed whole utf8 (codes "[") refl opening,
        λ after u. kept _ (piece_after whole utf8 opening after u) after _ (λ s at. white_kept from _ (q s at)),
        applied_kept opening _ (λ s at. white_kept from _ (q s at)),
      ),
    ),
  )

  array_kept : (setting : Strict (ShownSetting Span)) → KeepsAll setting → (opens : Span) → IsPiece whole opens → KeepsAll (array len setting opens)
  unfolding array elements element while_test
  array_kept setting kept opens at from Q q = separators_kept from _ (
    (kept from _ (λ s _. separators_kept from _ tt), tt),
    λ values all closing t. (
      word_passed whole utf8 (codes "]") refl closing,
      λ after u. q _ at,
      λ text u. fault_is _ closing text u,
    ),
  )

  bracketed_kept : (room : ℕ) (opens : Span) → IsPiece whole opens → KeepsAll (bracketed len room opens)
  unfolding bracketed
  bracketed_kept zero opens at from Q q = λ text t. one_error _ opens at
  bracketed_kept (suc room) opens at from Q q = array_kept (setting_by len (bracketed len room)) (setting_by_kept (bracketed len room) (bracketed_kept room)) opens at from Q q

  setting_kept : (room : ℕ) → KeepsAll (setting len room)
  unfolding setting
  setting_kept room = setting_by_kept (bracketed len room) (bracketed_kept room)

  pub entry_kept : (from : List ℕ) (Q : Entry → Type 0) → ((e : Entry) → IsEntryAt whole e → Q e) → KeepsOffsets whole (entry len) from Q
  unfolding entry negated affirmed value_of
  entry_kept from Q q = λ text t. (
    word_passed whole utf8 (codes "!") refl text,
    name_kept text _ (λ key at. white_kept text _ (q _ (at.0, negated_at text key t at))),
    name_kept text _ (λ key at. white_kept text _ (
      word_passed whole utf8 (codes ":") refl text,
      white_kept text _ (setting_kept most_brackets text _ (λ s also. q _ (at.0, also))),
      q _ (at.0, at.0),
    )),
  )
    where
      -- from a `!` to the end of the key after it
      negated_at : (text : List ℕ) (key : Located Span) → ComesAfter whole from text → IsAfter text key → IsPiece whole (record { start = offset_of len text; end = key.1.end })
      negated_at text key t at = record {
        ordered = at.1;
        begins_at = boundary_cut whole text utf8 (whole_cut whole utf8 from text t);
        ends_at = at.0.ends_at;
      }

  entries_kept : (from : List ℕ) (Q : Unit {0} → Type 0) → Q tt → KeepsOffsets whole (entries len) from Q
  unfolding entries entry_turn repeat
  entries_kept from Q q = ((entry_kept from _ (λ e at. (at, comma_kept from _ (λ b. tt))), tt), λ values all. q)

  -- if `}` is missing
  end_is : (opening text : List ℕ) → ComesAfter whole opening text → IsErrorAt whole (end_fault len (offset_of len opening) text)
  end_is opening [] t = one_error _ _ (piece_after whole utf8 opening [] t)
  end_is opening (b ∷ text) t = go (eqb b 42) refl
    where
      star : eqb b 42 ≡ true → IsCut (b ∷ text) text
      star e = cut_byte b text (omega (arith, eqb-true b 42 e))

      go : (here : Bool) → eqb b 42 ≡ here → IsErrorAt whole (cond here (record { kind = unexpected_star; locations = record { start = offset_of len (b ∷ text); end = offset_of len (b ∷ text) + 1 } ∷ [] })
          (error_over (ExpectedToken 125) (offset_of len opening) (offset_of len (b ∷ text))))
      go true e = one_error _ _ (word_is opening (b ∷ text) (b ∷ []) text t refl (star e))
      go false e = one_error _ _ (piece_after whole utf8 opening (b ∷ text) t)

  braced_kept : (from : List ℕ) (Q : Unit {0} → Type 0) → Q tt → KeepsOffsets whole (braced len) from Q
  unfolding braced
  braced_kept from Q q = λ opening t. (
    word_passed whole utf8 (codes "{") refl opening,
    white_kept opening _ (entries_kept opening _ (word_passed whole utf8 (codes "}") refl opening, q, λ text u. end_is opening text u)),
    λ text u. fault_is _ opening text u,
  )

  pub section_kept : (required : Bool) (from : List ℕ) (Q : List ℕ → Type 0) → ((rest : List ℕ) → IsCut whole rest → Q rest) → KeepsOffsets whole (section len required) from Q
  unfolding section missing
  section_kept required from Q q = λ text t. white_kept text _ (
    word_passed whole utf8 (codes "%grmtools") refl text,
    white_kept text _ (braced_kept text _ (λ rest u. q rest (whole_cut whole utf8 text rest u))),
    (λ text u. one_error _ _ (record { ordered = omega arith; begins_at = IsCharBoundary-start whole utf8; ends_at = IsCharBoundary-start whole utf8 }), q text (whole_cut whole utf8 from text t)),
  )
