-- Words lie between two offsets of the text.
use Rattle.std.proofs.Common.{◌≡◌, ℕ, ◌+◌, ◌≤◌, Bool, true, false, List, [], ◌∷◌, ◌++◌, length, Result, Ok, Err, refl, ap, subst, arith, length-append, ltb-true, MatchBool, if◌then◌else◌}
use Rattle.std.specs.List.{list_all}
use Rattle.std.specs.Prelude.{nat_lt}
use Rattle.std.specs.Str.{IsUtf8, IsCharBoundary}
use Rattle.constructs.proofs.Yields.{EndsIn}
use Rattle.cfgwords.specs.declared.fault.Fault.{Fault}
use Rattle.cfgwords.specs.declared.fault.FaultKind.{FaultKind}
use Rattle.cfgwords.specs.declared.fault.FaultKind.TheVariants.{InvalidString, ReachedEOL}
use Rattle.cfgwords.specs.Actions.{IsAction, action_at}
use Rattle.cfgwords.specs.Blank.{Blank}
use Rattle.cfgwords.specs.ColonText.{ColonText, single, missing}
use Rattle.cfgwords.specs.Strings.{EppString, closed, unopened, broken}
use Rattle.cfgwords.specs.Text.{offset_of, span_of, fault_at}
use Rattle.cfgwords.specs.FileWords.{TokenText, Word, Token, IsName, IsIdentifier, IsQuoted, IsToken, IsInteger, LineRest, word_at, token_at, integer_at, word_of}
use Rattle.cfgwords.proofs.Cuts.{IsCut, cut_here, cut_byte, cut_before, cut_end, prefix_utf8, string_cut, broken_cut, action_cut, cut_on, cut_same, cut_word, name_cut, identifier_cut, integer_cut, line_rest_cut, opened_cut, inside_cut, closed_cut, offset_cut, boundary_cut}
use Rattle.cfgwords.proofs.BlankCuts.{blank_ends_at}
use Rattle.cfgwords.proofs.Trimming.{trim_no_longer}
use Rattle.cfgwords.specs.TextSpans.{IsPiece, IsWithin}

abbrev pub is_ascii_word : List ℕ → Bool
is_ascii_word word = list_all (λ b. nat_lt b 128) word

abbrev pub IsWordAt : List ℕ → Word → Type 0
IsWordAt text word = IsPiece text word.span

-- two offsets of the text, one not before the other
pub record ComesAfter (whole from text : List ℕ) : Type 0 where
  pub origin : IsCut whole from
  pub further : IsCut from text

-- a token that ends after an offset
pub record IsTokenAfter (whole from : List ℕ) (token : Token) : Type 0 where
  pub piece : IsWordAt whole (word_of token)
  pub after : offset_of (length whole) from ≤ token.end
  pub ends_at : IsCharBoundary whole token.end

module _ (whole : List ℕ) (utf8 : IsUtf8 whole) where
  pub whole_cut : (from text : List ℕ) → ComesAfter whole from text → IsCut whole text
  whole_cut from text t = cut_on whole from text t.origin t.further

  goes_on : (from text rest : List ℕ) → ComesAfter whole from text → IsCut text rest → ComesAfter whole from rest
  goes_on from text rest t cut = record { origin = t.origin; further = cut_on from text rest t.further cut }

  -- what lies between two offsets
  between : (text word rest : List ℕ) → IsCut whole text → text ≡ word ++ rest → IsCut text rest → IsPiece whole (span_of (offset_of (length whole) text) word)
  between text word rest cut e further = record {
    ordered = omega arith;
    begins_at = boundary_cut whole text utf8 cut;
    ends_at = subst (IsCharBoundary whole) at (boundary_cut whole rest utf8 (cut_on whole text rest cut further));
  }
    where
      at : offset_of (length whole) rest ≡ offset_of (length whole) text + length word
      at = omega (arith, offset_cut whole text cut, ap length e, length-append word rest)

  pub name_at : (from text word rest : List ℕ) → ComesAfter whole from text → IsName text word rest
      → ComesAfter whole from rest × IsWordAt whole (word_at (length whole) text word rest)
  name_at from text word rest t is =
      let cut = name_cut text word rest is in
      (goes_on from text rest t cut, between text word rest (whole_cut from text t) is.run.whole cut)

  pub integer_is_at : (from text : List ℕ) (number : ℕ) (rest : List ℕ) → ComesAfter whole from text → IsInteger text number rest
      → ComesAfter whole from rest × IsPiece whole (integer_at (length whole) text number rest).1
  integer_is_at from text number rest t is =
      let cut = integer_cut text number rest is in
      let here = whole_cut from text t in (
        goes_on from text rest t cut,
        record {
          ordered = omega (arith, offset_cut text rest cut, offset_cut whole text here);
          begins_at = boundary_cut whole text utf8 here;
          ends_at = boundary_cut whole rest utf8 (cut_on whole text rest here cut);
        },
      )

  -- a token whose name is a piece of the text, with the rest after it
  token_after : (from text : List ℕ) (token : TokenText) (rest : List ℕ) → ComesAfter whole from text → IsCut text rest
      → IsPiece whole (span_of (if token.quoted then offset_of (length whole) text + 1 else offset_of (length whole) text) token.name)
      → ComesAfter whole from rest × IsTokenAfter whole from (token_at (length whole) text token rest)
  token_after from text token rest t cut piece = (
    goes_on from text rest t cut,
    record {
      piece = piece;
      after = omega (arith, offset_cut from rest (cut_on from text rest t.further cut));
      ends_at = boundary_cut whole rest utf8 (cut_on whole text rest (whole_cut from text t) cut);
    },
  )

  quoted_at : (from text word rest : List ℕ) → ComesAfter whole from text → IsQuoted text word rest
      → ComesAfter whole from rest × IsTokenAfter whole from (token_at (length whole) text (record { name = word; quoted = true }) rest)
  quoted_at from text word rest t is =
      token_after from text (record { name = word; quoted = true }) rest t
      (cut_on text inner rest opened (cut_on inner tail rest inside (closed_cut text word rest is)))
      (subst (λ n. IsPiece whole (span_of n word)) at (between inner word tail (cut_on whole text inner (whole_cut from text t) opened) refl inside))
    where
      inner : List ℕ
      inner = word ++ is.quote ∷ rest

      tail : List ℕ
      tail = is.quote ∷ rest

      opened : IsCut text inner
      opened = opened_cut text word rest is

      inside : IsCut inner tail
      inside = inside_cut text word rest is

      one_more : length text ≡ length inner + 1
      one_more = omega (arith, ap length is.whole, ap (λ w. length (w ++ tail)) is.word_is)

      at : offset_of (length whole) inner ≡ offset_of (length whole) text + 1
      at = omega (arith, offset_cut whole text (whole_cut from text t), one_more)

  identifier_at : (from text word rest : List ℕ) → ComesAfter whole from text → IsIdentifier text word rest
      → ComesAfter whole from rest × IsTokenAfter whole from (token_at (length whole) text (record { name = word; quoted = false }) rest)
  identifier_at from text word rest t is =
      let cut = identifier_cut text word rest is in
      token_after from text (record { name = word; quoted = false }) rest t cut (between text word rest (whole_cut from text t) is.run.whole cut)

  pub token_is_at : (from text : List ℕ) (token : TokenText) (rest : List ℕ) → ComesAfter whole from text → IsToken text token rest
      → ComesAfter whole from rest × IsTokenAfter whole from (token_at (length whole) text token rest)
  token_is_at from text token rest t is = go token.quoted is
    where
      go : (quoted : Bool) → MatchBool quoted (IsQuoted text token.name rest) (IsIdentifier text token.name rest)
          → ComesAfter whole from rest × IsTokenAfter whole from (token_at (length whole) text (record { name = token.name; quoted = quoted }) rest)
      go true is = quoted_at from text token.name rest t is
      go false is = identifier_at from text token.name rest t is

  -- What the parts of constructs keep.

  pub is_here : (from text : List ℕ) → ComesAfter whole from text → ComesAfter whole text text
  is_here from text t = record { origin = whole_cut from text t; further = cut_here text }

  pub moves_on : (from text rest : List ℕ) → ComesAfter whole from text → ComesAfter whole text rest → ComesAfter whole from rest
  moves_on from text rest t u = goes_on from text rest t u.further

  pub word_passed : (word : List ℕ) → is_ascii_word word ≡ true → (from text rest : List ℕ) → ComesAfter whole from text → text ≡ word ++ rest → ComesAfter whole from rest
  word_passed word ascii from text rest t e = goes_on from text rest t (cut_same text (word ++ rest) rest e (cut_word _ (λ b h. ltb-true b 128 h) word rest ascii))

  pub fault_is_at : (kind : FaultKind) (from text : List ℕ) → ComesAfter whole from text → IsPiece whole (fault_at (length whole) kind text).span
  fault_is_at kind from text t =
      let at = boundary_cut whole text utf8 (whole_cut from text t) in
      record { ordered = omega arith; begins_at = at; ends_at = at }

  pub blank_is_at : (lines : Bool) (from text : List ℕ) (o : Result (Unit {0} × List ℕ) Fault) → ComesAfter whole from text → Blank (length whole) lines text o
      → EndsIn (ComesAfter whole from) (λ fault. IsPiece whole fault.span) (λ _. Unit {0}) o
  blank_is_at lines from = blank_ends_at (ComesAfter whole from) (λ fault. IsPiece whole fault.span) (length whole) lines (goes_on from) (λ kind text t. fault_is_at kind from text t)

  pub line_rest_is_at : (from text : List ℕ) (o : Result (List ℕ × List ℕ) Fault) → ComesAfter whole from text → LineRest text o
      → EndsIn (ComesAfter whole from) (λ fault. IsPiece whole fault.span) (λ _. Unit {0}) o
  line_rest_is_at from text (Ok (word, rest)) t is = (goes_on from text rest t (line_rest_cut text word rest is), tt)
  line_rest_is_at from text (Err fault) t is = absurd is

  pub epp_string_is_at : (from text : List ℕ) (o : Result (List ℕ × List ℕ) Fault) → ComesAfter whole from text → EppString (length whole) text o
      → EndsIn (ComesAfter whole from) (λ fault. IsPiece whole fault.span) (λ _. Unit {0}) o
  epp_string_is_at from text o t (closed quote inside rest q passes e) =
      (goes_on from text rest t (cut_same text (quote ∷ (inside ++ quote ∷ rest)) rest e (string_cut quote inside rest q)), tt)
  epp_string_is_at from text o t (unopened other) = fault_is_at InvalidString from text t
  epp_string_is_at from text o t (broken quote inside left q passes e ends other) =
      fault_is_at InvalidString from left (goes_on from text left t (cut_same text (quote ∷ (inside ++ left)) left e (broken_cut quote inside left q ends)))

  pub colon_text_is_at : (from text : List ℕ) (o : Result (List ℕ × List ℕ) Fault) → ComesAfter whole from text → ColonText (length whole) text o
      → EndsIn (ComesAfter whole from) (λ fault. IsPiece whole fault.span) (λ _. Unit {0}) o
  colon_text_is_at from text o t (single inside tail passes e alone) =
      (goes_on from text (58 ∷ tail) t (cut_same text (inside ++ 58 ∷ tail) (58 ∷ tail) e (cut_before inside 58 tail (omega arith))), tt)
  colon_text_is_at from text o t (missing passes) = fault_is_at ReachedEOL from [] (goes_on from text [] t (cut_end text))

  -- what lies between an offset and a later one
  pub piece_after : (from text : List ℕ) → ComesAfter whole from text
      → IsPiece whole (record { start = offset_of (length whole) from; end = offset_of (length whole) text })
  piece_after from text t = record {
    ordered = omega (arith, offset_cut from text t.further, offset_cut whole from t.origin);
    begins_at = boundary_cut whole from utf8 t.origin;
    ends_at = boundary_cut whole text utf8 (whole_cut from text t);
  }

  pub action_is_at : (from text word rest : List ℕ) → ComesAfter whole from text → IsAction text word rest
      → ComesAfter whole from rest × IsWithin whole (action_at (length whole) text word rest).1
  action_is_at from text word rest t is = (
    goes_on from text rest t (cut_same text (123 ∷ (is.inside ++ 125 ∷ rest)) rest is.whole (action_cut is.inside rest)),
    record { ordered = omega arith; within = omega (arith, offset_cut whole text here, ap length is.whole, length-append is.inside (125 ∷ rest), shorter) },
  )
    where
      here : IsCut whole text
      here = whole_cut from text t

      opened : IsUtf8 (is.inside ++ 125 ∷ rest)
      opened = (cut_same text (123 ∷ (is.inside ++ 125 ∷ rest)) (is.inside ++ 125 ∷ rest) is.whole (cut_byte 123 (is.inside ++ 125 ∷ rest) (omega arith))).utf8 (here.utf8 utf8)

      shorter : length word ≤ length is.inside
      shorter = subst (λ w. length w ≤ length is.inside) is.trimmed (trim_no_longer is.inside (prefix_utf8 is.inside 125 rest (omega arith) opened))
