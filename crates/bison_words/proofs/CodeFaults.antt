-- Where the faults in code are.
use Rattle.std.proofs.Common.{◌≡◌, ℕ, ◌<◌, ◌⊎◌, inl, inr, true, List, ◌∷◌, [], length, refl, sym, ap, ◌∙◌, arith}
use Rattle.std.specs.Prelude.{codes}
use Rattle.std.specs.Str.{IsUtf8}
use Rattle.constructs.specs.Construct.{case_of, gives, repeat, Says}
use Rattle.cfgwords.specs.TextSpans.{IsPiece}
use Rattle.cfgwords.proofs.Cuts.{IsCut, cut_on, cut_same, cut_byte}
use Rattle.bison_words.specs.declared.words.WordFaultKind.{WordFaultKind}
use Rattle.bison_words.specs.declared.words.WordFaultKind.TheVariants.{IncompleteComment, IncompleteString, IncompleteLiteral}
use Rattle.bison_words.specs.Words.{first_bytes}
use Rattle.bison_words.specs.Code.{splice, splice_turn, splices, line_part, comment_part, quotes_part, code_comment, slash_piece, code_quotes, code_piece, prologue_piece}
use Rattle.bison_words.proofs.Leads.{Gets, Leads, gives_gets, weaker_gets, case_gets, repeat_leads}
use Rattle.bison_words.proofs.Passing.{gives_leads, then_leads, choice_leads, case_leads, backslash_leads, line_part_leads, comment_part_leads, quotes_part_leads, less_piece_leads, percent_piece_leads}
use Rattle.bison_words.proofs.PieceCuts.{is_ascii_word, word_cut, piece_first}
use Rattle.bison_words.proofs.States.{From, from_on, from_start, inner_gets, after_gets, again_gets, case_from, some_from, fault_first_leads}

record IsAsciiFirst (text : List ℕ) : Type 0 where
  byte : ℕ
  rest : List ℕ
  whole : text ≡ byte ∷ rest
  small : byte < 128

-- what a splice, or nothing, is passed of
abbrev Ahead : (whole start inner : List ℕ) (before : ℕ) (text : List ℕ) (done : ℕ) → Type 0
Ahead whole start inner before text done = From whole start before text done × ((text ≡ inner) ⊎ IsAsciiFirst inner)

ascii_first : (inner text : List ℕ) (byte : ℕ) (rest : List ℕ) → byte < 128 → text ≡ byte ∷ rest → (text ≡ inner) ⊎ IsAsciiFirst inner → IsAsciiFirst inner
ascii_first inner text byte rest small e (inl same) = record { byte = byte; rest = rest; whole = sym same ∙ e; small = small }
ascii_first inner text byte rest small e (inr first) = first

module _ (whole start inner : List ℕ) (before : ℕ) where
  splice_ahead : Leads whole (Ahead whole start inner before) (Ahead whole start inner before) (Says splice)
  unfolding splice
  splice_ahead = record {
    gets = λ text done t. case_gets
        (λ rest e. weaker_gets (λ a later done f. (f, inr (ascii_first inner text 92 rest (omega arith) e t.1)))
        ((backslash_leads from_on).gets rest done (from_on text rest done t.0 (word_cut (codes "\\") text rest refl e))))
        (gives_gets t);
  }

  splice_turn_ahead : Leads whole (Ahead whole start inner before) (Ahead whole start inner before) (Says splice_turn)
  unfolding splice_turn
  splice_turn_ahead = choice_leads splice_ahead gives_leads

  splices_ahead : Leads whole (Ahead whole start inner before) (Ahead whole start inner before) (Says splices)
  unfolding splices
  splices_ahead = repeat_leads splice_turn splice_turn_ahead

module _ (whole : List ℕ) (utf8 : IsUtf8 whole) where
  -- a byte that a text begins with
  pub first_piece : (start : List ℕ) (byte : ℕ) (rest : List ℕ) → IsCut whole start → byte < 128 → start ≡ byte ∷ rest → IsPiece whole (first_bytes (length whole) start 1)
  first_piece start byte rest origin small e =
      piece_first whole start rest 1 utf8 origin (cut_same start (byte ∷ rest) rest e (cut_byte byte rest small)) (omega (arith, ap length e))

  two_piece : (start inner : List ℕ) → IsCut whole start → start ≡ 47 ∷ inner → IsAsciiFirst inner → IsPiece whole (first_bytes (length whole) start 2)
  two_piece start inner origin e first =
      piece_first whole start first.rest 2 utf8 origin
      (cut_on start inner first.rest (word_cut (47 ∷ []) start inner refl e) (cut_same inner (first.byte ∷ first.rest) first.rest first.whole (cut_byte first.byte first.rest first.small)))
      (omega (arith, ap length e, ap length first.whole))

  code_comment_leads : (start : List ℕ) (before : ℕ) → IsPiece whole (first_bytes (length whole) start 2)
      → Leads whole (From whole start before) (From whole start before) (Says (code_comment (length whole) start))
  unfolding code_comment
  code_comment_leads start before piece = then_leads (repeat_leads comment_part (comment_part_leads from_on))
      (λ _. case_leads from_on refl gives_leads (fault_first_leads start 2 IncompleteComment piece))

  code_quotes_leads : (start : List ℕ) (before : ℕ) (close : List ℕ) (kind : WordFaultKind) → is_ascii_word close ≡ true → IsPiece whole (first_bytes (length whole) start 1)
      → Leads whole (From whole start before) (From whole start before) (Says (code_quotes (length whole) start close kind))
  unfolding code_quotes
  code_quotes_leads start before close kind ascii piece = then_leads (repeat_leads (quotes_part close) (quotes_part_leads from_on close))
      (λ _. then_leads (case_leads from_on ascii gives_leads (fault_first_leads start 1 kind piece)) (λ _. gives_leads))

  -- a comment, or a slash alone, after splices
  slash_gets : (start inner : List ℕ) (before done : ℕ) → start ≡ 47 ∷ inner → From whole start before inner done
      → Gets whole (Says (slash_piece (length whole) start) inner) done (λ _. From whole start before)
  unfolding slash_piece
  slash_gets start inner before done begins t =
      after_gets ((splices_ahead whole start inner before).gets inner done (t, inl refl)) (λ _ rest done h. again_gets (comment rest done h))
    where
      comment : (rest : List ℕ) (done : ℕ) → Ahead whole start inner before rest done
          → Gets whole (Says (case_of (codes "*") (code_comment (length whole) start) (case_of (codes "/") (repeat line_part) (gives tt))) rest) done (λ _. From whole start before)
      comment rest done h = case_from h.0 refl
          (λ tail e f. (code_comment_leads start before (two_piece start inner t.origin begins (ascii_first inner rest 42 tail (omega arith) e h.1))).gets tail done f)
          (case_from h.0 refl (λ tail e f. (repeat_leads line_part (line_part_leads from_on)).gets tail done f) (gives_gets h.0))

  piece_here : (start : List ℕ) (done : ℕ) → From whole start done start done → Gets whole (Says (code_piece (length whole)) start) done (λ _. From whole start done)
  unfolding code_piece
  piece_here start done t =
      some_from t (λ word rest f. gives_gets f)
      (case_from t refl (λ rest e f. slash_gets start rest done done e f)
      (case_from t refl (λ rest e f. (less_piece_leads from_on).gets rest done f)
      (case_from t refl (λ rest e f. (percent_piece_leads from_on).gets rest done f)
      (case_from t refl (λ rest e f. gives_gets f)
      (case_from t refl (λ rest e f. gives_gets f)
      (case_from t refl (λ rest e f. (code_quotes_leads start done (codes "\"") IncompleteString refl (first_piece start 34 rest t.origin (omega arith) e)).gets rest done f)
      (case_from t refl (λ rest e f. (code_quotes_leads start done (codes "'") IncompleteLiteral refl (first_piece start 39 rest t.origin (omega arith) e)).gets rest done f)
      (gives_gets t))))))))

  pub code_piece_leads : (start : List ℕ) (before : ℕ) → Leads whole (From whole start before) (From whole start before) (Says (code_piece (length whole)))
  code_piece_leads start before = record {
    gets = λ text done t. inner_gets text done t (piece_here text done (from_start text (cut_on whole start text t.origin t.further)));
  }

  pub prologue_piece_leads : (start : List ℕ) (before : ℕ) → Leads whole (From whole start before) (From whole start before) (Says (prologue_piece (length whole)))
  unfolding prologue_piece
  prologue_piece_leads start before = choice_leads gives_leads (code_piece_leads start before)
