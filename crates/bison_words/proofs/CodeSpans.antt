-- Where code, predicates and prologues are.
use Rattle.std.proofs.Common.{◌≡◌, ℕ, ◌+◌, ◌-◌, ◌<◌, ◌≤◌, ◌==◌, Bool, true, false, cond, List, [], ◌∷◌, length, take, get_or, refl, arith, length-take}
use Rattle.std.specs.Str.{IsUtf8}
use Rattle.std.proofs.lemmas.Bool.Decides.{nat_tests}
use Rattle.std.proofs.lemmas.Str.{IsUtf8-take, IsCharBoundary-before_ascii}
use Rattle.constructs.specs.Construct.{Says}
use Rattle.cfgbase.specs.declared.span.Span.{Span}
use Rattle.cfgwords.specs.TextSpans.{IsWithin}
use Rattle.cfgwords.proofs.Cuts.{IsCut, cut_here, cut_on, offset_cut, boundary_cut}
use Rattle.cfgwords.proofs.Trimming.{trim_no_longer}
use Rattle.bison_words.specs.declared.class.Class.TheVariants.{Space}
use Rattle.bison_words.specs.declared.words.WordFaultKind.TheVariants.{IncompleteCode, IncompletePrologue}
use Rattle.bison_words.specs.Words.{Lexeme, Predicate, Prologue, offset_of}
use Rattle.bison_words.specs.Quotes.{before as before_rest}
use Rattle.bison_words.specs.Code.{without_brace, code_text, code_lexeme, code_piece, code_end, braces, code, predicate, prologue_piece, prologue_end, prologue}
use Rattle.bison_words.specs.WordSpans.{IsLexemeAt}
use Rattle.bison_words.proofs.Leads.{Gets, Leads, gives_gets, choice_gets, repeat_leads}
use Rattle.bison_words.proofs.NestedLeads.{closing_leads}
use Rattle.bison_words.proofs.Passing.{later_leads, case_leads, passes_leads}
use Rattle.bison_words.proofs.States.{From, Ready, from_on, from_start, from_ready, after_gets, again_gets, case_from, odd_between_leads, word_from_gets, word_leads}
use Rattle.bison_words.proofs.CodeFaults.{code_piece_leads, prologue_piece_leads}

-- the text without its brace is a text, and no longer
record IsShorterText (text short : List ℕ) : Type 0 where
  utf8 : IsUtf8 short
  less : length short ≤ length text

without_brace_shorter : (text : List ℕ) → IsUtf8 text → IsShorterText text (without_brace text)
without_brace_shorter text utf8 = go (get_or text (length text - 1) 0 == 125) refl
  where
    go : (brace : Bool) → (get_or text (length text - 1) 0 == 125) ≡ brace → IsShorterText text (cond brace (take (length text - 1) text) text)
    go true e =
        let last : get_or text (length text - 1) 0 ≡ 125 = grind (arith, nat_tests, e) in
        record {
          utf8 = IsUtf8-take text (length text - 1) utf8 (IsCharBoundary-before_ascii text (length text - 1) (some text last) (omega (arith, last)));
          less = omega (arith, length-take (length text - 1) text);
        }
      where
        some : (text : List ℕ) → get_or text (length text - 1) 0 ≡ 125 → length text - 1 < length text
        some [] e = cc
        some (b ∷ text) e = omega arith
    go false e = record { utf8 = utf8; less = omega arith }

code_text_shorter : (opened rest : List ℕ) → IsUtf8 opened → IsCut opened rest → length (code_text opened rest) ≤ length opened
code_text_shorter opened rest utf8 cut =
    let inside = IsUtf8-take opened (length opened - length rest) utf8 (boundary_cut opened rest utf8 cut) in
    let shorter = without_brace_shorter (before_rest opened rest) inside in
    omega (arith, trim_no_longer (without_brace (before_rest opened rest)) shorter.utf8, shorter.less, length-take (length opened - length rest) opened)

module _ (whole : List ℕ) (utf8 : IsUtf8 whole) where
  code_within : (opened rest : List ℕ) → IsCut whole opened → IsCut opened rest
      → IsWithin whole (record { start = offset_of (length whole) opened; end = offset_of (length whole) opened + length (code_text opened rest) })
  code_within opened rest origin further = record {
    ordered = omega arith;
    within = omega (arith, offset_cut whole opened origin, code_text_shorter opened rest (origin.utf8 utf8) further);
  }

  -- what such a word of code says of its text
  abbrev AreWithin : (List ℕ → List ℕ → Lexeme) → Type 0
  AreWithin lexeme = (opened rest : List ℕ) (span : Span) → IsCut whole opened → IsCut opened rest → IsLexemeAt whole span (lexeme opened rest)

  module _ (start : List ℕ) (before : ℕ) (ready : Ready whole start before) where
    code_end_gets : (lexeme : List ℕ → List ℕ → Lexeme) → AreWithin lexeme → (opened : List ℕ) (closed : Bool) → IsCut start opened
        → (rest : List ℕ) (done : ℕ) → From whole opened before rest done → Gets whole (Says (code_end (length whole) start opened (lexeme opened) closed) rest) done (λ _. Ready whole)
    unfolding code_end
    code_end_gets lexeme is opened closed cut rest done t =
        let f : From whole start before rest done = record { origin = ready.cut; further = cut_on start opened rest cut t.further; same = t.same } in
        choice_gets
        (word_from_gets whole utf8 start before (lexeme opened rest) ready rest done f (is opened rest _ t.origin t.further))
        ((later_leads (from_ready start before ready) (odd_between_leads whole utf8 start opened IncompleteCode ready.cut cut)).gets rest done f)

    braces_gets : (lexeme : List ℕ → List ℕ → Lexeme) → AreWithin lexeme → (text : List ℕ) (done : ℕ) → From whole start before text done
        → Gets whole (Says (braces (length whole) start lexeme) text) done (λ _. Ready whole)
    unfolding braces
    braces_gets lexeme is text done t = case_from t refl
        (λ opened e f. after_gets
        ((closing_leads (code_piece (length whole)) (code_piece_leads whole utf8 opened before)).gets opened done
        (record { origin = cut_on whole start opened f.origin f.further; further = cut_here opened; same = f.same }))
        (λ closed rest done g. again_gets (code_end_gets lexeme is opened closed f.further rest done g)))
        (gives_gets (from_ready start before ready text done t))

    code_here : Gets whole (Says (code (length whole)) start) before (λ _. Ready whole)
    unfolding code
    code_here = braces_gets (code_lexeme (length whole)) (λ opened rest span. code_within opened rest) start before (from_start start ready.cut)

    predicate_here : Gets whole (Says (predicate (length whole)) start) before (λ _. Ready whole)
    unfolding predicate
    predicate_here = case_from (from_start start ready.cut) refl
        (λ opened e f. after_gets ((passes_leads from_on Space).gets opened before f)
        (λ _ rest done g. braces_gets (λ opened rest. Predicate) (λ opened rest span origin further. tt) rest done g))
        (gives_gets ready)

    prologue_end_leads : (opened : List ℕ) → IsCut start opened → Leads whole (From whole start before) (Ready whole) (Says (prologue_end (length whole) start opened))
    unfolding prologue_end
    prologue_end_leads opened cut = case_leads from_on refl (word_leads whole utf8 start before ready Prologue (λ _. tt))
        (later_leads (from_ready start before ready) (odd_between_leads whole utf8 start opened IncompletePrologue ready.cut cut))

    prologue_here : Gets whole (Says (prologue (length whole)) start) before (λ _. Ready whole)
    unfolding prologue
    prologue_here = case_from (from_start start ready.cut) refl
        (λ opened e f. after_gets ((repeat_leads (prologue_piece (length whole)) (prologue_piece_leads whole utf8 start before)).gets opened before f)
        (λ _ rest done g. again_gets ((prologue_end_leads opened f.further).gets rest done g)))
        (gives_gets ready)

  pub code_leads : Leads whole (Ready whole) (Ready whole) (Says (code (length whole)))
  code_leads = record { gets = code_here }

  pub predicate_leads : Leads whole (Ready whole) (Ready whole) (Says (predicate (length whole)))
  predicate_leads = record { gets = predicate_here }

  pub prologue_leads : Leads whole (Ready whole) (Ready whole) (Says (prologue (length whole)))
  prologue_leads = record { gets = prologue_here }
