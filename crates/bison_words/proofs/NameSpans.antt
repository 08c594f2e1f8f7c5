-- Where identifiers, numbers, marks and what can't begin a word are.
use Rattle.std.proofs.Common.{◌≡◌, ℕ, Bool, true, List, [], ◌∷◌, length, Option, refl, sym, ap, ◌∙◌}
use Rattle.std.specs.Str.{IsUtf8}
use Rattle.std.proofs.lemmas.Bool.{and_parts}
use Rattle.constructs.specs.Pieces.{starts, IsRun}
use Rattle.constructs.specs.Read.{Read, Choice}
use Rattle.constructs.specs.Construct.{Says}
use Rattle.bison_words.specs.declared.class.Class.TheVariants.{Letter, NameByte, Hexadecimal}
use Rattle.bison_words.specs.declared.words.WordFaultKind.TheVariants.{IllegalCharacters, IllegalIdentifier, IllegalInteger}
use Rattle.bison_words.specs.Bytes.{holds}
use Rattle.bison_words.specs.Runs.{IsSome}
use Rattle.bison_words.specs.Words.{Item, Identifier, Number, Colon, Semicolon, Bar, Equals, span_between}
use Rattle.bison_words.specs.Here.{starts_with}
use Rattle.bison_words.specs.Names.{is_identifier, identifier, number_word, number_end, hexadecimal, number, mark, odd}
use Rattle.bison_words.specs.WordSpans.{IsNameAt}
use Rattle.cfgwords.proofs.Cuts.{IsCut}
use Rattle.bison_words.proofs.Leads.{Gets, Leads, gives_gets, test_gets, word_gets}
use Rattle.bison_words.proofs.Passing.{gives_leads, then_leads, choice_leads, run_leads, passes_leads}
use Rattle.bison_words.proofs.PieceCuts.{run_cut, covers}
use Rattle.bison_words.proofs.States.{From, Ready, from_on, from_start, again_gets, case_from, some_from, byte_from, fault_from_leads, word_from_gets, word_leads, odd_leads}

-- a run begins with what its text begins with
run_begins : (test first : ℕ → Bool) (text name rest : List ℕ) → starts test text ≡ true → IsRun test text name rest
    → starts first text ≡ true → starts first name ≡ true
run_begins test first text [] rest begins run letter = absurd (cc (begins, ap (starts test) run.whole, run.longest))
run_begins test first text (b ∷ name) rest begins run letter = ap (starts first) (sym run.whole) ∙ letter

name_at : (whole text name rest : List ℕ) → IsCut whole text → is_identifier text ≡ true → IsSome NameByte text name rest
    → IsNameAt whole (span_between (length whole) text rest) name
unfolding is_identifier
name_at whole text name rest cut identifier is = record {
  begins = run_begins (holds NameByte) (holds Letter) text name rest is.begins is.run (and_parts (starts_with Letter text) _ identifier).0;
  bytes = is.run.passes;
  is_covered = covers whole text name rest cut is.run.whole;
}

module _ (whole : List ℕ) (utf8 : IsUtf8 whole) where
  identifier_gets : (text : List ℕ) (done : ℕ) → Ready whole text done → is_identifier text ≡ true
      → Gets whole (Says (identifier (length whole)) text) done (λ _. Ready whole)
  unfolding identifier
  identifier_gets text done ready is_one = word_gets
      (λ name rest is. again_gets
      (word_from_gets whole utf8 text done (Identifier name) ready rest done
      (from_on text rest done (from_start text ready.cut) (run_cut NameByte text name rest is.run))
      (name_at whole text name rest ready.cut is_one is)))
      (gives_gets ready)

  -- an identifier, or another word
  pub identifier_leads : {H : List ℕ → Read Item ⊥ (Option (Unit {0})) → Type 0} → Leads whole (Ready whole) (Ready whole) H
      → Leads whole (Ready whole) (Ready whole) (Choice is_identifier (Says (identifier (length whole))) H)
  identifier_leads p = record { gets = λ text done ready. test_gets (λ is_one. identifier_gets text done ready is_one) (p.gets text done ready) }

  module _ (start : List ℕ) (before : ℕ) (ready : Ready whole start before) where
    number_word_leads : (number : ℕ) → Leads whole (From whole start before) (Ready whole) (Says (number_word (length whole) start number))
    unfolding number_word
    number_word_leads number = then_leads (choice_leads (fault_from_leads whole utf8 start before IllegalInteger) gives_leads) (λ _. word_leads whole utf8 start before ready (Number number) (λ _. tt))

    number_end_leads : (base : ℕ) (digits : List ℕ) → Leads whole (From whole start before) (Ready whole) (Says (number_end (length whole) start base digits))
    unfolding number_end
    number_end_leads base digits = choice_leads
        (then_leads (passes_leads from_on NameByte) (λ _. then_leads (odd_leads whole utf8 start before ready IllegalIdentifier) (λ _. gives_leads)))
        (then_leads (number_word_leads _) (λ _. gives_leads))

    hexadecimal_leads : Leads whole (From whole start before) (Ready whole) (Says (hexadecimal (length whole) start))
    unfolding hexadecimal
    hexadecimal_leads = then_leads (run_leads from_on Hexadecimal) (λ digits. number_end_leads 16 digits)

    number_here : Gets whole (Says (number (length whole)) start) before (λ _. Ready whole)
    unfolding number
    number_here =
        let t = from_start start ready.cut in
        case_from t refl (λ rest e f. hexadecimal_leads.gets rest before f)
        (case_from t refl (λ rest e f. hexadecimal_leads.gets rest before f)
        (some_from t (λ digits rest f. (number_end_leads 10 digits).gets rest before f)
        (gives_gets ready)))

    mark_here : Gets whole (Says (mark (length whole)) start) before (λ _. Ready whole)
    unfolding mark
    mark_here =
        let t = from_start start ready.cut in
        case_from t refl (λ rest e f. again_gets ((word_leads whole utf8 start before ready Semicolon (λ _. tt)).gets rest before f))
        (case_from t refl (λ rest e f. again_gets ((word_leads whole utf8 start before ready Bar (λ _. tt)).gets rest before f))
        (case_from t refl (λ rest e f. again_gets ((word_leads whole utf8 start before ready Equals (λ _. tt)).gets rest before f))
        (case_from t refl (λ rest e f. again_gets ((word_leads whole utf8 start before ready Colon (λ _. tt)).gets rest before f))
        (gives_gets ready))))

    odd_here : Gets whole (Says (odd (length whole)) start) before (λ _. Ready whole)
    unfolding odd
    odd_here =
        let t = from_start start ready.cut in
        some_from t (λ word rest f. again_gets ((odd_leads whole utf8 start before ready IllegalCharacters).gets rest before f))
        (byte_from t (λ byte rest f. again_gets ((odd_leads whole utf8 start before ready IllegalCharacters).gets rest before f))
        (gives_gets ready))

  pub number_leads : Leads whole (Ready whole) (Ready whole) (Says (number (length whole)))
  number_leads = record { gets = number_here }

  pub mark_leads : Leads whole (Ready whole) (Ready whole) (Says (mark (length whole)))
  mark_leads = record { gets = mark_here }

  pub odd_word_leads : Leads whole (Ready whole) (Ready whole) (Says (odd (length whole)))
  odd_word_leads = record { gets = odd_here }
