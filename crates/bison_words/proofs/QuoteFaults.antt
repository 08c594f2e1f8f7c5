-- Where the faults in character literals and strings are.
use Rattle.std.proofs.Common.{◌≡◌, ℕ, ◌⊎◌, inl, inr, true, List, length, refl}
use Rattle.std.specs.Str.{IsUtf8}
use Rattle.constructs.specs.Silent.{Silently}
use Rattle.constructs.specs.Construct.{Says}
use Rattle.cfgwords.specs.TextSpans.{IsPiece}
use Rattle.cfgwords.proofs.Cuts.{cut_on}
use Rattle.bison_words.specs.declared.class.Class.{Class}
use Rattle.bison_words.specs.declared.class.Class.TheVariants.{Octal, Hexadecimal}
use Rattle.bison_words.specs.declared.words.WordFaultKind.{WordFaultKind}
use Rattle.bison_words.specs.declared.words.WordFaultKind.TheVariants.{IllegalCharacters, IllegalEscape}
use Rattle.bison_words.specs.Runs.{Few}
use Rattle.bison_words.specs.Words.{first_bytes}
use Rattle.bison_words.specs.Quotes.{numbered_value, numbered, illegal_escape, escape, quoted_part, quoted, quotes_end}
use Rattle.bison_words.proofs.Leads.{Gets, Leads, gives_gets, choice_gets, silently_gets, many_leads}
use Rattle.bison_words.proofs.Passing.{gives_leads, then_leads, choice_leads, case_leads, byte_leads, character_leads}
use Rattle.bison_words.proofs.PieceCuts.{is_ascii_word, few_cut}
use Rattle.bison_words.proofs.States.{From, from_on, from_start, inner_gets, again_gets, case_from, some_from, byte_from, fault_from_leads, fault_first_leads}

module _ (whole : List ℕ) (utf8 : IsUtf8 whole) where
  module _ (start : List ℕ) (before : ℕ) where
    few_leads : (class : Class) (most : ℕ) → (class ≡ Octal) ⊎ (class ≡ Hexadecimal) → Leads whole (From whole start before) (From whole start before) (Silently (Few class most))
    few_leads class most is = record { gets = λ text done t. silently_gets (λ word rest e. from_on text rest done t (few_cut class most text word rest is e)) }

    value_leads : (value : ℕ) → Leads whole (From whole start before) (From whole start before) (Says (numbered_value (length whole) start value))
    unfolding numbered_value
    value_leads value = choice_leads gives_leads (then_leads (fault_from_leads whole utf8 start before IllegalEscape) (λ _. gives_leads))

    numbered_leads : (class : Class) (base least most : ℕ) → (class ≡ Octal) ⊎ (class ≡ Hexadecimal)
        → Leads whole (From whole start before) (From whole start before) (Says (numbered (length whole) start class base least most))
    unfolding numbered
    numbered_leads class base least most is = choice_leads (then_leads (fault_from_leads whole utf8 start before IllegalEscape) (λ _. gives_leads))
        (then_leads (few_leads class most is) (λ digits. value_leads _))

    illegal_leads : Leads whole (From whole start before) (From whole start before) (Says (illegal_escape (length whole) start))
    unfolding illegal_escape
    illegal_leads = then_leads (character_leads from_on) (λ _. then_leads (fault_from_leads whole utf8 start before IllegalEscape) (λ _. gives_leads))

    escape_leads : Leads whole (From whole start before) (From whole start before) (Says (escape (length whole) start))
    unfolding escape
    escape_leads = byte_leads from_on (λ b. gives_leads)
        (choice_leads (numbered_leads Octal 8 1 3 (inl refl))
        (case_leads from_on refl (numbered_leads Hexadecimal 16 1 (length whole) (inr refl))
        (case_leads from_on refl (numbered_leads Hexadecimal 16 4 4 (inr refl))
        (case_leads from_on refl (numbered_leads Hexadecimal 16 8 8 (inr refl))
        illegal_leads))))

  part_here : (close start : List ℕ) (done : ℕ) → From whole start done start done → Gets whole (Says (quoted_part (length whole) close) start) done (λ _. From whole start done)
  unfolding quoted_part
  part_here close start done t =
      choice_gets (gives_gets t)
      (case_from t refl (λ rest e f. again_gets ((escape_leads start done).gets rest done f))
      (case_from t refl (λ rest e f. again_gets ((fault_from_leads whole utf8 start done IllegalCharacters).gets rest done f))
      (byte_from t (λ byte rest f. gives_gets f)
      (some_from t (λ word rest f. gives_gets f)
      (gives_gets t)))))

  part_leads : (close start : List ℕ) (before : ℕ) → Leads whole (From whole start before) (From whole start before) (Says (quoted_part (length whole) close))
  part_leads close start before = record {
    gets = λ text done t. inner_gets text done t (part_here close text done (from_start text (cut_on whole start text t.origin t.further)));
  }

  pub quoted_leads : (close start : List ℕ) (before : ℕ) → Leads whole (From whole start before) (From whole start before) (Says (quoted (length whole) close))
  unfolding quoted
  quoted_leads close start before = then_leads (many_leads (part_leads close start before)) (λ parts. gives_leads)

  pub quotes_end_leads : (start : List ℕ) (before : ℕ) (quote close : List ℕ) (kind : WordFaultKind) → is_ascii_word close ≡ true → IsPiece whole (first_bytes (length whole) quote 1)
      → Leads whole (From whole start before) (From whole start before) (Says (quotes_end (length whole) quote close kind))
  unfolding quotes_end
  quotes_end_leads start before quote close kind ascii piece = case_leads from_on ascii gives_leads (then_leads (fault_first_leads quote 1 kind piece) (λ _. gives_leads))
