-- Where the faults in blanks are.
use Rattle.std.proofs.Common.{ℕ, List, length, refl, arith}
use Rattle.std.specs.Str.{IsUtf8}
use Rattle.constructs.specs.Construct.{Says}
use Rattle.cfgwords.proofs.Cuts.{cut_on}
use Rattle.bison_words.specs.declared.class.Class.TheVariants.{Any, Line}
use Rattle.bison_words.specs.declared.words.WordFaultKind.{WordFaultKind}
use Rattle.bison_words.specs.declared.words.WordFaultKind.TheVariants.{IncompleteComment}
use Rattle.bison_words.specs.Blanks.{comment, blank_turn, blank}
use Rattle.bison_words.specs.Here.{unended}
use Rattle.bison_words.proofs.Leads.{Gets, Leads, gives_gets, repeat_leads}
use Rattle.bison_words.proofs.Passing.{gives_leads, then_leads, first_leads, passes_leads, line_number_leads}
use Rattle.bison_words.proofs.States.{From, Ready, from_on, from_start, inner_gets, among_gets, again_gets, case_from, some_from, odd_from_leads}

module _ (whole : List ℕ) (utf8 : IsUtf8 whole) where
  unended_leads : (start : List ℕ) (before : ℕ) (kind : WordFaultKind) → Leads whole (From whole start before) (From whole start before) (Says (unended (length whole) start kind))
  unfolding unended
  unended_leads start before kind = then_leads (odd_from_leads whole utf8 start before kind) (λ _. passes_leads from_on Any)

  comment_leads : (start : List ℕ) (before : ℕ) → Leads whole (From whole start before) (From whole start before) (Says (comment (length whole) start))
  unfolding comment
  comment_leads start before = first_leads from_on (omega arith) refl (λ body. gives_leads) (unended_leads start before IncompleteComment)

  turn_here : (start : List ℕ) (done : ℕ) → From whole start done start done → Gets whole (Says (blank_turn (length whole)) start) done (λ _. From whole start done)
  unfolding blank_turn
  turn_here start done t =
      some_from t (λ word rest f. gives_gets f)
      (case_from t refl (λ rest e f. again_gets ((line_number_leads from_on).gets rest done f))
      (case_from t refl (λ rest e f. again_gets ((passes_leads from_on Line).gets rest done f))
      (case_from t refl (λ rest e f. again_gets ((comment_leads start done).gets rest done f))
      (gives_gets t))))

  turn_leads : (start : List ℕ) (before : ℕ) → Leads whole (From whole start before) (From whole start before) (Says (blank_turn (length whole)))
  turn_leads start before = record {
    gets = λ text done t. inner_gets text done t (turn_here text done (from_start text (cut_on whole start text t.origin t.further)));
  }

  pub blank_leads : (start : List ℕ) (before : ℕ) → Leads whole (From whole start before) (From whole start before) (Says (blank (length whole)))
  unfolding blank
  blank_leads start before = repeat_leads (blank_turn (length whole)) (turn_leads start before)

  -- among words
  pub blank_among : Leads whole (Ready whole) (Ready whole) (Says (blank (length whole)))
  blank_among = record { gets = λ text done ready. among_gets text done ready ((blank_leads text done).gets text done (from_start text ready.cut)) }
