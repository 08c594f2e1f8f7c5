-- States of a reading: where it began, and how far it is.
use Rattle.std.proofs.Common.{◌≡◌, ℕ, ◌≤◌, Bool, true, false, cond, List, ◌++◌, length, refl, ◌∙◌, arith}
use Rattle.std.specs.Str.{IsUtf8}
use Rattle.constructs.specs.Read as read
use Rattle.constructs.specs.Read.{Read, Exactly, Then, Case, WordOr}
use Rattle.constructs.specs.Construct.{Says}
use Rattle.cfgbase.specs.declared.span.Span.{Span}
use Rattle.cfgwords.specs.TextSpans.{IsPiece}
use Rattle.cfgwords.proofs.Cuts.{IsCut, cut_here, cut_on, offset_cut}
use Rattle.bison_words.specs.declared.class.Class.{Class}
use Rattle.bison_words.specs.declared.words.WordFaultKind.{WordFaultKind}
use Rattle.bison_words.specs.Runs.{IsSome, IsByte}
use Rattle.bison_words.specs.Words.{Item, Lexeme, offset_of, span_between, first_bytes}
use Rattle.bison_words.specs.WordSpans.{IsLexemeAt, is_fault}
use Rattle.bison_words.specs.Here.{fault_between, fault_from, fault_first, odd_between, odd_from, word_from}
use Rattle.bison_words.proofs.Leads.{Gets, Leads, gives_gets, weaker_gets, then_gets, case_gets, word_gets, emits_gets}
use Rattle.bison_words.proofs.Passing.{Advances}
use Rattle.bison_words.proofs.PieceCuts.{is_ascii_word, word_cut, run_cut, byte_cut, piece_between}

-- What began at start is read up to text, and no word since that isn't a fault.
pub record From (whole start : List ℕ) (before : ℕ) (text : List ℕ) (done : ℕ) : Type 0 where
  pub origin : IsCut whole start
  pub further : IsCut start text
  pub same : done ≡ before

-- the last word that isn't a fault ends here, or before that
pub record Ready (whole text : List ℕ) (done : ℕ) : Type 0 where
  pub cut : IsCut whole text
  pub passed : done ≤ offset_of (length whole) text

pub from_on : {whole start : List ℕ} {before : ℕ} → Advances (From whole start before) (From whole start before)
from_on {start = start} text rest done t cut = record { origin = t.origin; further = cut_on start text rest t.further cut; same = t.same }

pub ready_on : {whole : List ℕ} → Advances (Ready whole) (Ready whole)
ready_on {whole = whole} text rest done t cut = record { cut = cut_on whole text rest t.cut cut; passed = omega (arith, t.passed, offset_cut whole text t.cut, offset_cut text rest cut) }

pub from_start : {whole : List ℕ} {before : ℕ} (start : List ℕ) → IsCut whole start → From whole start before start before
from_start start cut = record { origin = cut; further = cut_here start; same = refl }

pub from_ready : {whole : List ℕ} (start : List ℕ) (before : ℕ) → Ready whole start before → (text : List ℕ) (done : ℕ) → From whole start before text done → Ready whole text done
from_ready {whole} start before ready text done t = record {
  cut = cut_on whole start text t.origin t.further;
  passed = omega (arith, ready.passed, t.same, offset_cut whole start t.origin, offset_cut start text t.further);
}

-- what begins here, as a part of what began earlier
pub inner_gets : {whole start : List ℕ} {before : ℕ} {A : Type 0} {P : Read Item ⊥ A → Type 0} (text : List ℕ) (done : ℕ) → From whole start before text done
    → Gets whole P done (λ _. From whole text done) → Gets whole P done (λ _. From whole start before)
inner_gets {start = start} text done t p = weaker_gets (λ a rest later f. record { origin = t.origin; further = cut_on start text rest t.further f.further; same = f.same ∙ t.same }) p

-- what begins here and is no word, among words
pub among_gets : {whole : List ℕ} {A : Type 0} {P : Read Item ⊥ A → Type 0} (text : List ℕ) (done : ℕ) → Ready whole text done
    → Gets whole P done (λ _. From whole text done) → Gets whole P done (λ _. Ready whole)
among_gets text done ready p = weaker_gets (λ a rest later f. from_ready text done ready rest later f) p

-- one construct after another
pub after_gets : {whole : List ℕ} {A B : Type 0} {text : List ℕ} {done : ℕ} {U : A → List ℕ → ℕ → Type 0} {T : List ℕ → ℕ → Type 0}
    {G : List ℕ → Read Item ⊥ B → Type 0} {H : B → List ℕ → Read Item ⊥ A → Type 0}
    → Gets whole (G text) done (λ _. T) → ((b : B) (rest : List ℕ) (done : ℕ) → T rest done → Gets whole (H b rest) done U) → Gets whole (Then G H text) done U
after_gets p q = then_gets (weaker_gets q p)

pub again_gets : {whole : List ℕ} {A B : Type 0} {text : List ℕ} {done : ℕ} {T : List ℕ → ℕ → Type 0} {G : List ℕ → Read Item ⊥ B → Type 0} {value : B → A}
    → Gets whole (G text) done (λ _. T) → Gets whole (Then G (λ b. Exactly (read.gives (value b))) text) done (λ _. T)
again_gets p = then_gets (weaker_gets (λ b rest done t. gives_gets t) p)

-- pieces of what began at start
module _ {whole start : List ℕ} {before : ℕ} {A : Type 0} {text : List ℕ} {done : ℕ} {U : A → List ℕ → ℕ → Type 0} (t : From whole start before text done)
    {H : List ℕ → Read Item ⊥ A → Type 0} where
  pub case_from : {word : List ℕ} {G : List ℕ → Read Item ⊥ A → Type 0} → is_ascii_word word ≡ true
      → ((rest : List ℕ) → text ≡ word ++ rest → From whole start before rest done → Gets whole (G rest) done U)
      → Gets whole (H text) done U → Gets whole (Case word G H text) done U
  case_from {word = word} ascii p q = case_gets (λ rest e. p rest e (from_on text rest done t (word_cut word text rest ascii e))) q

  pub some_from : {class : Class} {G : List ℕ → List ℕ → Read Item ⊥ A → Type 0}
      → ((word rest : List ℕ) → From whole start before rest done → Gets whole (G word rest) done U)
      → Gets whole (H text) done U → Gets whole (WordOr (IsSome class) (λ text word rest. word) G H text) done U
  some_from {class = class} p q = word_gets (λ word rest is. p word rest (from_on text rest done t (run_cut class text word rest is.run))) q

  pub byte_from : {class : Class} {G : ℕ → List ℕ → Read Item ⊥ A → Type 0}
      → ((byte : ℕ) (rest : List ℕ) → From whole start before rest done → Gets whole (G byte rest) done U)
      → Gets whole (H text) done U → Gets whole (WordOr (IsByte class) (λ text byte rest. byte) G H text) done U
  byte_from {class = class} p q = word_gets (λ byte rest is. p byte rest (from_on text rest done t (byte_cut class text byte rest is))) q

-- Faults, and words
module _ (whole : List ℕ) (utf8 : IsUtf8 whole) where
  pub fault_from_leads : (start : List ℕ) (before : ℕ) (kind : WordFaultKind) → Leads whole (From whole start before) (From whole start before) (Says (fault_from (length whole) start kind))
  fault_from_leads start before kind = record { gets = λ text done t. emits_gets (piece_between whole start text utf8 t.origin t.further) t }

  pub odd_between_leads : (start end : List ℕ) (kind : WordFaultKind) {T : List ℕ → ℕ → Type 0} → IsCut whole start → IsCut start end
      → Leads whole T T (Says (odd_between (length whole) start end kind))
  odd_between_leads start end kind origin further = record {
    gets = λ text done t.
        let piece = piece_between whole start end utf8 origin further in
        then_gets (emits_gets piece (emits_gets (record { piece = piece; lexeme = tt }, λ e. cc) t));
  }

  pub odd_from_leads : (start : List ℕ) (before : ℕ) (kind : WordFaultKind) → Leads whole (From whole start before) (From whole start before) (Says (odd_from (length whole) start kind))
  odd_from_leads start before kind = record { gets = λ text done t. (odd_between_leads start text kind t.origin t.further).gets text done t }

  pub word_from_gets : (start : List ℕ) (before : ℕ) (lexeme : Lexeme) → Ready whole start before → (text : List ℕ) (done : ℕ) → From whole start before text done
      → IsLexemeAt whole (span_between (length whole) start text) lexeme → Gets whole (Says (word_from (length whole) start lexeme) text) done (λ _. Ready whole)
  word_from_gets start before lexeme ready text done t is =
      emits_gets (record { piece = piece_between whole start text utf8 t.origin t.further; lexeme = is }, λ _. omega (arith, ready.passed, t.same)) (go (is_fault lexeme))
    where
      go : (fault : Bool) → Ready whole text (cond fault done (offset_of (length whole) text))
      go true = from_ready start before ready text done t
      go false = record { cut = cut_on whole start text t.origin t.further; passed = omega arith }

module _ (whole : List ℕ) (utf8 : IsUtf8 whole) (start : List ℕ) (before : ℕ) (ready : Ready whole start before) where
  pub word_leads : (lexeme : Lexeme) → ((span : Span) → IsLexemeAt whole span lexeme) → Leads whole (From whole start before) (Ready whole) (Says (word_from (length whole) start lexeme))
  word_leads lexeme is = record { gets = λ text done t. word_from_gets whole utf8 start before lexeme ready text done t (is _) }

  pub odd_leads : (kind : WordFaultKind) → Leads whole (From whole start before) (Ready whole) (Says (odd_from (length whole) start kind))
  odd_leads kind = record { gets = λ text done t. weaker_gets (λ a rest done f. from_ready start before ready rest done f) ((odd_from_leads whole utf8 start before kind).gets text done t) }

pub fault_between_leads : {whole : List ℕ} {T : List ℕ → ℕ → Type 0} (start end : List ℕ) (kind : WordFaultKind) → IsPiece whole (span_between (length whole) start end)
    → Leads whole T T (Says (fault_between (length whole) start end kind))
fault_between_leads start end kind piece = record { gets = λ text done t. emits_gets piece t }

pub fault_first_leads : {whole : List ℕ} {T : List ℕ → ℕ → Type 0} (start : List ℕ) (n : ℕ) (kind : WordFaultKind) → IsPiece whole (first_bytes (length whole) start n)
    → Leads whole T T (Says (fault_first (length whole) start n kind))
fault_first_leads start n kind piece = record { gets = λ text done t. emits_gets piece t }
