-- A required section is read like an optional one, unless it is missing.
use Rattle.std.proofs.Common.{◌≡◌, ℕ, ◌⊎◌, inl, inr, Bool, true, false, List, [], ◌∷◌, ◌++◌, length, Option, Some, None, Result, Ok, Err, All, refl, ap, codes}
use Rattle.std.proofs.lemmas.List.Elements.{All-head}
use Rattle.cfgbase.specs.declared.span.Span.{Span}
use Rattle.constructs.specs.Leaves.{Gives, Leaves}
use Rattle.constructs.specs.Construct.{Construct, computes, ends, repeat}
use Rattle.constructs.specs.Pieces.{strip}
use Rattle.constructs.specs.Read.{Read, follow_outcome, after_word, case_of, prefixed}
use Rattle.constructs.proofs.Agree.{agree}
use Rattle.constructs.proofs.Keeps.{Keeps, keeps}
use Rattle.cfgwords.specs.SectionWords.{ascii_characters, wide_characters}
use Rattle.cfgerrors.specs.HeaderErrors.{ShownError}
use Rattle.cfgsection.specs.SectionErrors.{duplicate_errors}
use Rattle.lemmas.specs.Lists.{repeated}
use Rattle.cfgsection.specs.SectionGrammar.{Entry, Fault, Turn, one_of, wide_character, white_character, white, missing, section}
use Rattle.cfgsection.specs.SectionReads.{end_of, section_answer, section_of}

-- the construct notes no entries
abbrev NotesNone : {l : Leaves} {G : Gives} → Construct Entry Fault l G → Type 0
NotesNone c = Keeps (λ from text. Unit {0}) (λ entry. ⊥) (λ fault. Unit {0}) c [] (λ value. Unit {0})

one_of_notes_none : (characters : List (ℕ × List ℕ)) (c : Turn (Unit {0})) → NotesNone c → NotesNone (one_of characters c)
one_of_notes_none [] c none = none
one_of_notes_none ((first, others) ∷ characters) c none = (λ text rest t e. tt, tt, one_of_notes_none characters c none)

white_notes_none : NotesNone white
unfolding white repeat white_character wide_character
white_notes_none = (one_of_notes_none ascii_characters wide_character (one_of_notes_none wide_characters ends tt), λ values each. tt)

no_entries : (entries : List Entry) → All (λ entry. ⊥) entries → entries ≡ []
no_entries [] each = refl
no_entries (entry ∷ entries) each = absurd (All-head (λ entry. ⊥) entry entries each)

white_entries : (text : List ℕ) → (computes white text).items ≡ []
white_entries text =
    let kept = keeps (λ from text. Unit {0}) (λ entry. ⊥) (λ fault. Unit {0}) (λ from text t. tt) (λ from text rest t further. tt) white [] (λ value. Unit {0}) white_notes_none in
    no_entries (computes white text).items (kept.passes text (computes white text) tt ((agree white).sound text)).items

module _ (text : List ℕ) where
  abbrev Section : Type 0
  Section = Result (List Entry × List ℕ) (List (ShownError Span))

  -- a required section and an optional one: they are the same, or the section is missing
  abbrev IsSameOrMissing : Section → Section → Type 0
  IsSameOrMissing needed free = (needed ≡ free) ⊎ ((free ≡ Ok ([], text)) × ((found : List Entry × List ℕ) → needed ≡ Ok found → ⊥))

  abbrev answer : Read Entry Fault (List ℕ) → Section
  answer read = section_answer read.items (end_of read.outcome)

  module _ (there : List ℕ → Read Entry Fault (List ℕ)) where
    -- the rest after white space and the word `%grmtools`, if it is there
    abbrev by_word : Bool → Option (List ℕ) → List ℕ → Read Entry Fault (List ℕ)
    by_word required found rest = after_word there (computes (missing (length text) required text) rest) found

    at_word : (items : List Entry) → items ≡ [] → (rest : List ℕ) (found : Option (List ℕ))
        → IsSameOrMissing (answer (prefixed items (by_word true found rest))) (answer (prefixed items (by_word false found rest)))
    unfolding missing duplicate_errors repeated
    at_word items none rest (Some left) = inl refl
    at_word items none rest None = inr (ap (λ entries. section_answer (entries ++ []) (Ok text)) none, λ found is. cc)

    after_white : (items : List Entry) → items ≡ [] → (end : Result (Unit {0} × List ℕ) Fault)
        → IsSameOrMissing (answer (follow_outcome items end (λ u. case_of (codes "%grmtools") there (computes (missing (length text) true text)))))
        (answer (follow_outcome items end (λ u. case_of (codes "%grmtools") there (computes (missing (length text) false text)))))
    after_white items none (Err fault) = inl refl
    after_white items none (Ok (u, rest)) = at_word items none rest (strip (codes "%grmtools") rest)

  pub same_or_missing : IsSameOrMissing (section_of true text) (section_of false text)
  unfolding section_of section
  same_or_missing = after_white _ (computes white text).items (white_entries text) (computes white text).outcome
