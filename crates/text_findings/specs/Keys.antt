-- Keys of a file's section that nothing which reads grammars looks for.
use Rattle.std.specs.Prelude.{◌≡◌, ℕ, false, Bool, List, [], ◌∷◌, ◌++◌, codes, slice_get, Option, None, Some, Result, Ok, Err, if◌then◌else◌}
use Rattle.std.specs.List.{list_any}
use Rattle.std.specs.Option.{option_and_then, option_map_or}
use Rattle.std.specs.Str.{bytes_eq}
use Rattle.cfgrammar.specs.SectionGrammar.{Entry, Fault}
use Rattle.cfgrammar.specs.SectionReads.{section_of}
use Rattle.cfgrammar.specs.Span.{Span}
use Rattle.cfgnear.specs.Nearest.{nearest}
use Rattle.finding_kinds.specs.declared.finding_kind.FindingKind.TheVariants.{UnknownKey}
use Rattle.text_findings.specs.Finding.{ShownFinding}

-- the keys that programs which read grammars look for
abbrev pub known_keys : List (List ℕ)
known_keys = codes "yacckind" ∷ codes "recoverer" ∷ codes "test_files" ∷ []

abbrev pub is_known : List ℕ → Bool
is_known key = list_any (bytes_eq key) known_keys

-- the nearest of these keys if one is near, or else all of them
abbrev pub key_note : List ℕ → List ℕ
key_note key = option_map_or (λ other. codes "did you mean '" ++ (other ++ codes "'?")) (nearest key known_keys)
    (codes "the keys are 'yacckind', 'recoverer' and 'test_files'")

-- that the section has this key, here
abbrev pub unknown_key : List ℕ → Span → ShownFinding
unknown_key key span = record {
  kind = UnknownKey;
  spans = span ∷ [];
  text = codes "Unknown key '" ++ (key ++ codes "' in the section");
  hint = Some (key_note key);
}

-- the finding about an entry, if its key is none of them
abbrev pub unknown : Entry → Option ShownFinding
unknown entry = if is_known entry.key then None else Some (unknown_key entry.key entry.key_span)

-- the entries of a section that was read, in the order of the text
abbrev pub entries_in : Result (List Entry × List ℕ) (List Fault) → List Entry
entries_in (Ok (entries, rest)) = entries
entries_in (Err errors) = []

-- the entries of a text's section; there are none if it has no section, or one with errors
abbrev pub entries_of : List ℕ → List Entry
entries_of text = entries_in (section_of false text)

-- the key of the n-th entry is none of them
abbrev pub ReportsUnknownKey : List Entry → ℕ → Option ShownFinding → Type 0
ReportsUnknownKey entries n found = found ≡ option_and_then unknown (slice_get entries n)
