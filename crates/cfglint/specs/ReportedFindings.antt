-- Findings as they are reported.
use Rattle.std.specs.Prelude.{ℕ, Bool, true, false, if◌then◌else◌, List, [], ◌∷◌, ◌++◌, codes}
use Rattle.std.specs.List.{flat_map}
use Rattle.std.specs.Option.{option_map_or}
use Rattle.cfgrammar.specs.ColumnUnit.{ColumnUnit}
use Rattle.cfgrammar.specs.Render.{note_line}
use Rattle.cfgjson.specs.Objects.{ShownDiagnostic}
use Rattle.finding_kinds.specs.declared.finding_kind.FindingKind.{FindingKind}
use Rattle.finding_kinds.specs.declared.finding_kind.FindingKind.TheVariants.{CyclicRule, EscapedToken, GluedKeyword, NeedlessExpectUnused, NoSentence, OverriddenPrecedence, RepeatedToken, ShadowedRule, StartWithoutSentence, SwallowedRule, UnusableRule, UnusedPrecedence, UnusedRule, UnusedToken, UselessSymbol}
use Rattle.finding_kinds.specs.declared.levels.Level.{Level}
use Rattle.finding_kinds.specs.declared.levels.Level.TheVariants.{Allow, Warn, Deny}
use Rattle.finding_kinds.specs.declared.levels.Levels.{Levels}
use Rattle.finding_kinds.specs.FindingKinds.{level_of, word_of}
use Rattle.cfgfindings.specs.Shown.{ShownFinding, offset_of, spanskind_of}
use Rattle.cfglint.specs.Allowed.{is_allowed}
use Rattle.cfglint.specs.Severities.{printed}

-- a finding that is reported, as an error or as a warning
pub record Reported : Type 0 where
  pub finding : ShownFinding
  pub is_error : Bool

-- a finding with this level, as it is reported, if it is
abbrev pub reported_at : Level → ShownFinding → List Reported
reported_at Allow finding = []
reported_at Warn finding = record { finding = finding; is_error = false } ∷ []
reported_at Deny finding = record { finding = finding; is_error = true } ∷ []

-- what becomes of a finding about the text: with its kind's level, unless a comment allows it
abbrev pub level_in : List ℕ → Levels → ShownFinding → Level
level_in text levels finding = if is_allowed text finding then Allow else level_of levels finding.kind

abbrev pub reported_by : List ℕ → Levels → List ShownFinding → List Reported
reported_by text levels findings = flat_map (λ (finding : ShownFinding). reported_at (level_in text levels finding) finding) findings

-- the message of a finding, with the word of its kind
abbrev pub finding_message : Reported → List ℕ
finding_message reported = reported.finding.text ++ (codes " [" ++ (word_of reported.finding.kind ++ codes "]"))

-- the line of the note on a finding, if there is one
abbrev pub note_of : ColumnUnit → List ℕ → List ℕ → ShownFinding → List ℕ
note_of unit name text finding = option_map_or (λ words. note_line unit name text words (offset_of finding)) finding.hint []

-- the lines for findings about a text with this name, with columns in this unit, and with colours or not
abbrev pub finding_lines : ColumnUnit → Bool → List ℕ → List ℕ → List Reported → List ℕ
finding_lines unit colors name text all = flat_map (λ (reported : Reported).
    printed unit colors name text reported.is_error (finding_message reported) reported.finding.spans (spanskind_of reported.finding.kind)
    ++ note_of unit name text reported.finding) all

-- whether the spans of findings of a kind are names of symbols; the spans of the others are productions, numbers or keys
abbrev pub has_symbols_of : FindingKind → Bool
has_symbols_of UnusedRule = true
has_symbols_of UnusedToken = true
has_symbols_of ShadowedRule = true
has_symbols_of StartWithoutSentence = true
has_symbols_of NoSentence = true
has_symbols_of UnusableRule = true
has_symbols_of UselessSymbol = true
has_symbols_of CyclicRule = true
has_symbols_of UnusedPrecedence = true
has_symbols_of RepeatedToken = true
has_symbols_of OverriddenPrecedence = true
has_symbols_of GluedKeyword = true
has_symbols_of NeedlessExpectUnused = true
has_symbols_of EscapedToken = true
has_symbols_of SwallowedRule = true
has_symbols_of _ = false

-- a finding, as programs read it
abbrev pub shown_finding : Reported → ShownDiagnostic
shown_finding reported = record {
  is_error = reported.is_error;
  kind = word_of reported.finding.kind;
  text = reported.finding.text;
  hint = reported.finding.hint;
  spans = reported.finding.spans;
  has_symbols = has_symbols_of reported.finding.kind;
}
