-- Findings about what a file seems to lack: precedences, `%empty`, a `:` after a type, a letter of a key, a symbol before an action, a reader
-- of its value. The text and its tree alone decide.
use Rattle.std.specs.Prelude.{◌≡◌, ℕ, List, ◌++◌, length}
use Rattle.cfgrammar.specs.Syntax.{Syntax}
use Rattle.text_findings.specs.Empty.{ReportsMissingEmpty}
use Rattle.text_findings.specs.Finding.{ShownFinding}
use Rattle.text_findings.specs.Keys.{ReportsUnknownKey, entries_of}
use Rattle.text_findings.specs.Precedences.{ReportsUndefinedPrecedence}
use Rattle.text_findings.specs.References.{ReportsUnknownReference}
use Rattle.text_findings.specs.Reports.{ReportsBelow}
use Rattle.text_findings.specs.Swallowed.{ReportsSwallowed}
use Rattle.text_findings.specs.Values.{ReportsUnreadValue}

-- first those about precedences, then those about empty productions, about types of rules, about keys of the section, about
-- references, and about values
pub record AreFileFindings (text : List ℕ) (s : Syntax) (found : List ShownFinding) : Type 0 where
  pub precedences : List ShownFinding
  pub empty : List ShownFinding
  pub swallowed : List ShownFinding
  pub keys : List ShownFinding
  pub references : List ShownFinding
  pub values : List ShownFinding
  pub are_precedences : ReportsBelow (ReportsUndefinedPrecedence s) (length s.productions) precedences
  pub are_empty : ReportsBelow (ReportsMissingEmpty text s) (length s.productions) empty
  pub are_swallowed : ReportsBelow (ReportsSwallowed s) (length s.rules) swallowed
  pub are_keys : ReportsBelow (ReportsUnknownKey (entries_of text)) (length (entries_of text)) keys
  pub are_references : ReportsBelow (ReportsUnknownReference text s) (length s.productions) references
  pub are_values : ReportsBelow (ReportsUnreadValue s) (length s.productions) values
  pub is : found ≡ precedences ++ (empty ++ (swallowed ++ (keys ++ (references ++ values))))
