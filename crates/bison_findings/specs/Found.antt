-- Findings that the words of a Bison file alone decide: misspelled `%define`s, aliases that a token has already, and commas.
use Rattle.std.specs.Prelude.{◌≡◌, ℕ, List, ◌++◌, filter_map, length}
use Rattle.constructs.specs.Construct.{computes}
use Rattle.bison_words.specs.TextWords.{text_words}
use Rattle.bison_words.specs.Words.{Word, word_in}
use Rattle.text_findings.specs.Finding.{ShownFinding}
use Rattle.text_findings.specs.Reports.{ReportsBelow}
use Rattle.bison_findings.specs.Aliases.{repeated_aliases}
use Rattle.bison_findings.specs.Commas.{ReportsStrayComma}
use Rattle.bison_findings.specs.Defines.{ReportsMisspelledDefine}

-- the words of a text as a Bison file
abbrev pub words_of : List ℕ → List Word
words_of text = filter_map word_in (computes (text_words (length text)) text).items

-- first those about `%define`s, then those about aliases, and about commas
pub record AreBisonFindings (text : List ℕ) (found : List ShownFinding) : Type 0 where
  pub defines : List ShownFinding
  pub commas : List ShownFinding
  pub are_defines : ReportsBelow (ReportsMisspelledDefine (words_of text)) (length (words_of text)) defines
  pub are_commas : ReportsBelow (ReportsStrayComma text (words_of text)) (length (words_of text)) commas
  pub is : found ≡ defines ++ (repeated_aliases (words_of text) ++ commas)
