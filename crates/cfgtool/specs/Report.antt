-- What the program writes about a text.
use Rattle.std.specs.Prelude.{◌≡◌, ℕ, List, Option, Result, Ok, Err, String, string_bytes}
use Rattle.std.specs.Global.{Global}
use Rattle.std.specs.Io.KnownBytes.{Appends, Keeps}
use Rattle.cfgrammar.specs.Answer.{Found}
use Rattle.cfgrammar.specs.Numbered.{Numbered}
use Rattle.cfgrammar.specs.Syntax.{Syntax}
use Rattle.cfgsink.specs.declared.outcome.Outcome.{Outcome}
use Rattle.cfgsink.specs.declared.outcome.Outcome.TheVariants.{Done, Refused}
use Rattle.cfgsink.specs.declared.outcome.ReportFault.{ReportFault}
use Rattle.cfgsink.specs.declared.outcome.ReportFault.TheVariants as faults
use Rattle.cfgtool.specs.declared.arguments.Command.{Command}
use Rattle.cfgtool.specs.declared.arguments.Command.TheVariants.{Grammar, Firsts, Follows, Sentences, Warnings}
use Rattle.cfgprogram.specs.declared.kinds.KindArg.{KindArg}
use Rattle.cfgprogram.specs.ReadText.{IsFound, IsMadeOfErrors, IsMadeOfGrammar}
use Rattle.cfgtool.specs.FirstLines.{AreFirstLines}
use Rattle.cfgtool.specs.FollowLines.{AreFollowLines}
use Rattle.cfgtool.specs.ReportLines.{AreWarningLines, error_lines, production_lines}
use Rattle.cfgtool.specs.SentenceLines.{AreSentenceLines}
use Rattle.cfgtool.specs.LexerLines.{lexer_lines, names_in}
use Rattle.cfgtool.specs.declared.engine.Request.{Request}
use Rattle.cfgtool.specs.declared.engine.Request.TheVariants as requests
use Rattle.cfgsink.specs.Sinks.{AppendsPrefix}

-- the lines that a command prints for a text with this syntax, which is this grammar in numbers
abbrev pub AreLinesOf : Command → List ℕ → Syntax → Numbered → List ℕ → Type 0
AreLinesOf Grammar text s g lines = lines ≡ production_lines g
AreLinesOf Firsts text s g lines = AreFirstLines g lines
AreLinesOf Follows text s g lines = AreFollowLines g lines
AreLinesOf Sentences text s g lines = AreSentenceLines g lines
AreLinesOf Warnings text s g lines = AreWarningLines text s lines

-- the lines that list differences between a grammar's tokens and the names in a text
abbrev pub AreLexerLines : List ℕ → Syntax → Numbered → List ℕ → Type 0
AreLexerLines names s g lines = lines ≡ lexer_lines g (names_in names)

-- the lines that are requested
abbrev pub AreRequestedLines : Request → List ℕ → Syntax → Numbered → List ℕ → Type 0
AreRequestedLines (requests.Command command) text s g lines = AreLinesOf command text s g lines
AreRequestedLines (requests.Names names) text s g lines = AreLexerLines names.now s g lines

-- a report ends like this, and its lines satisfy this
abbrev pub IsReported : Outcome → (List ℕ → Type 0) → Outcome × String Global → Type 0
IsReported outcome Holds report = (report.0 ≡ outcome) × Holds (string_bytes report.1)

-- `AreLines` says which lines are printed for a syntax and its numbers.
module _ (AreLines : Syntax → Numbered → List ℕ → Type 0) where
  -- How a report on a text that turns out to be this ends, and its lines: the text is a grammar, and the requested lines are printed; or it
  -- has errors, and these are.
  abbrev pub IsReport : List ℕ → Found → Outcome → List ℕ → Type 0
  IsReport text found Done lines = IsMadeOfGrammar AreLines found lines
  IsReport text found Refused lines = IsMadeOfErrors (λ _ errors lines. lines ≡ error_lines text errors) found lines

  -- What a report adds to the known bytes of its sink: the lines of how it ended; nothing if memory ran out; if the sink counted a fault, a
  -- prefix of the lines of how it would have ended.
  abbrev pub Reports : List ℕ → Found → Option (List ℕ) → Option (List ℕ) → Result Outcome ReportFault → Type 0
  Reports text found old new (Ok outcome) = (lines : List ℕ) × IsReport text found outcome lines × Appends old new lines
  Reports text found old new (Err faults.Write) = (outcome : Outcome) × (lines : List ℕ)
      × IsReport text found outcome lines × AppendsPrefix old new lines
  Reports text found old new (Err faults.OutOfMemory) = Keeps old new

-- A report on a text prints this for what the text turns out to be: its only reading, or the errors that keep it from naming a kind.
abbrev pub ReportsText : KindArg → Command → List ℕ → Option (List ℕ) → Option (List ℕ) → Result Outcome ReportFault
    → Type 0
ReportsText kind command text old new answer =
    (found : Found) × IsFound kind text found × Reports (AreLinesOf command text) text found old new answer

-- the same for a report on the names in a text
abbrev pub ReportsLexer : KindArg → List ℕ → List ℕ → Option (List ℕ) → Option (List ℕ) → Result Outcome ReportFault
    → Type 0
ReportsLexer kind text names old new answer =
    (found : Found) × IsFound kind text found × Reports (AreLexerLines names) text found old new answer
