-- What is reported about files, one by one, and the summary at the end.
use Rattle.std.specs.Prelude.{ℕ, ◌+◌, ◌==◌, ◌||◌, nat_lt, Bool, true, false, ◌&&◌, List, [], ◌∷◌, ◌++◌, codes, if◌then◌else◌, Option, Some, None}
use Rattle.std.specs.Fmt.{decimal}
use Rattle.std.specs.Str.Lossy.{utf8_valid_len}
use Rattle.cfgprogram.specs.declared.source.ReadError.{ReadError}
use Rattle.cfglint_shell.specs.declared.file_kind.FileKind.{FileKind}
use Rattle.cfglint_shell.specs.declared.file_kind.KindRequest.{KindRequest}
use Rattle.cfglint_shell.specs.declared.file_kind.KindRequest.TheVariants.{Named, Section}
use Rattle.cfglint_shell.specs.declared.kind_counts.KindCounts.{KindCounts}
use Rattle.cfglint_shell.specs.declared.linter.LintOptions.{LintOptions}
use Rattle.cfglint_shell.specs.FileKinds.{file_kind_name}
use Rattle.cfglint_shell.specs.KindCounts.{count_of, kinds, no_kinds, with_kind}
use Rattle.cfglint_shell.specs.ReadFaults.{ReadFault, fault_line, fault_lines, invalid_encoding, unreadable_file}

-- What is reported about a text: lines as people read them, what the text was read as, if it was read, and how many errors and warnings
-- are reported.
pub record Printed : Type 0 where
  pub lines : List ℕ
  pub kind : Option FileKind
  pub errors : ℕ
  pub warnings : ℕ

-- what became of a file: it could not be read, for this reason, or its bytes are not text, or this was reported about it
pub data FileOutcome : Type 0 where
  Unread : ReadError → FileOutcome
  NoText : List ℕ → FileOutcome
  Linted : Printed → FileOutcome

-- What was reported about files: lines about their texts, and lines about those without text; how many texts there were, and how many were
-- read as each kind; how many errors and warnings there are; whether there was a file without text.
pub record Tally : Type 0 where
  pub lines : List ℕ
  pub faults : List ℕ
  pub texts : ℕ
  pub kinds_read : KindCounts
  pub errors : ℕ
  pub warnings : ℕ
  pub is_short : Bool

abbrev pub no_files : Tally
no_files = record { lines = []; faults = []; texts = 0; kinds_read = no_kinds; errors = 0; warnings = 0; is_short = false }

-- with one more file, of this name, that can't be read as text
abbrev pub with_fault : LintOptions → List ℕ → ReadFault → Tally → Tally
with_fault options name fault t = record t {
  lines = t.lines ++ fault_lines options.format name fault;
  faults = t.faults ++ fault_line options.columns name fault;
  is_short = true;
}

-- with one more file, of this name
abbrev pub with_file : LintOptions → List ℕ → FileOutcome → Tally → Tally
with_file options name (Unread reason) t = with_fault options name (unreadable_file reason) t
with_file options name (NoText bytes) t = with_fault options name (invalid_encoding bytes (utf8_valid_len bytes)) t
with_file options name (Linted printed) t = record t {
  lines = t.lines ++ printed.lines;
  texts = t.texts + 1;
  kinds_read = with_kind t.kinds_read printed.kind;
  errors = t.errors + printed.errors;
  warnings = t.warnings + printed.warnings;
}

-- `1 file`, `2 files`
abbrev pub counted : ℕ → List ℕ → List ℕ
counted n argument = decimal n ++ (codes " " ++ (argument ++ (if n == 1 then [] else codes "s")))

-- `2 files read as eco`
abbrev pub read_as : ℕ → FileKind → List ℕ
read_as n kind = counted n (codes "file") ++ (codes " read as " ++ file_kind_name kind)

-- the same for each of these kinds as which files were read: the first of all after a semicolon, the others after commas
abbrev pub separator : Bool → List ℕ
separator is_first = if is_first then codes "; " else codes ", "

unfoldable pub listed : Bool → KindCounts → List FileKind → List ℕ
listed is_first counts [] = []
listed is_first counts (kind ∷ more) =
    if count_of counts kind == 0 then listed is_first counts more
    else separator is_first ++ (read_as (count_of counts kind) kind ++ listed false counts more)

-- as which kinds the files were read, unless this kind is requested by its name
abbrev pub kinds_text : Option KindRequest → KindCounts → List ℕ
kinds_text (Some (Named kind)) counts = []
kinds_text (Some Section) counts = listed true counts kinds
kinds_text None counts = listed true counts kinds

-- the last line, where this kind is requested
abbrev pub summary : Option KindRequest → Tally → List ℕ
summary requested t = counted t.texts (codes "file") ++ (codes ": " ++ (counted t.errors (codes "error") ++ (codes ", "
    ++ (counted t.warnings (codes "warning") ++ (kinds_text requested t.kinds_read ++ codes "\n")))))

-- whether there are errors, or warnings that are denied
abbrev pub fails : Bool → Tally → Bool
fails denies t = nat_lt 0 t.errors || (denies && nat_lt 0 t.warnings)

abbrev pub status_of : Bool → Tally → ℕ
status_of denies t = if t.is_short then 2 else if fails denies t then 1 else 0
