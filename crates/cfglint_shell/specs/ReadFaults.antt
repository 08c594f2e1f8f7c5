-- Files that can't be read as text, and what is said of them: on a line as other errors have, and for programs as of other errors.
use Rattle.std.specs.Prelude.{ℕ, ◌/◌, ◌%◌, true, false, List, [], ◌∷◌, ◌++◌, None, codes, length, slice_index, take}
use Rattle.std.specs.Fmt.{decimal, digit_glyph}
use Rattle.cfgjson.specs.Annotations.{annotation}
use Rattle.cfgjson.specs.Objects.{ShownDiagnostic, json_line}
use Rattle.cfgjson.specs.Sarif.{result_line}
use Rattle.cfgrammar.specs.Visible.{visible}
use Rattle.cfgrammar.specs.ColumnUnit.{ColumnUnit}
use Rattle.cfgrammar.specs.Lines.{line_number}
use Rattle.cfgrammar.specs.Render.{column_in}
use Rattle.cfgprogram.specs.declared.source.ReadError.{ReadError}
use Rattle.cfgprogram.specs.declared.source.ReadError.TheVariants.{NotFound, IsADirectory, PermissionDenied, Other}
use Rattle.cfglint_shell.specs.declared.format.Format.{Format}
use Rattle.cfglint_shell.specs.declared.format.Format.TheVariants.{Text, Json, Github, Sarif}

-- the beginning of a file that is text, the word of the reason why no more is, and what is said of that
pub record ReadFault : Type 0 where
  pub text : List ℕ
  pub kind : List ℕ
  pub message : List ℕ

-- why a file could not be read, if that is known
abbrev pub reason_text : ReadError → List ℕ
reason_text NotFound = codes ": it is not there"
reason_text IsADirectory = codes ": it is a directory"
reason_text PermissionDenied = codes ": permission denied"
reason_text Other = []

-- a file that can't be read
abbrev pub unreadable_file : ReadError → ReadFault
unreadable_file reason = record { text = []; kind = codes "unreadable-file"; message = codes "Unreadable file" ++ reason_text reason }

-- two digits for a byte, in base 16
abbrev pub hex_byte : ℕ → List ℕ
hex_byte byte = digit_glyph true (byte / 16) ∷ digit_glyph true (byte % 16) ∷ []

-- a file whose first bytes, so many, are UTF-8, but no more of them
abbrev pub invalid_encoding : List ℕ → ℕ → ReadFault
invalid_encoding bytes valid = record {
  text = take valid bytes;
  kind = codes "invalid-encoding";
  message = codes "Not UTF-8: found the byte 0x" ++ hex_byte (slice_index bytes valid);
}

-- the line: where the text ends, with the column in this unit, what is said, and the word
abbrev pub fault_line : ColumnUnit → List ℕ → ReadFault → List ℕ
fault_line unit name fault = visible name ++ (codes ":" ++ (decimal (line_number fault.text (length fault.text)) ++ (codes ":"
    ++ (decimal (column_in unit fault.text (length fault.text)) ++ (codes ": error: " ++ (fault.message
    ++ (codes " [" ++ (fault.kind ++ codes "]\n"))))))))

-- the same for programs, with the end of the text as its place
abbrev pub shown_fault : ReadFault → ShownDiagnostic
shown_fault fault = record {
  is_error = true;
  kind = fault.kind;
  text = fault.message;
  hint = None;
  spans = record { start = length fault.text; end = length fault.text } ∷ [];
  has_symbols = false;
}

-- what a format has of it among the lines for texts
abbrev pub fault_lines : Format → List ℕ → ReadFault → List ℕ
fault_lines Text name fault = []
fault_lines Json name fault = json_line name fault.text (shown_fault fault)
fault_lines Github name fault = annotation name fault.text (shown_fault fault)
fault_lines Sarif name fault = result_line name fault.text (shown_fault fault)
