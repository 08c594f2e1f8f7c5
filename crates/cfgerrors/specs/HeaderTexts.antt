-- What `{}` prints of an error in a section, in bytes.
use Rattle.std.specs.Prelude.{ℕ, List, ◌++◌, codes, encode_utf8}
use Rattle.cfgerrors.specs.HeaderErrors.{ShownErrorKind, MissingGrmtoolsSection, IllegalName, ExpectedToken, UnexpectedToken, DuplicateEntry, InvalidEntry, ConversionError}

abbrev pub unexpected_text : List ℕ → List ℕ → List ℕ
unexpected_text character hint = (codes "Unxpected token: '" ++ (character ++ codes "', ")) ++ (hint ++ codes " ")

abbrev pub conversion_text : List ℕ → List ℕ → List ℕ
conversion_text expected cause = (codes "Converting header value to type '" ++ (expected ++ codes "': ")) ++ cause

unfoldable pub kind_text : ShownErrorKind → List ℕ
kind_text MissingGrmtoolsSection = codes "Missing %grmtools section"
kind_text IllegalName = codes "Illegal name"
kind_text (ExpectedToken character) = codes "Expected token: '" ++ (encode_utf8 character ++ codes "'")
kind_text (UnexpectedToken character hint) = unexpected_text (encode_utf8 character) hint
kind_text DuplicateEntry = codes "Duplicate Entry"
kind_text (InvalidEntry what) = codes "Invalid entry: '" ++ (what ++ codes "'")
kind_text (ConversionError expected cause) = conversion_text expected cause
