-- Files one by one: what is reported about them, and which of them are requested of a source.
use Rattle.std.proofs.Common.{ℕ, ◌+◌, ◌<◌, ◌≤◌, List, [], ◌∷◌, ◌++◌, length, map, take, drop, get_or, Result, Ok, Err, refl, sym, ap, ◌∙◌, subst, arith}
use Rattle.std.specs.Prelude.{OnErr}
use Rattle.std.specs.Borrow.{Bor}
use Rattle.std.proofs.lemmas.List.{append-nil, map-append, map_more, take-append-drop}
use Rattle.cfgprogram.specs.declared.source.Input.{Input}
use Rattle.cfgprogram.specs.declared.source.ReadError.{ReadError}
use Rattle.cfglint_shell.specs.declared.linter.LintOptions.{LintOptions}
use Rattle.cfglint_shell.specs.Requests.{Options, name_of}
use Rattle.cfglint_shell.specs.Files.{AsksFirst, IsRequested, IsFileOutcome, Lints}
use Rattle.cfglint_shell.specs.Tally.{FileOutcome, Linted, NoText, Tally, Printed, Unread, with_file}

-- a file has at most one text
pub texts-with_file : (options : LintOptions) (file : List ℕ) (outcome : FileOutcome) (tally : Tally) → (with_file options file outcome tally).texts ≤ tally.texts + 1
texts-with_file options file (Unread reason) tally = omega arith
texts-with_file options file (NoText bytes) tally = omega arith
texts-with_file options file (Linted printed) tally = omega arith

-- what holds in either case
pub on_err : {T E P : Type 0} (r : Result T E) → P → OnErr r P
on_err (Ok value) holds = tt
on_err (Err fault) holds = holds

module _ {S : Type 0} (Fetches : S → List ℕ → Input → S → Type 0) where
  -- one more file is requested
  IsRequested-more : {before between after : S} {files : List (List ℕ)} (file : List ℕ) (answer : Input)
      → IsRequested Fetches before files between → Fetches between file answer after → IsRequested Fetches before (files ++ file ∷ []) after
  IsRequested-more file answer IsRequested.none fetched = IsRequested.next fetched IsRequested.none
  IsRequested-more file answer (IsRequested.next first rest) fetched = IsRequested.next first (IsRequested-more file answer rest fetched)

  -- before any file is requested
  pub none_requested : (source : S) (files : List (List ℕ)) → AsksFirst Fetches source source files
  none_requested source files = record { prefix = []; back = files; are = refl; fetched = IsRequested.none }

  -- all files are requested
  pub all_requested : (before after : S) (files : List (List ℕ)) → IsRequested Fetches before files after → AsksFirst Fetches before after files
  all_requested before after files requested = record { prefix = files; back = []; are = sym (append-nil files); fetched = requested }

  -- the last file that is requested has this index
  pub requested_up_to : (files : List (Bor (List ℕ))) (i : ℕ) (d : Bor (List ℕ)) → i < length files → (before between after : S) (answer : Input)
      → IsRequested Fetches before (map (λ file. file.now) (take i files)) between → Fetches between (get_or files i d).now answer after
      → AsksFirst Fetches before after (map (λ file. file.now) files)
  requested_up_to files i d within before between after answer requested fetched = record {
    prefix = map (λ file. file.now) (take (i + 1) files);
    back = map (λ file. file.now) (drop (i + 1) files);
    are = ap (map (λ file. file.now)) (sym (take-append-drop (i + 1) files)) ∙ map-append (λ file. file.now) (take (i + 1) files) (drop (i + 1) files);
    fetched = subst (λ names. IsRequested Fetches before names after) (sym (map_more (λ (file : Bor (List ℕ)). file.now) files i d within)) (IsRequested-more (get_or files i d).now answer requested fetched);
  }

  module _ (reason : S → ReadError) (Reports : LintOptions → List ℕ → List ℕ → Printed → Type 0) (options : Options) where
    -- files that are linted were requested
    pub IsRequested-from_lints : {before after : S} {tally last : Tally} {files : List (List ℕ)} → Lints Reports options Fetches reason before tally files after last → IsRequested Fetches before files after
    IsRequested-from_lints Lints.none = IsRequested.none
    IsRequested-from_lints (Lints.next outcome fetched is rest) = IsRequested.next fetched (IsRequested-from_lints rest)

    -- one more file is linted
    Lints-more : {before between after : S} {tally last : Tally} {files : List (List ℕ)} (file : List ℕ) (answer : Input) (outcome : FileOutcome)
        → Lints Reports options Fetches reason before tally files between last → Fetches between file answer after → IsFileOutcome Reports options (name_of options file) answer (reason after) outcome
        → Lints Reports options Fetches reason before tally (files ++ file ∷ []) after (with_file options.lint (name_of options file) outcome last)
    Lints-more file answer outcome Lints.none fetched is = Lints.next outcome fetched is Lints.none
    Lints-more file answer outcome (Lints.next before first was rest) fetched is = Lints.next before first was (Lints-more file answer outcome rest fetched is)

    -- the last file that is linted has this index
    pub linted_up_to : (files : List (Bor (List ℕ))) (i : ℕ) (d : Bor (List ℕ)) → i < length files → (before between after : S) (tally last : Tally) (answer : Input) (outcome : FileOutcome)
        → Lints Reports options Fetches reason before tally (map (λ file. file.now) (take i files)) between last
        → Fetches between (get_or files i d).now answer after → IsFileOutcome Reports options (name_of options (get_or files i d).now) answer (reason after) outcome
        → Lints Reports options Fetches reason before tally (map (λ file. file.now) (take (i + 1) files)) after (with_file options.lint (name_of options (get_or files i d).now) outcome last)
    linted_up_to files i d within before between after tally last answer outcome linted fetched is =
        subst (λ names. Lints Reports options Fetches reason before tally names after (with_file options.lint (name_of options (get_or files i d).now) outcome last)) (sym (map_more (λ (file : Bor (List ℕ)). file.now) files i d within))
        (Lints-more (get_or files i d).now answer outcome linted fetched is)
