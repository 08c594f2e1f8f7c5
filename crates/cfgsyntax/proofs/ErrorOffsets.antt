-- Each error of a text has a span, and its spans begin and end at character boundaries of the text.
use Rattle.std.proofs.Common.{ℕ, ◌<◌, Bool, true, false, not, List, [], ◌∷◌, ◌++◌, map, length, All, get_or, slice_get, option_map, Option, Some, None, Ok, Err, Result, sym, subst, arith, if◌then◌else◌}
use Rattle.std.specs.Prelude.{IfSome}
use Rattle.std.specs.Option.{option_or, option_and_then, option_to_list}
use Rattle.std.specs.Str.{IsUtf8, IsCharBoundary}
use Rattle.std.proofs.lemmas.Str.{IsCharBoundary-start}
use Rattle.std.proofs.lemmas.List.Elements.{All-nil, All-cons, All-head, All-tail, All-append, All-map, All-filter, All-weaker}
use Rattle.lemmas.proofs.Repeats.{count-map, repeated-some}
use Rattle.lemmas.proofs.Options.{All-slice_get, All-option_to_list}
use Rattle.cfgbase.specs.declared.span.Span.{Span}
use Rattle.constructs.specs.Read.{stop_of}
use Rattle.constructs.proofs.Yields.{EndsIn}
use Rattle.cfgwords.specs.declared.fault.Fault.{Fault}
use Rattle.cfgwords.specs.FileWords.{Word}
use Rattle.cfgwords.proofs.Cuts.{IsCut, cut_here}
use Rattle.cfgitems.specs.Items.{Item}
use Rattle.cfgitems.specs.Building.{has_entry, has_name, has_rule}
use Rattle.cfgitems.specs.Occurrences.{Occurrence}
use Rattle.cfgast.specs.Duplicates.{declared_by, duplicates, is_same, spans_of}
use Rattle.cfgast.proofs.Repeats.{is_same_equivalence, repeats}
use Rattle.cfgitems.specs.Syntax.{Symbol, RuleSymbol, TokenSymbol, EachProductionSpan, EachSpan, symbol_word, Production, Rule, Syntax, syntax_of}
use Rattle.cfgkinds.specs.declared.kind.YaccKind.{YaccKind}
use Rattle.cfgerrors.specs.HeaderErrors.{ShownError}
use Rattle.cfgsection.specs.SectionGrammar.{Entry}
use Rattle.cfgsection.specs.SectionReads.{section_answer}
use Rattle.cfgsection.specs.SectionOffsets.{IsErrorAt as IsSectionErrorAt}
use Rattle.cfgsection.proofs.SectionOne.{section_answered}
use Rattle.cfgsection.proofs.SectionOffsets.{IsSectionAt, section_at}
use Rattle.cfgerrors.specs.Errors.{ErrorKind, GrammarError, header_error, InvalidStartRule, UnknownRuleRef, UnknownToken, NoPrecForToken, UnknownEPP, NoStartRule, error_at}
use Rattle.cfgast.specs.Check.{nowhere, first_error, start_error, symbol_error, precedence_error, production_error, printed_error, locate_error, rule_error, check_of}
use Rattle.cfgfaults.specs.FaultErrors.{kind_of, error_of}
use Rattle.cfgsyntax.specs.Faults.{duplicate_error, stop_errors, errors_of}
use Rattle.cfgwords.specs.TextSpans.{IsPiece, IsWithin}
use Rattle.cfgsyntax.specs.Reads.{Stop, InSection, InFile, ReadsFile, ReadsAfter, Reads}
use Rattle.cfgsyntax.specs.ErrorSpans.{EachErrorSpan}
use Rattle.cfgreader.proofs.Kept.{IsItemAt}
use Rattle.cfgreader.proofs.KeptRules.{file_kept}
use Rattle.cfgwords.proofs.WordOffsets.{IsWordAt, ComesAfter}
use Rattle.cfgreader.proofs.SyntaxOffsets.{syntax_at, rules_are_names}
use Rattle.cfgwords.proofs.NameStarts.{begins_as_name}

-- an error has a span, and its spans are pieces of the text
abbrev pub IsErrorAt : List ℕ → GrammarError → Type 0
IsErrorAt text = EachErrorSpan (IsPiece text)

-- what stopped a reading has its spans in the text
abbrev IsStopAt : List ℕ → Option Stop → Type 0
IsStopAt text None = Unit {0}
IsStopAt text (Some (InSection errors)) = All (IsSectionErrorAt text) errors
IsStopAt text (Some (InFile fault)) = IsPiece text fault.span

file_stop_at : (text : List ℕ) (fault : Option Fault) → IfSome fault (λ f. IsPiece text f.span) → IsStopAt text (option_map InFile fault)
file_stop_at text None h = tt
file_stop_at text (Some fault) h = h

-- The first of several errors.

first_of_two : (P : GrammarError → Type 0) (first second : Option GrammarError) → IfSome first P → IfSome second P → IfSome (option_or first second) P
first_of_two P (Some error) second h k = h
first_of_two P None second h k = k

first_of_all : {A : Type 0} (P : GrammarError → Type 0) (f : A → Option GrammarError) (xs : List A) → All (λ x. IfSome (f x) P) xs → IfSome (first_error f xs) P
first_of_all P f [] all = tt
first_of_all P f (x ∷ xs) all =
    first_of_two P (f x) (first_error f xs) (All-head (λ y. IfSome (f y) P) x xs all) (first_of_all P f xs (All-tail (λ y. IfSome (f y) P) x xs all))

first_there : {A : Type 0} (P : GrammarError → Type 0) (f : A → Option GrammarError) (o : Option A) → IfSome o (λ x. IfSome (f x) P) → IfSome (option_and_then f o) P
first_there P f None h = tt
first_there P f (Some x) h = h

module _ (text : List ℕ) where
  one_span : (kind : ErrorKind) (span : Span) → IsPiece text span → IsErrorAt text (error_at kind span)
  one_span kind span piece = record { some = omega arith; each = All-cons (IsPiece text) span [] piece (All-nil (IsPiece text)) }

  unless_known : (known : Bool) (kind : ErrorKind) (span : Span) → IsPiece text span → IfSome (if known then None else Some (error_at kind span)) (IsErrorAt text)
  unless_known true kind span piece = tt
  unless_known false kind span piece = one_span kind span piece

  nowhere_at : IsUtf8 text → IsPiece text nowhere
  nowhere_at utf8 =
      let first : IsCharBoundary text 0 = IsCharBoundary-start text utf8 in
      record { ordered = omega arith; begins_at = first; ends_at = first }

  start_error_at : IsUtf8 text → (s : Syntax) (start : Option Word) → IfSome start (IsWordAt text) → IfSome (start_error s start) (IsErrorAt text)
  start_error_at utf8 s None h = one_span NoStartRule nowhere (nowhere_at utf8)
  start_error_at utf8 s (Some word) h = unless_known (has_rule word.name s.rules) (InvalidStartRule word.name) word.span h

  symbol_error_at : (s : Syntax) (symbol : Symbol) → IsWordAt text (symbol_word symbol) → IfSome (symbol_error s symbol) (IsErrorAt text)
  symbol_error_at s (RuleSymbol word) h = unless_known (has_rule word.name s.rules) (UnknownRuleRef word.name) word.span h
  symbol_error_at s (TokenSymbol word) h = unless_known (has_name word.name s.tokens) (UnknownToken word.name) word.span h

  precedence_error_at : IsUtf8 text → (s : Syntax) (token : Option (List ℕ)) → IfSome (precedence_error s token) (IsErrorAt text)
  precedence_error_at utf8 s None = tt
  precedence_error_at utf8 s (Some name) = go (has_name name s.tokens) (has_entry name s.tables.precedences)
    where
      go : (there ranked : Bool) → IfSome (if not there then Some (error_at (UnknownToken name) nowhere) else if ranked then None else Some (error_at (NoPrecForToken name) nowhere)) (IsErrorAt text)
      go false ranked = one_span (UnknownToken name) nowhere (nowhere_at utf8)
      go true ranked = unless_known ranked (NoPrecForToken name) nowhere (nowhere_at utf8)

module _ (text : List ℕ) (utf8 : IsUtf8 text) (Q : Span → Type 0) (s : Syntax) (at : EachSpan (IsPiece text) Q s) where
  production_error_at : (production : Production) → EachProductionSpan (IsPiece text) Q production → IfSome (production_error s production) (IsErrorAt text)
  production_error_at production h =
      first_of_two (IsErrorAt text) (precedence_error s production.precedence) (first_error (symbol_error s) production.symbols) (precedence_error_at text utf8 s production.precedence)
      (first_of_all (IsErrorAt text) (symbol_error s) production.symbols (λ k d lt. symbol_error_at text s (get_or production.symbols k d) (h.symbols k d lt)))

  locate_error_at : (index : ℕ) → IfSome (locate_error s index) (IsErrorAt text)
  locate_error_at index = first_there (IsErrorAt text) (production_error s) (slice_get s.productions index)
      (All-slice_get (λ production. IfSome (production_error s production) (IsErrorAt text)) s.productions index (λ k d lt. production_error_at (get_or s.productions k d) (at.productions k d lt)))

  rule_error_at : (rule : List ℕ × Rule) → IfSome (rule_error s rule) (IsErrorAt text)
  rule_error_at rule = first_of_all (IsErrorAt text) (locate_error s) rule.1.productions (λ k d lt. locate_error_at (get_or rule.1.productions k d))

  printed_error_at : (entry : List ℕ × (Span × (List ℕ × Span))) → IsPiece text entry.1.0 → IfSome (printed_error s entry) (IsErrorAt text)
  printed_error_at entry h = unless_known text (has_name entry.0 s.tokens) (UnknownEPP entry.0) entry.1.0 h

  check_at : IfSome (check_of s) (IsErrorAt text)
  unfolding check_of
  check_at =
      let rules = first_error (rule_error s) s.rules in
      let printed = first_error (printed_error s) s.tables.printed_forms in
      let unused = first_error (symbol_error s) s.expect_unused in
      first_of_two (IsErrorAt text) (start_error s s.start) (option_or rules (option_or printed unused)) (start_error_at text utf8 s s.start at.start)
      (first_of_two (IsErrorAt text) rules (option_or printed unused)
      (first_of_all (IsErrorAt text) (rule_error s) s.rules (λ k d lt. rule_error_at (get_or s.rules k d)))
      (first_of_two (IsErrorAt text) printed unused
      (first_of_all (IsErrorAt text) (printed_error s) s.tables.printed_forms (λ k d lt. printed_error_at (get_or s.tables.printed_forms k d) (at.tables.printed_keys k d lt)))
      (first_of_all (IsErrorAt text) (symbol_error s) s.expect_unused (λ k d lt. symbol_error_at text s (get_or s.expect_unused k d) (at.expect_unused k d lt)))))

module _ (text : List ℕ) where
  pub section_errors_at : (errors : List (ShownError Span)) → All (IsSectionErrorAt text) errors → All (IsErrorAt text) (map header_error errors)
  section_errors_at errors at = All-map (IsErrorAt text) header_error errors
      (All-weaker (IsSectionErrorAt text) (λ error. IsErrorAt text (header_error error)) (λ error h. record { some = h.some; each = h.each }) errors at)

  stop_errors_at : (stop : Option Stop) → IsStopAt text stop → All (IsErrorAt text) (stop_errors stop)
  stop_errors_at None h = All-nil (IsErrorAt text)
  stop_errors_at (Some (InSection errors)) h = section_errors_at errors h
  stop_errors_at (Some (InFile fault)) h = All-cons (IsErrorAt text) (error_of fault) [] (one_span text (kind_of fault.kind) fault.span h) (All-nil (IsErrorAt text))

  duplicates_at : (occurrences : List Occurrence) → All (λ o. IsPiece text o.span) occurrences → All (IsErrorAt text) (map duplicate_error (duplicates occurrences))
  unfolding duplicates
  duplicates_at occurrences h =
      All-map (IsErrorAt text) duplicate_error (duplicates occurrences)
      (All-map (λ d. IsErrorAt text (duplicate_error d)) (λ what. record { what = what; spans = spans_of occurrences what }) (repeats occurrences)
      (λ k d lt. record {
        some = subst (λ n. 0 < n) (count-map is_same (λ (o : Occurrence). o.what) (λ (o : Occurrence). o.span) (get_or (repeats occurrences) k d) occurrences)
            (repeated-some is_same is_same_equivalence (declared_by occurrences) k d lt);
        each = All-map (IsPiece text) (λ o. o.span) _ (All-filter (λ o. is_same o.what (get_or (repeats occurrences) k d)) (λ o. IsPiece text o.span) occurrences h);
      }))

  ended_at : {A : Type 0} (T : List ℕ → Type 0) (S : Fault → Type 0) (Q : A → Type 0) (o : Result (A × List ℕ) Fault) → EndsIn T S Q o → IfSome (stop_of o) S
  ended_at T S Q (Ok (a, rest)) h = tt
  ended_at T S Q (Err fault) h = h

-- what a reading of a text gives
pub record IsReadAt (text : List ℕ) (items : List Item) (stop : Option Stop) : Type 0 where
  pub items_at : All (IsItemAt text) items
  pub stop_at : IsStopAt text stop

-- of the file after the section
file_read_at : (kind : YaccKind) (text rest : List ℕ) → IsUtf8 text → IsCut text rest → (items : List Item) (stop : Option Stop) → ReadsFile kind (length text) rest items stop
    → IsReadAt text items stop
file_read_at kind text rest utf8 cut items stop reads =
    let start : ComesAfter text rest rest = record { origin = cut; further = cut_here rest } in
    let kept = (file_kept text utf8 rest kind).passes rest reads.read start reads.says in
    record {
      items_at = subst (All (IsItemAt text)) reads.items_are kept.items;
      stop_at = subst (IsStopAt text) reads.stop_is
          (file_stop_at text (stop_of reads.read.outcome) (ended_at text (ComesAfter text rest) (λ fault. IsPiece text fault.span) (λ _. Unit {0}) reads.read.outcome kept.outcome));
    }

after_read_at : (kind : YaccKind) (text : List ℕ) → IsUtf8 text → (section : Result (List Entry × List ℕ) (List (ShownError Span))) → IsSectionAt text section
    → (items : List Item) (stop : Option Stop) → ReadsAfter kind (length text) section items stop → IsReadAt text items stop
after_read_at kind text utf8 (Ok (entries, rest)) at items stop reads = file_read_at kind text rest utf8 at.0 items stop reads
after_read_at kind text utf8 (Err errors) at items stop reads = record {
  items_at = subst (All (IsItemAt text)) (sym reads.0) (All-nil (IsItemAt text));
  stop_at = subst (IsStopAt text) (sym reads.1) at;
}

read_at : (kind : YaccKind) (text : List ℕ) → IsUtf8 text → (items : List Item) (stop : Option Stop) → Reads kind text items stop → IsReadAt text items stop
read_at kind text utf8 items stop reads =
    let at = subst (IsSectionAt text) (section_answered false text reads.entries reads.end reads.section) (section_at false text utf8) in
    after_read_at kind text utf8 (section_answer reads.entries reads.end) at items stop reads.after

-- of the syntax of every reading
pub read_syntax_at : (kind : YaccKind) (text : List ℕ) → IsUtf8 text → (items : List Item) (stop : Option Stop) → Reads kind text items stop
    → EachSpan (IsPiece text) (IsWithin text) (syntax_of items)
read_syntax_at kind text utf8 items stop reads = syntax_at text items (read_at kind text utf8 items stop reads).items_at

pub read_names : (kind : YaccKind) (text : List ℕ) → IsUtf8 text → (items : List Item) (stop : Option Stop) → Reads kind text items stop
    → All (λ rule. begins_as_name rule.0) (syntax_of items).rules
read_names kind text utf8 items stop reads = rules_are_names text items (read_at kind text utf8 items stop reads).items_at

-- of the errors of every reading
pub read_errors_at : (kind : YaccKind) (text : List ℕ) → IsUtf8 text → (items : List Item) (stop : Option Stop) → Reads kind text items stop
    → All (IsErrorAt text) (errors_of items stop)
read_errors_at kind text utf8 items stop reads =
    let read = read_at kind text utf8 items stop reads in
    let at = syntax_at text items read.items_at in
    let duplicated : List GrammarError = map duplicate_error (duplicates (syntax_of items).occurrences) in
    let stopped : List GrammarError = stop_errors stop in
    let invalid : Option GrammarError = check_of (syntax_of items) in
    All-append (IsErrorAt text) duplicated (stopped ++ option_to_list invalid) (duplicates_at text (syntax_of items).occurrences at.occurrences)
    (All-append (IsErrorAt text) stopped (option_to_list invalid)
    (stop_errors_at text stop read.stop_at)
    (All-option_to_list (IsErrorAt text) invalid (check_at text utf8 (IsWithin text) (syntax_of items) at)))
