-- A text has exactly one reading: that of its section, and then the one that the functions on lists compute.
use Rattle.std.proofs.Common.{◌≡◌, ℕ, false, List, [], length, Option, Some, Result, Ok, Err, option_map, refl, sym, subst, ◌∙◌, ap}
use Rattle.std.specs.Prelude.{IfOk}
use Rattle.constructs.specs.Construct.{computes}
use Rattle.constructs.specs.Read.{Read, stop_of}
use Rattle.constructs.proofs.Agree.{agree}
use Rattle.cfgbase.specs.declared.span.Span.{Span}
use Rattle.cfgwords.specs.declared.fault.Fault.{Fault}
use Rattle.cfgitems.specs.Items.{Item}
use Rattle.cfgitems.specs.Syntax.{Syntax, syntax_of}
use Rattle.cfgast.specs.TreeView.{syntax}
use Rattle.cfgast.specs.declared.ast.GrammarAST.{GrammarAST}
use Rattle.cfgkinds.specs.declared.kind.YaccKind.{YaccKind}
use Rattle.cfgerrors.specs.HeaderErrors.{ShownError}
use Rattle.cfgsection.specs.SectionGrammar.{Entry}
use Rattle.cfgsection.specs.SectionReads.{section_of}
use Rattle.cfgsection.proofs.SectionOne.{one_section, section_answered}
use Rattle.cfgreader.specs.FileGrammar.{file}
use Rattle.cfgsyntax.specs.declared.read.Stopped.{Stopped}
use Rattle.cfgsyntax.specs.Inner.Steps.{IsReadAfter, stop_view}
use Rattle.cfgsyntax.specs.Reads.{Stop, InSection, InFile, ReadsAfter, Reads, HasOneReading}

module _ (kind : YaccKind) (len : ℕ) where
  -- what is read after such a section, and where that stops
  abbrev pub items_after : Result (List Entry × List ℕ) (List (ShownError Span)) → List Item
  items_after (Ok (entries, rest)) = (computes (file kind len) rest).items
  items_after (Err errors) = []

  abbrev pub stop_after : Result (List Entry × List ℕ) (List (ShownError Span)) → Option Stop
  stop_after (Ok (entries, rest)) = option_map InFile (stop_of (computes (file kind len) rest).outcome)
  stop_after (Err errors) = Some (InSection errors)

  after_is : (section : Result (List Entry × List ℕ) (List (ShownError Span))) (items : List Item) (stop : Option Stop)
      → ReadsAfter kind len section items stop → (items_after section ≡ items) × (stop_after section ≡ stop)
  after_is (Err errors) items stop reads = (sym reads.0, sym reads.1)
  after_is (Ok (entries, rest)) items stop reads =
      let same = (agree (file kind len)).only rest reads.read reads.says in (
        ap (λ (r : Read Item Fault (Unit {0})). r.items) same ∙ reads.items_are,
        ap (λ (r : Read Item Fault (Unit {0})). option_map InFile (stop_of r.outcome)) same ∙ reads.stop_is,
      )

  reads_after : (section : Result (List Entry × List ℕ) (List (ShownError Span))) → ReadsAfter kind len section (items_after section) (stop_after section)
  reads_after (Err errors) = (refl, refl)
  reads_after (Ok (entries, rest)) = record {
    read = computes (file kind len) rest;
    says = (agree (file kind len)).sound rest;
    items_are = refl;
    stop_is = refl;
  }

-- what any reading of a text gives, by its section
pub read_is : (kind : YaccKind) (text : List ℕ) (items : List Item) (stop : Option Stop) → Reads kind text items stop
    → (items_after kind (length text) (section_of false text) ≡ items) × (stop_after kind (length text) (section_of false text) ≡ stop)
read_is kind text items stop reads =
    let section = section_answered false text reads.entries reads.end reads.section in
    let is = after_is kind (length text) _ items stop reads.after in
    (ap (items_after kind (length text)) section ∙ is.0, ap (stop_after kind (length text)) section ∙ is.1)

pub one_reading : (kind : YaccKind) (text : List ℕ) → HasOneReading kind text
one_reading kind text =
    let one = one_section false text in
    let section = section_answered false text one.entries one.end one.is in
    record {
      items = items_after kind (length text) (section_of false text);
      stop = stop_after kind (length text) (section_of false text);
      reads = record {
        entries = one.entries;
        end = one.end;
        section = one.is;
        after = subst (λ s. ReadsAfter kind (length text) s (items_after kind (length text) (section_of false text)) (stop_after kind (length text) (section_of false text)))
            section (reads_after kind (length text) (section_of false text));
      };
      only = λ xs s reads. let is = read_is kind text xs s reads in (sym is.0, sym is.1);
    }

-- what was read of a text, by its section
pub read_by : (kind : YaccKind) (text : List ℕ) (section : Result (List Entry × List ℕ) (List (ShownError Span))) (made : Syntax) (found : Option Stop)
    → section_of false text ≡ section → made ≡ syntax_of (items_after kind (length text) section) → found ≡ stop_after kind (length text) section
    → (items : List Item) (stop : Option Stop) → Reads kind text items stop → (made ≡ syntax_of items) × (found ≡ stop)
read_by kind text section made found is built stopped items stop reads =
    let same = read_is kind text items stop reads in (
      built ∙ ap (λ s. syntax_of (items_after kind (length text) s)) (sym is) ∙ ap syntax_of same.0,
      stopped ∙ ap (stop_after kind (length text)) (sym is) ∙ same.1,
    )

-- if the file was read
pub read_on : {E : Type 0} (kind : YaccKind) (text rest : List ℕ) (len : ℕ) → len ≡ length text → (entries : List Entry) → section_of false text ≡ Ok (entries, rest)
    → (r : Result (GrammarAST × Option Stopped) E) → IfOk r (IsReadAfter kind len rest)
    → IfOk r (λ x. (items : List Item) (stop : Option Stop) → Reads kind text items stop → (syntax x.0 ≡ syntax_of items) × (option_map stop_view x.1 ≡ stop))
read_on kind text rest len long entries section (Err refused) h = tt
read_on kind text rest len long entries section (Ok (tree, stop)) h =
    let built = subst (λ n. IsReadAfter kind n rest (tree, stop)) long h in
    read_by kind text (Ok (entries, rest)) (syntax tree) (option_map stop_view stop) section built.0 built.1
