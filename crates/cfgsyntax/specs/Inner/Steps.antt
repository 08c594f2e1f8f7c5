-- What the steps of reading a text do, given its section.
use Rattle.std.specs.Prelude.{◌≡◌, ℕ, false, List, Option, option_map, Result, Ok, Err}
use denote.Ref.{Bor}
use Rattle.constructs.specs.Construct.{computes}
use Rattle.constructs.specs.Read.{stop_of}
use Rattle.cfgitems.specs.Syntax.{syntax_of}
use Rattle.cfgast.specs.TreeView.{syntax}
use Rattle.cfgast.specs.declared.ast.GrammarAST.{GrammarAST}
use Rattle.cfgkinds.specs.declared.kind.YaccKind.{YaccKind}
use Rattle.cfgsection.specs.declared.section.header_fault.HeaderFault.{HeaderFault}
use Rattle.cfgsection.specs.declared.section.header_fault.HeaderFault.TheVariants as header
use Rattle.cfgsection.specs.SectionReads.{IsAfterSection, section_of, errors_view}
use Rattle.cfgreader.specs.FileGrammar.{file}
use Rattle.cfgsyntax.specs.Reads.{Stop, InSection, InFile}
use Rattle.cfgsyntax.specs.declared.read.Stopped.{Stopped}
use Rattle.cfgsyntax.specs.declared.read.Stopped.TheVariants as stops

-- what stopped a reading
abbrev pub stop_view : Stopped → Stop
stop_view (stops.Section errors) = InSection (errors_view errors.items)
stop_view (stops.File fault) = InFile fault

-- the rest after the section of a text, or the section's errors
abbrev pub IsReadSection : List ℕ → Result (Bor (List ℕ)) HeaderFault → Type 0
IsReadSection text (Ok rest) = IsAfterSection text rest.now
IsReadSection text (Err (header.Errors errors)) = section_of false text ≡ Err (errors_view errors.items)
IsReadSection text (Err header.OutOfMemory) = Unit {0}

-- the tree of the rest after it, and what stopped the reading
abbrev pub IsReadAfter : YaccKind → ℕ → List ℕ → GrammarAST × Option Stopped → Type 0
IsReadAfter kind len rest (tree, stop) = (syntax tree ≡ syntax_of (computes (file kind len) rest).items)
    × (option_map stop_view stop ≡ option_map InFile (stop_of (computes (file kind len) rest).outcome))
