-- What the reader of a file returns.
use Rattle.std.specs.Prelude.{◌≡◌, ℕ, List, Option}
use Rattle.cfgwords.specs.declared.fault.Fault.{Fault}
use Rattle.cfgitems.specs.Syntax.{syntax_of}
use Rattle.cfgitems.specs.SyntaxView.{syntax_view}
use Rattle.cfgitems.specs.declared.syntax.Syntax.{Syntax as CodeSyntax}
use Rattle.cfgkinds.specs.declared.kind.YaccKind.{YaccKind}
use Rattle.constructs.specs.Construct.{computes}
use Rattle.constructs.specs.Read.{stop_of}
use Rattle.cfgreader.specs.FileGrammar.{file}

-- what a file says, and what stopped its reading
abbrev pub IsFile : YaccKind → ℕ → List ℕ → CodeSyntax × Option Fault → Type 0
IsFile kind len rest (syntax, stop) = (syntax_view syntax ≡ syntax_of (computes (file kind len) rest).items)
    × (stop ≡ stop_of (computes (file kind len) rest).outcome)
