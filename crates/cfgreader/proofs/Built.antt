-- What the reader built of a file, having begun with no items, and what stopped it.
use Rattle.std.proofs.Common.{◌≡◌, ℕ, List, [], fold, Option, Result, Ok, Err, IfOk, sym, subst, ◌∙◌, ap}
use Rattle.constructs.specs.Construct.{computes}
use Rattle.constructs.specs.Read.{stop_of}
use Rattle.cfgwords.specs.declared.fault.Fault.{Fault}
use Rattle.cfgitems.specs.Building.{add, adds}
use Rattle.cfgitems.specs.Syntax.{Syntax, syntax_of}
use Rattle.cfgitems.specs.SyntaxView.{syntax_view, syntax_built}
use Rattle.cfgitems.specs.declared.syntax.Syntax.{Syntax as CodeSyntax}
use Rattle.cfgitems.proofs.Law.{adds_syntax_of}
use Rattle.cfgkinds.specs.declared.kind.YaccKind.{YaccKind}
use Rattle.cfgreader.specs.declared.reader.Reader.{Reader}
use Rattle.cfgreader.specs.ReadFile.{IsFile}
use Rattle.cfgreader.specs.Inner.Builds.{Grows}
use Rattle.cfgreader.specs.FileGrammar.{file}

module _ (kind : YaccKind) (len : ℕ) (rest : List ℕ) (old : Reader) (whole : old.rest.now ≡ rest) (long : old.len ≡ len) where
  pub file_built : (new : Reader) (made : Syntax) → syntax_built old.tree ≡ syntax_of [] → made ≡ syntax_built new.tree
      → Grows old new (computes (file kind old.len) old.rest.now).items → made ≡ syntax_of (computes (file kind len) rest).items
  unfolding adds
  file_built new made tree is grown =
      is ∙ grown ∙ ap (λ s. fold add s (computes (file kind old.len) old.rest.now).items) tree
      ∙ (λ i. fold add (syntax_of []) (computes (file kind (long i)) (whole i)).items) ∙ adds_syntax_of (computes (file kind len) rest).items

  pub file_stopped : (found : Option Fault) → stop_of (computes (file kind old.len) old.rest.now).outcome ≡ found → found ≡ stop_of (computes (file kind len) rest).outcome
  file_stopped found stops = sym stops ∙ (λ i. stop_of (computes (file kind (long i)) (whole i)).outcome)

  -- what the reader built, and how the reading ended
  abbrev pub Ends : Reader → Option Fault → Type 0
  Ends new stop = Grows old new (computes (file kind old.len) old.rest.now).items × (stop ≡ stop_of (computes (file kind old.len) old.rest.now).outcome)

  pub file_read : {E : Type 0} (new : Reader) (syntax : CodeSyntax) (stop : Result (Option Fault) E) (both : Result (CodeSyntax × Option Fault) E)
      → syntax_built old.tree ≡ syntax_of [] → syntax_view syntax ≡ syntax_built new.tree
      → IfOk stop (Ends new) → IfOk both (λ both. (both.0 ≡ syntax) × (stop ≡ Ok both.1)) → IfOk both (IsFile kind len rest)
  file_read new syntax stop (Ok (made, end)) began built ended same =
      let ends : Ends new end = subst (λ stop. IfOk stop (Ends new)) same.1 ended in
      (file_built new (syntax_view made) began (ap syntax_view same.0 ∙ built) ends.0, file_stopped end (sym ends.1))
  file_read new syntax stop (Err e) began built ended same = tt
