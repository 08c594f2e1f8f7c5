-- The reader's loop over a blank.
use Rattle.std.proofs.Common.{◌≡◌, ℕ, Bool, List, Some, None, Ok, Err, sym, ◌∙◌, ap}
use Rattle.constructs.specs.Steps.{Fails}
use Rattle.cfgwords.specs.Blank.{blank, part_of, prefix_of}
use Rattle.cfgwords.proofs.Blanks.{blank_next, blank_ends, blank_stops}
use Rattle.cfgitems.specs.SyntaxView.{syntax_built}
use Rattle.cfgreader.specs.declared.reader.Reader.{Reader}
use Rattle.cfgreader.specs.declared.reader.ReadFault.{ReadFault}
use Rattle.cfgreader.specs.declared.reader.ReadFault.TheVariants as errors
use Rattle.cfgreader.specs.Inner.Builds.{IsPartHere, Builds, file_reader}
use Rattle.cfgreader.specs.Here.{blank_here}

-- the rest of the blank, from now on, ends as the whole blank does
pub record KeepsBlank (lines : Bool) (start now : Reader) : Type 0 where
  pub len : now.len ≡ start.len
  pub tree : now.tree ≡ start.tree
  pub ends : blank now.len lines now.rest.now ≡ blank now.len lines start.rest.now

whole : (lines : Bool) (start now : Reader) → KeepsBlank lines start now → blank start.len lines start.rest.now ≡ blank now.len lines now.rest.now
whole lines start now keeps = ap (λ len. blank len lines start.rest.now) (sym keeps.len) ∙ sym keeps.ends

pub blank_fails : (lines : Bool) (start now : Reader) (e : ReadFault) → KeepsBlank lines start now → IsPartHere lines now (Err e)
    → Fails file_reader start now e (blank_here start.len lines)
blank_fails lines start now errors.OutOfMemory keeps here = tt
blank_fails lines start now (errors.Fault fault) keeps (kind, stops, is) =
    (whole lines start now keeps ∙ blank_stops now.len lines now.rest.now kind stops ∙ ap Err (sym is), ap syntax_built keeps.tree)

pub blank_done : (lines : Bool) (start now : Reader) → KeepsBlank lines start now → IsPartHere lines now (Ok None)
    → Builds (λ x. x) start now (Ok tt) (blank_here start.len lines)
blank_done lines start now keeps here =
    (whole lines start now keeps ∙ blank_ends now.len lines now.rest.now here, keeps.len, ap syntax_built keeps.tree)

pub blank_on : (len : ℕ) (lines : Bool) (start now next : List ℕ) → blank len lines now ≡ blank len lines start → part_of lines (prefix_of now) ≡ Ok (Some next)
    → blank len lines next ≡ blank len lines start
blank_on len lines start now next keeps part = sym (blank_next len lines now next part) ∙ keeps
