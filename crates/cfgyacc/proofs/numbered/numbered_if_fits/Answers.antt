use Rattle.std.proofs.Common.{List, Option, ℕ, refl, sym, ◌∙◌, true≢false}
use Rattle.cfgitems.specs.Syntax.{Syntax}
use Rattle.cfgast.specs.TreeView.{syntax}
use Rattle.cfgnumbers.specs.Fits.{LeavesRoom}
use Rattle.cfgyacc.proofs.Built.{fits, of_both, room}
use Rattle.cfgyacc.proofs.numbered.numbered_if_fits.Goals as goal

pub from_numberable-requires : goal.from_numberable-requires
from_numberable-requires g c =
    let HasRoom = λ (s : Syntax) (implicit : Option (List (List ℕ))). LeavesRoom g.S.Storage.MAX implicit s in
    record {
      numberable = c.requires;
      room = of_both HasRoom _ _ _ _ (sym c.new.ensures.file) (sym c.new.ensures.implicit) (c.fits.ensures.0 c.if-not-fits.false);
    }

pub returns-then-not-fits-clause-fits : goal.returns-then-not-fits-clause-fits
returns-then-not-fits-clause-fits g c =
    let HasRoom = λ (s : Syntax) (implicit : Option (List (List ℕ))). LeavesRoom g.S.Storage.MAX implicit s in (
      λ some. cc,
      λ it. absurd (true≢false (sym (c.fits.ensures.1 (of_both HasRoom _ _ _ _ c.new.ensures.file c.new.ensures.implicit
          (room g.S.Storage.MAX c.args.kind (syntax c.args.ast.now) c.requires.well_formed it))) ∙ c.if-not-fits.true)),
    )

pub returns-clause-fits : goal.returns-clause-fits
returns-clause-fits g c =
    let HasRoom = λ (s : Syntax) (implicit : Option (List (List ℕ))). LeavesRoom g.S.Storage.MAX implicit s in
    let has_room = of_both HasRoom _ _ _ _ (sym c.new.ensures.file) (sym c.new.ensures.implicit) (c.fits.ensures.0 c.if-not-fits.false) in (
      λ some. fits g.S.Storage.MAX c.args.kind (syntax c.args.ast.now) c.requires.well_formed has_room,
      λ it. refl,
    )
