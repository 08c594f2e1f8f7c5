use Rattle.std.proofs.Common.{List, Option, ℕ, sym, subst, ◌∙◌}
use Rattle.std.proofs.lemmas.Result.{IfOk-weaker}
use Rattle.cfgitems.specs.Syntax.{Syntax}
use Rattle.cfgast.specs.Sound.{IsSound}
use Rattle.cfgast.specs.TreeView.{syntax}
use Rattle.cfgnumbers.specs.Fits.{LeavesRoom}
use Rattle.cfgnumbers.specs.Numberable.{IsNumberable}
use Rattle.cfgnumbers.specs.Numbered.{implicit_of, numbered}
use Rattle.cfgnumbers.proofs.Valid.{numberable}
use Rattle.cfgyacc.proofs.Built.{of_both, room}
use Rattle.cfgyacc.proofs.grammar.tables.YaccGrammar.new_from_checked_ast.Goals as goal

pub from_numberable-requires : goal.from_numberable-requires
from_numberable-requires g c =
    let parsed = c.args.parsed.now in
    let HasRoom = λ (s : Syntax) (implicit : Option (List (List ℕ))). LeavesRoom g.S.Storage.MAX implicit s in
    record {
      numberable = subst IsNumberable (sym c.ast.ensures.value)
          (numberable parsed.syntax (subst (IsSound parsed.syntax) c.requires.0 c.ast.ensures.sound));
      room = of_both HasRoom (syntax c.ast.result.now) parsed.syntax (implicit_of c.yacc_kind.result (syntax c.ast.result.now)) (implicit_of parsed.kind parsed.syntax)
          c.ast.ensures.value (λ i. implicit_of (c.yacc_kind.ensures i) (c.ast.ensures.value i))
          (room g.S.Storage.MAX parsed.kind parsed.syntax c.ast.ensures.sound.well_formed c.requires.1);
    }

pub returns : goal.returns
returns g c = IfOk-weaker c.from_numberable.result _ _
    (λ grammar same. same ∙ (λ i. numbered (c.yacc_kind.ensures i) (c.ast.ensures.value i))) c.from_numberable.ensures
