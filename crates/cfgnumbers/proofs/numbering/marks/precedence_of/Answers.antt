use Rattle.std.proofs.Common.{◌∙◌}
use Rattle.cfgitems.specs.SyntaxView.{production_view}
use Rattle.cfgindex.specs.declared.idxnewtype.TIdx.{TIdx}
use Rattle.cfgnumbers.specs.Numbered.{last_token}
use Rattle.cfgast.specs.TreeView.{syntax}
use Rattle.cfgnumbers.proofs.Marks.{precedence_at}
use Rattle.cfgnumbers.proofs.numbering.marks.precedence_of.Goals as goal

pub returns-in-None : goal.returns-in-None
returns-in-None g c =
    rw c.in-None.is
    (c.precedence_at.ensures
    ∙ precedence_at (λ (token : TIdx g.row.S.Denot). g.S.Storage.number token.0) (syntax c.args.ast.now) _ c.requires.tokens c.args.last
    (last_token (production_view c.args.production.now).symbols) c.requires.last)
