use Rattle.std.proofs.Common.{map, option_map, inl, inr, sym, ap, ◌∙◌}
use Rattle.cfgitems.specs.Syntax.{entry_name}
use Rattle.cfgitems.specs.SyntaxView.{span_entry}
use Rattle.cfgast.specs.TreeView.{syntax}
use Rattle.cfgkinds.specs.declared.kind.YaccKind.{YaccKind}
use Rattle.cfgnumbers.specs.Numbered.{implicit_of}
use Rattle.cfgnumbers.specs.TablesView.{names}
use Rattle.cfgnumbers.proofs.RowLemmas.{names_shown}
use Rattle.cfgnumbers.proofs.numbering.Numbering.new.Goals as goal
use Rattle.cfgnumbers.proofs.numbering.Numbering.new.Goals.{in-Eco, in-Original}

pub returns-clause-implicit : goal.returns-clause-implicit
returns-clause-implicit c =
    let of_kind = λ (kind : YaccKind). implicit_of kind (syntax c.args.ast.now) in
    elim c.match-kind.branch [
      | in-Eco w ↦
          ap (option_map (λ table. names table.now.entries)) w.implicit-is ∙ names_shown w.as_ref-implicit.result
          ∙ ap (λ o. option_map (map entry_name) (option_map (λ table. map span_entry table.entries) o)) w.as_ref-implicit.ensures.value
          ∙ ap (option_map (map entry_name)) w.implicit_tokens.ensures ∙ sym (ap of_kind w.in-Eco.is)
      | in-Original w ↦
          ap (option_map (λ table. names table.now.entries)) w.implicit-is
          ∙ elim w.in-Original.is [ inl e ↦ sym (ap of_kind e.1) | inr e ↦ sym (ap of_kind e) ]
    ]
