use Rattle.std.proofs.Common.{◌++◌, ap, ◌∙◌}
use Rattle.cfgnumbers.specs.Numbered.{added_productions}
use Rattle.cfgnumbers.specs.TablesView.{file_of, implicit_in}
use Rattle.cfgnumbers.proofs.RowLemmas.{precedences_shown}
use Rattle.cfgnumbers.proofs.numbering.Numbering.production_rows.Goals as goal

pub returns : goal.returns
returns g c =
    c.in_ok-push_added.ensures
    ∙ ap (λ rows. rows ++ added_productions (implicit_in c.args.self.now) (file_of c.args.self.now)) c.in_ok-push_file_rows.ensures

pub push_file_rows-requires : goal.push_file_rows-requires
push_file_rows-requires g c =
    record {
      empty = c.in_ok-rows.ensures;
      tokens = precedences_shown (file_of c.args.self.now) c.args.tokens.now.entries c.requires.numberable.well_formed.spans_as_long c.requires.tokens;
      numberable = c.requires.numberable;
      room = c.requires.room;
    }

pub push_added-requires : goal.push_added-requires
push_added-requires g c = record { resolved = c.requires.numberable.resolved; implicit = c.requires.implicit; room = c.requires.room }
