use Rattle.std.proofs.Common.{true, map, filter_map, fold, ap, ◌∙◌}
use Rattle.bison_reader.specs.Items.{item_view}
use Rattle.bison_errors.specs.Reading.{level_in, with_default}
use Rattle.bison_errors.proofs.reading.read_file.Goals as goal

pub returns : goal.returns
returns c =
    let seen = ap (map item_view) c.as_slice-items.ensures.value ∙ c.requires.items in
    record {
      ast = c.in_ok-ast.ensures.tree;
      errors = c.in_ok-ast.ensures.errors;
      levels = c.in_ok-levels.ensures ∙ ap (filter_map level_in) seen;
      default_precedence = c.default_precedence.ensures ∙ ap (fold with_default true) seen;
    }
