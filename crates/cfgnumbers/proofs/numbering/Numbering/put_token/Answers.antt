use Rattle.std.proofs.Common.{refl}
use Rattle.cfgnumbers.specs.TablesView.{file_of}
use Rattle.cfgnumbers.proofs.RowLemmas.{token_put}
use Rattle.cfgnumbers.proofs.numbering.Numbering.put_token.Goals as goal

pub returns : goal.returns
returns c =
    token_put (file_of c.args.self.now) c.args.rows.now.entries c.insert.new.self.entries c.in_ok-from_str.field-0
    (record { span = c.args.span; precedence = c.precedence_of_token.result; printed = c.in_ok-printed_form.field-0; avoid_insert = c.avoids_insert.result })
    (c.args.name.now, c.args.span) c.in_ok-from_str.ensures.ok refl c.precedence_of_token.ensures c.in_ok-printed_form.ensures c.avoids_insert.ensures c.requires c.in_ok-insert.ensures.entries
