use Rattle.std.proofs.Common.{◌∙◌, ap, string_bytes}
use Rattle.std.proofs.lemmas.Result.{on_ok_weaker}
use Rattle.cfgitems.specs.Building.{add}
use Rattle.cfgitems.specs.Syntax.{Syntax}
use Rattle.cfgitems.specs.Items.{PrintedFormDeclared}
use Rattle.cfgitems.specs.SyntaxView.{syntax_view, syntax_built, word_view}
use Rattle.cfgitems.proofs.Views.{form_view, shown-put}
use Rattle.cfgitems.proofs.builder.AstBuilder.declare_printed_form.Goals as goal

pub returns : goal.returns
unfolding syntax_built syntax_view add
returns c =
    let token = c.args.token in
    let old = syntax_built c.args.self.now in
    let put = shown-put form_view token.name.now (token.span, (c.args.form, c.args.span)) c.args.self.now.syntax.tables.epp.entries c.put_entry.new.entries.entries c.in_ok-put_entry.ensures in
    on_ok_weaker c.note_token.result (λ noted. noted ∙ ap {B = Syntax} (λ forms. record old {
      tables = record old.tables { printed_forms = forms };
      occurrences = (add old (PrintedFormDeclared (word_view token) (string_bytes c.args.form, c.args.span))).occurrences;
    }) put) c.note_token.ensures
