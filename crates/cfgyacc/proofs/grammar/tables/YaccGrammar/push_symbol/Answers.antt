use Rattle.std.proofs.Common.{◌++◌, ◌∙◌, [], codes, string_bytes, sym, ap, append-nil, append_assoc}
use Rattle.cfgitems.proofs.Views.{on_err}
use Rattle.cfgyacc.proofs.Cut.{grown_more}
use Rattle.cfgyacc.proofs.grammar.tables.YaccGrammar.push_symbol.Goals as goal

pub returns-in_err-push_str-clause-kept : goal.returns-in_err-push_str-clause-kept
returns-in_err-push_str-clause-kept g c = on_err c.from_residual.result ([], c.in_err-push_str.ensures.bytes ∙ sym (append-nil _))

pub returns-in_err-push_str-2-clause-kept : goal.returns-in_err-push_str-2-clause-kept
returns-in_err-push_str-2-clause-kept g c = on_err c.from_residual-in_err-push_str-2.result (_, c.in_err-push_str-2.ensures.bytes ∙ c.in_ok-push_str.ensures.bytes)

pub returns-in_err-push_str-3-clause-kept : goal.returns-in_err-push_str-3-clause-kept
returns-in_err-push_str-3-clause-kept g c =
    on_err c.from_residual-in_err-push_str-3.result (grown_more (string_bytes c.args.text.now) _ _ (codes " \"") c.symbol_name.result.now c.in_ok-push_str.ensures.bytes
    (c.in_err-push_str-3.ensures.bytes ∙ c.in_ok-push_str-2.ensures.bytes))

pub returns-clause-added : goal.returns-clause-added
returns-clause-added g c =
    let old = string_bytes c.args.text.now in
    let name = c.symbol_name.result.now in
    c.in_ok-push_str-3.ensures.bytes
    ∙ ap (λ t. t ++ codes "\"") (c.in_ok-push_str-2.ensures.bytes ∙ ap (λ t. t ++ name) c.in_ok-push_str.ensures.bytes)
    ∙ append_assoc (old ++ codes " \"") name (codes "\"") ∙ append_assoc old (codes " \"") (name ++ codes "\"")
    ∙ ap (λ n. old ++ (codes " \"" ++ (n ++ codes "\""))) (sym c.symbol_name.ensures)
