use Rattle.std.proofs.Common.{◌++◌, ◌∙◌, [], map, take, codes, string_bytes, sym, ap, append-nil, append_assoc}
use Rattle.std.specs.List.{concat}
use Rattle.std.proofs.lemmas.List.{take_all}
use Rattle.cfgnumbers.specs.Accessors.{sym_text}
use Rattle.cfgtables.specs.NumberedSymbols.{sym_of}
use Rattle.cfgitems.proofs.Views.{on_err}
use Rattle.cfgnumbers.proofs.Turns.{more_joined}
use Rattle.cfgyacc.proofs.Cut.{grown_more}
use Rattle.cfgyacc.proofs.grammar.tables.YaccGrammar.push_parts.Goals as goal

pub loop-symbol-init : goal.loop-symbol-init
loop-symbol-init g c =
    c.in_ok-push_str-2.ensures.bytes ∙ ap (λ t. t ++ codes ":") c.in_ok-push_str.ensures.bytes ∙ sym (append-nil _)

pub loop-symbol-preserved : goal.loop-symbol-preserved
loop-symbol-preserved g c =
    let text = sym_text c.args.self.now in
    let symbol = sym_of g.S.Storage.number in
    let symbols = c.args.symbols.now in
    let begun = (string_bytes c.args.text.now ++ c.args.rule.now) ++ codes ":" in
    let so_far = concat (map text (map symbol (take c.loop-symbol.symbol-index symbols))) in
    let next = text (symbol c.symbol-item.result) in
    c.in_ok-push_symbol.ensures.added ∙ ap (λ t. t ++ next) c.loop-symbol.invariant ∙ append_assoc begun so_far next
    ∙ ap (λ t. begun ++ t) (more_joined text symbol symbols c.loop-symbol.symbol-index c.symbol-item.result c.loop-symbol-test.true c.symbol-item.is)

pub returns-in_err-push_str-clause-kept : goal.returns-in_err-push_str-clause-kept
returns-in_err-push_str-clause-kept g c = on_err c.from_residual.result ([], c.in_err-push_str.ensures.bytes ∙ sym (append-nil _))

pub returns-in_err-push_str-2-clause-kept : goal.returns-in_err-push_str-2-clause-kept
returns-in_err-push_str-2-clause-kept g c = on_err c.from_residual-in_err-push_str-2.result (_, c.in_err-push_str-2.ensures.bytes ∙ c.in_ok-push_str.ensures.bytes)

pub returns-in_err-push_symbol-clause-kept : goal.returns-in_err-push_symbol-clause-kept
returns-in_err-push_symbol-clause-kept g c =
    let old = string_bytes c.args.text.now in
    let rule = c.args.rule.now in
    let so_far = concat (map (sym_text c.args.self.now) (map (sym_of g.S.Storage.number) (take c.loop-symbol.symbol-index c.args.symbols.now))) in
    let begun = c.loop-symbol.invariant ∙ append_assoc (old ++ rule) (codes ":") so_far ∙ append_assoc old rule (codes ":" ++ so_far) in
    on_err c.from_residual-in_err-push_symbol.result (grown_more old _ _ _ _ begun c.in_err-push_symbol.ensures.kept.1)

pub returns-clause-added : goal.returns-clause-added
returns-clause-added g c =
    let old = string_bytes c.args.text.now in
    let rule = c.args.rule.now in
    let all = concat (map (sym_text c.args.self.now) (map (sym_of g.S.Storage.number) c.args.symbols.now)) in
    c.loop-symbol.invariant
    ∙ ap (λ items. ((old ++ rule) ++ codes ":") ++ concat (map (sym_text c.args.self.now) (map (sym_of g.S.Storage.number) items)))
    (take_all c.loop-symbol.symbol-index c.args.symbols.now c.loop-symbol-test.false)
    ∙ append_assoc (old ++ rule) (codes ":") all ∙ append_assoc old rule (codes ":" ++ all)
