use Rattle.std.proofs.Common.{Some, map, refl, ap, sym, ◌∙◌}
use Rattle.cfgrammar.specs.NumberedSymbols.{sym_of}
use Rattle.cfgfindings.proofs.Read.{production_seen, rule_read, symbols_read}
use Rattle.cfgfindings.proofs.repeats.shape_of.Goals as goal

pub returns : goal.returns
returns c =
    let g = c.args.grammar.now in
    let p = c.args.number in
    let k = c.to_storage.result in
    let same = c.to_storage.ensures in
    let symbols = map (sym_of (λ s. s)) c.prod.result.now in
    let rule = rule_read g p c.requires c.from.result (production_seen g g refl p k same c.from.result (λ production. production.rule)
    (c.prod_to_rule.ensures.value ∙ ap Some (sym c.from.ensures))) in
    let held = symbols_read g p c.requires symbols (production_seen g g refl p k same symbols (λ production. production.symbols) c.prod.ensures.value) in
    λ i. record { rule = sym rule i; symbols = sym held i }
