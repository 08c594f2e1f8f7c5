use Rattle.std.proofs.Common.{◌≡◌, [], map, sym, ap, ◌∙◌}
use Rattle.std.specs.BTreeMap.{get}
use Rattle.std.specs.Option.{option_map, unwrap_or}
use Rattle.std.specs.Ordering.{nat_cmp}
use Rattle.cfgtables.specs.NumberedSymbols.{sym_of}
use Rattle.cfgcosts.specs.Inner.Minimal.{joined, sentences_in, words_of, words_of_symbol}
use Rattle.cfgcosts.specs.Sentences.{numbers_of}
use Rattle.cfgcosts.proofs.Joins.{joined_none}
use Rattle.cfgcosts.proofs.minimal.products.push_symbol.Goals as goal

pub returns-in-None : goal.returns-in-None
returns-in-None g c =
    let number = g.S.Storage.number in
    let sentences = sentences_in number c.args.table.now in
    let prefixes = words_of number c.args.words in
    let none : sentences (number c.in-Rule.rule.0) ≡ [] = ap (λ o. unwrap_or (option_map (words_of number) o) []) (ap (get nat_cmp c.args.table.now) (sym c.from.ensures) ∙ sym c.in-None.ensures.value) in
    ap (map (numbers_of number)) c.new.ensures.items ∙ sym (joined_none prefixes)
    ∙ ap (joined prefixes) (sym none ∙ ap (λ s. words_of_symbol sentences (sym_of number s)) (sym c.in-Rule.is))
