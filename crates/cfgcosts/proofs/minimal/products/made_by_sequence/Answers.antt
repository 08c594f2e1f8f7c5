use Rattle.std.proofs.Common.{◌∷◌, ◌++◌, [], map, take, sym, ap, ◌∙◌}
use Rattle.std.proofs.lemmas.List.{map_more, take_all}
use Rattle.cfgtables.specs.NumberedSymbols.{sym_of}
use Rattle.cfgcosts.specs.Inner.Minimal.{joined, sequence_words, sentences_in, words_of_symbol}
use Rattle.cfgcosts.specs.Sentences.{numbers_of}
use Rattle.cfgcosts.proofs.Joins.{sequence_more}
use Rattle.cfgcosts.proofs.minimal.products.made_by_sequence.Goals as goal

pub loop-symbol-init : goal.loop-symbol-init
loop-symbol-init g c = let number = g.S.Storage.number in
    ap (map (numbers_of number)) (c.in_ok-push.ensures.items ∙ ap (λ l. l ++ c.new.result ∷ []) c.new-words.ensures.items) ∙ ap (λ l. map (λ t. number t.0) l ∷ []) c.new.ensures.items

pub loop-symbol-preserved : goal.loop-symbol-preserved
loop-symbol-preserved g c =
    let number = g.S.Storage.number in
    let sentences = sentences_in number c.args.table.now in
    let symbols = c.args.symbols.now in
    let i = c.loop-symbol.symbol-index in
    let s = c.symbol-item.result in
    let more = map_more (sym_of number) symbols i s c.loop-symbol-test.true ∙ ap (λ x. map (sym_of number) (take i symbols) ++ sym_of number x ∷ []) (sym c.symbol-item.is) in
    c.in_ok-words.ensures ∙ ap (λ l. joined l (words_of_symbol sentences (sym_of number s))) c.loop-symbol.invariant
    ∙ sym (sequence_more sentences (map (sym_of number) (take i symbols)) (sym_of number s)) ∙ ap (sequence_words sentences) (sym more)

pub returns : goal.returns
returns g c =
    let number = g.S.Storage.number in
    c.loop-symbol.invariant ∙ ap (λ l. sequence_words (sentences_in number c.args.table.now) (map (sym_of number) l)) (take_all c.loop-symbol.symbol-index c.args.symbols.now c.loop-symbol-test.false)
