use Rattle.cfgrammar.proofs.laws.sentences.nullable_rules_have_the_empty_sentence.Goals as goal

pub returns : goal.returns
returns c = λ g r. ((λ s. s), (λ n. n))
