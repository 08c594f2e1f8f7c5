-- the sentences of the rule's last target are those of the rule
use Rattle.std.proofs.Common.{◌++◌, ℕ, List, Contains, map, refl, sym, ap, ◌∙◌}
use Rattle.std.specs.Result.{result_ok}
use Rattle.derivation.specs.Grammar.{HasProduction}
use Rattle.derivation.specs.declared.errors.CostError.TheVariants.{NoSentence, CostTooLarge}
use Rattle.cfgleast.specs.Generator.{token_cost}
use Rattle.cfgchoices.proofs.FirstSentences.{begins_none}
use Rattle.cfgchoices.proofs.Lengths.{productions_paid}
use Rattle.cfgcosts.specs.Sentences.{numbers_of}
use Rattle.cfgcosts.proofs.Refused.{known_memory, known_sentence, refused}
use Rattle.cfgcosts.proofs.generator.SentenceGenerator.min_sentences.Goals as goal

pub all_sentences-requires-clause-rule : goal.all_sentences-requires-clause-rule
all_sentences-requires-clause-rule g c = c.last_target.ensures.rule

pub all_sentences-requires-clause-known : goal.all_sentences-requires-clause-known
all_sentences-requires-clause-known g c =
    (c.in_ok-min_sentence_cost.field-0, c.last_target.ensures.cost ∙ sym c.min_sentence_cost.ensures.answer ∙ ap result_ok c.in_ok-min_sentence_cost.was)

pub returns-clause-all : goal.returns-clause-all
returns-clause-all g c = λ w.
    let all = c.in_ok-sentences.ensures.all w in
    let same = c.last_target.ensures.same w in
    (λ h. same.0 (all.0 h), λ m. all.1 (same.1 m))

pub returns-clause-order : goal.returns-clause-order
returns-clause-order g c = c.in_ok-sentences.ensures.order

pub returns-clause-prefix_free : goal.returns-clause-prefix_free
returns-clause-prefix_free g c = λ w rest h k.
    let x = c.args.self.now in
    let (n, is) = c.invariant_holds.ensures.generator in
    let paid = productions_paid x.grammar x.costs c.invariant_holds.ensures.grammar is.tokens is.positive in
    let minimal = λ (v : List ℕ) (k : Contains (map (numbers_of g.S.Storage.number) c.in_ok-sentences.sentences.items) v). (c.last_target.ensures.same v).0 ((c.in_ok-sentences.ensures.all v).0 k) in
    begins_none (HasProduction x.grammar) (token_cost x) paid (g.S.Storage.number c.args.rule.0) w rest (minimal w h) (minimal (w ++ rest) k)

pub returns-clause-none : goal.returns-clause-none
returns-clause-none g c = known_sentence _ c.in_ok-min_sentence_cost.field-0 NoSentence refl c.in_ok-min_sentence_cost.ensures.none

pub returns-clause-too_large : goal.returns-clause-too_large
returns-clause-too_large g c = known_sentence _ c.in_ok-min_sentence_cost.field-0 CostTooLarge refl c.in_ok-min_sentence_cost.ensures.too_large

pub returns-in_err-min_sentence_cost-clause-none : goal.returns-in_err-min_sentence_cost-clause-none
returns-in_err-min_sentence_cost-clause-none g c = refused c.in_err-min_sentence_cost.field-0.0 NoSentence c.from_residual.ensures.1 c.in_err-min_sentence_cost.ensures.none

pub returns-in_err-sentences-clause-none : goal.returns-in_err-sentences-clause-none
returns-in_err-sentences-clause-none g c = known_memory c.in_ok-min_sentence_cost.field-0 NoSentence c.from_residual-in_err-sentences.ensures.1 c.in_ok-min_sentence_cost.ensures.none

pub returns-in_err-min_sentence_cost-clause-too_large : goal.returns-in_err-min_sentence_cost-clause-too_large
returns-in_err-min_sentence_cost-clause-too_large g c = refused c.in_err-min_sentence_cost.field-0.0 CostTooLarge c.from_residual.ensures.1 c.in_err-min_sentence_cost.ensures.too_large

pub returns-in_err-sentences-clause-too_large : goal.returns-in_err-sentences-clause-too_large
returns-in_err-sentences-clause-too_large g c = known_memory c.in_ok-min_sentence_cost.field-0 CostTooLarge c.from_residual-in_err-sentences.ensures.1 c.in_ok-min_sentence_cost.ensures.too_large
