use Rattle.std.proofs.Common.{inl, inr, refl, sym, ap, ◌∙◌}
use Rattle.std.specs.Result.{result_ok}
use Rattle.derivation.specs.declared.errors.CostError.TheVariants.{NoSentence, CostTooLarge}
use Rattle.cfgcosts.proofs.Refused.{known_memory, known_sentence, refused, refused_memory, unanswered}
use Rattle.cfgcosts.proofs.generator.SentenceGenerator.first_sentence.Goals as goal

pub walk-requires-clause-cost : goal.walk-requires-clause-cost
walk-requires-clause-cost g c = (c.in_ok-min_sentence_cost.field-0, sym c.min_sentence_cost.ensures.answer ∙ ap result_ok c.in_ok-min_sentence_cost.was)

pub returns-in_err-min_sentence_cost-clause-walked : goal.returns-in_err-min_sentence_cost-clause-walked
returns-in_err-min_sentence_cost-clause-walked g c = unanswered _ _ c.from_residual.result c.from_residual.ensures.1

pub returns-in_err-min_sentence_cost-clause-none : goal.returns-in_err-min_sentence_cost-clause-none
returns-in_err-min_sentence_cost-clause-none g c = refused c.in_err-min_sentence_cost.field-0.0 NoSentence c.from_residual.ensures.1 c.in_err-min_sentence_cost.ensures.none

pub returns-in_err-min_sentence_cost-clause-too_large : goal.returns-in_err-min_sentence_cost-clause-too_large
returns-in_err-min_sentence_cost-clause-too_large g c = refused c.in_err-min_sentence_cost.field-0.0 CostTooLarge c.from_residual.ensures.1 c.in_err-min_sentence_cost.ensures.too_large

pub returns-in_err-min_sentence_cost-clause-refused : goal.returns-in_err-min_sentence_cost-clause-refused
returns-in_err-min_sentence_cost-clause-refused g c = λ _. refl

pub returns-in_err-sentence-clause-walked : goal.returns-in_err-sentence-clause-walked
returns-in_err-sentence-clause-walked g c = unanswered _ _ c.from_residual-in_err-sentence.result c.from_residual-in_err-sentence.ensures.1

pub returns-in_err-sentence-clause-stopped : goal.returns-in_err-sentence-clause-stopped
returns-in_err-sentence-clause-stopped g c = λ _. c.in_err-sentence.ensures.stopped

pub returns-in_err-sentence-clause-none : goal.returns-in_err-sentence-clause-none
returns-in_err-sentence-clause-none g c = known_memory c.in_ok-min_sentence_cost.field-0 NoSentence c.from_residual-in_err-sentence.ensures.1 c.in_ok-min_sentence_cost.ensures.none

pub returns-in_err-sentence-clause-too_large : goal.returns-in_err-sentence-clause-too_large
returns-in_err-sentence-clause-too_large g c = known_memory c.in_ok-min_sentence_cost.field-0 CostTooLarge c.from_residual-in_err-sentence.ensures.1 c.in_ok-min_sentence_cost.ensures.too_large

pub returns-in_err-sentence-clause-refused : goal.returns-in_err-sentence-clause-refused
returns-in_err-sentence-clause-refused g c = λ h. absurd (elim h [
  | inl e ↦ refused_memory NoSentence c.from_residual-in_err-sentence.ensures.1 e
  | inr e ↦ refused_memory CostTooLarge c.from_residual-in_err-sentence.ensures.1 e
])

pub returns-clause-none : goal.returns-clause-none
returns-clause-none g c = known_sentence c.in_ok-sentence.sentence c.in_ok-min_sentence_cost.field-0 NoSentence refl c.in_ok-min_sentence_cost.ensures.none

pub returns-clause-too_large : goal.returns-clause-too_large
returns-clause-too_large g c = known_sentence c.in_ok-sentence.sentence c.in_ok-min_sentence_cost.field-0 CostTooLarge refl c.in_ok-min_sentence_cost.ensures.too_large

pub returns-clause-walked : goal.returns-clause-walked
returns-clause-walked g c = c.in_ok-sentence.ensures.walked

pub returns-clause-stopped : goal.returns-clause-stopped
returns-clause-stopped g c = λ e. let no = e in absurd (cc)
