use Rattle.std.proofs.Common.{Some, None, Ok, Err}
use Rattle.derivation.specs.declared.errors.CostError.TheVariants.{NoSentence, CostTooLarge}
use Rattle.cfgcosts.proofs.Greatest.{answer_at}
use Rattle.cfgcosts.proofs.generator.SentenceGenerator.max_sentence_cost.Goals as goal

-- The table has for the rule what is true of it (`answer_at`):
-- each clause says a part of that.
pub returns-clause-none : goal.returns-clause-none
returns-clause-none g c = (answer_at _ _ c.self.view_is _ c.self.invariant.1 _ _ c.from.ensures c.requires _ c.index.ensures).0 (Err NoSentence)

pub returns-clause-unbounded : goal.returns-clause-unbounded
returns-clause-unbounded g c = (answer_at _ _ c.self.view_is _ c.self.invariant.1 _ _ c.from.ensures c.requires _ c.index.ensures).0 (Ok None)

pub returns-clause-cycle : goal.returns-clause-cycle
returns-clause-cycle g c = (answer_at _ _ c.self.view_is _ c.self.invariant.1 _ _ c.from.ensures c.requires _ c.index.ensures).1

pub returns-clause-greatest : goal.returns-clause-greatest
returns-clause-greatest g c n = (answer_at _ _ c.self.view_is _ c.self.invariant.1 _ _ c.from.ensures c.requires _ c.index.ensures).0 (Ok (Some n))

pub returns-clause-too_large : goal.returns-clause-too_large
returns-clause-too_large g c = (answer_at _ _ c.self.view_is _ c.self.invariant.1 _ _ c.from.ensures c.requires _ c.index.ensures).0 (Err CostTooLarge)
