use Rattle.std.proofs.Common.{◌<◌, arith, sym, subst}
use Rattle.cfgcosts.proofs.generator.SentenceGenerator.is_free.Goals as goal

pub to_storage-requires : goal.to_storage-requires
to_storage-requires g c = omega (arith, c.requires, c.invariant_holds.ensures.rules)

pub min_sentence_cost-requires : goal.min_sentence_cost-requires
min_sentence_cost-requires g c = subst (λ r. r < c.args.self.now.grammar.rules) (sym c.to_storage.ensures) c.requires
