use Rattle.std.proofs.Common.{◌≤◌, map, ap, subst}
use Rattle.std.proofs.lemmas.List.{length-map}
use Rattle.std.proofs.lemmas.Result.{IfOk-weaker}
use Rattle.derivation.specs.Sentence.{cost_of}
use Rattle.cfgindex.specs.declared.idxnewtype.TIdx.{TIdx}
use Rattle.cfgleast.specs.Generator.{CostTables, token_cost}
use Rattle.cfgcosts.proofs.generator.SentenceGenerator.min_sentence.Goals as goal

pub first_sentence-requires-clause-same : goal.first_sentence-requires-clause-same
first_sentence-requires-clause-same g c = ap (λ (x : CostTables). x.grammar) c.self.view_is

pub returns-clause-first : goal.returns-clause-first
returns-clause-first g c = IfOk-weaker c.first_sentence.result _ _ (λ s h. h.found.first) c.first_sentence.ensures.walked

pub returns-clause-length : goal.returns-clause-length
returns-clause-length g c =
    let number = λ (t : TIdx _). g.S.Storage.number t.0 in
    IfOk-weaker c.first_sentence.result _ _
    (λ s h. subst (λ n. n ≤ cost_of (token_cost c.args.self.now) (map number s.items)) (length-map s.items number) h.found.short) c.first_sentence.ensures.walked

pub returns-clause-within : goal.returns-clause-within
returns-clause-within g c = IfOk-weaker c.first_sentence.result _ _ (λ s h. h.found.within) c.first_sentence.ensures.walked
