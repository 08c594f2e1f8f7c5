use Rattle.std.proofs.Common.{◌≡◌, ◌<◌, ℕ, length, Some, refl, sym, subst, ◌∙◌, arith}
use Rattle.std.proofs.lemmas.List.{length-set}
use Rattle.cfgleast.specs.Generator.{tables_of}
use Rattle.cfgchoices.specs.Kinds.{IsChain, IsKind}
use Rattle.cfgchoices.specs.Inner.Lists.{IsBaseAt}
use Rattle.cfgchoices.specs.Inner.Candidates.{owner}
use Rattle.cfgchoices.proofs.Listed.{listed_elsewhere, listed_first, listed_nowhere, base_cost_reported}
use Rattle.cfgchoices.proofs.Optimal.{answered_within, base_leads_nowhere, one_cost, one_target}
use Rattle.cfgchoices.proofs.first.lists.Lists.add.Goals as goal

pub returns-in-Suboptimal : goal.returns-in-Suboptimal
returns-in-Suboptimal g c =
    let number = g.S.Storage.number in
    let x = tables_of number (g.T.Tables.grammar c.args.tables.now) c.args.costs.now c.args.settled.now.least.items c.args.settled.now.choices.items in
    let p = number c.args.p.0 in
    let lists = c.args.self.now in
    let l = c.requires.lists in
    let suboptimal = subst (IsKind number x p) c.in-Suboptimal.is c.requires.kind in record {
      base = listed_nowhere number (IsBaseAt x) p lists.base.items lists.next.items l.base (λ k i. suboptimal i.0.optimal);
      chain = listed_nowhere number (λ r q. IsChain x q r) p lists.chain.items lists.next.items l.chain (λ k i. suboptimal i.optimal);
      costs = l.costs;
      rules = l.rules;
      positions = l.positions;
    }

pub returns-in-Some : goal.returns-in-Some
returns-in-Some g c =
    let number = g.S.Storage.number in
    let x = tables_of number (g.T.Tables.grammar c.args.tables.now) c.args.costs.now c.args.settled.now.least.items c.args.settled.now.choices.items in
    let n = c.args.settled.now.number in
    let p = number c.args.p.0 in
    let lists = c.args.self.now in
    let l = c.requires.lists in
    let base = subst (IsKind number x p) c.in-Base.is c.requires.kind in
    let cost = base_cost_reported x n c.requires.generator p c.from.result c.in-Some.cost base c.index.result.now (c.from.ensures ∙ c.prod_to_rule.ensures) c.index.ensures c.in-Some.is in
    let only = λ (k : ℕ) (i : IsBaseAt x k p). let one = one_cost x (owner x p) i.0.optimal.cost base.optimal.cost i.0.optimal.rule base.optimal.rule in
    let same : k ≡ c.in-Some.cost = omega (arith, one, i.1, cost) in same in
    let within = subst (λ m. m < length lists.base.items) cost (l.costs (owner x p) base.optimal.cost base.optimal.rule) in
    let there = subst (λ m. p < m) (sym l.positions) c.requires.index in record {
      base = listed_first number (IsBaseAt x) p lists.base.items lists.next.items l.base c.from-in-Some.result c.from-in-Some.ensures c.index-in-Some.result.now
          c.in-Some.cost c.in-Some.cost c.in-Some.cost c.args.p refl (base, cost) only within there refl refl c.index-in-Some.ensures;
      chain = listed_elsewhere number (λ r q. IsChain x q r) p lists.chain.items lists.next.items l.chain c.from-in-Some.result c.from-in-Some.ensures c.index-in-Some.result.now
          (λ r chain. base_leads_nowhere x n c.requires.generator c.invariant_holds.ensures.content p r base chain);
      costs = λ r d e. subst (λ m. d < m) (sym (length-set lists.base.items c.in-Some.cost (Some c.args.p))) (l.costs r d e);
      rules = l.rules;
      positions = length-set lists.next.items c.from-in-Some.result c.index-in-Some.result.now ∙ l.positions;
    }

pub returns-in-Chain : goal.returns-in-Chain
returns-in-Chain g c =
    let number = g.S.Storage.number in
    let x = tables_of number (g.T.Tables.grammar c.args.tables.now) c.args.costs.now c.args.settled.now.least.items c.args.settled.now.choices.items in
    let n = c.args.settled.now.number in
    let p = number c.args.p.0 in
    let r = number c.in-Chain.rule.0 in
    let lists = c.args.self.now in
    let l = c.requires.lists in
    let target = subst (IsKind number x p) c.in-Chain.is c.requires.kind in
    let within = subst (λ m. r < m) (sym l.rules) (answered_within x n c.requires.generator r target.optimal.cost target.same) in
    let there = subst (λ m. p < m) (sym l.positions) c.requires.index in record {
      base = listed_elsewhere number (IsBaseAt x) p lists.base.items lists.next.items l.base c.from-in-Chain-2.result c.from-in-Chain-2.ensures c.index-in-Chain.result.now
          (λ k i. base_leads_nowhere x n c.requires.generator c.invariant_holds.ensures.content p r i.0 target);
      chain = listed_first number (λ r q. IsChain x q r) p lists.chain.items lists.next.items l.chain c.from-in-Chain-2.result c.from-in-Chain-2.ensures c.index-in-Chain.result.now
          r c.from-in-Chain.result c.from-in-Chain-3.result c.args.p refl target (λ k i. one_target x n c.requires.generator c.invariant_holds.ensures.content p k r i target) within there c.from-in-Chain.ensures c.from-in-Chain-3.ensures c.index-in-Chain.ensures;
      costs = l.costs;
      rules = length-set lists.chain.items c.from-in-Chain-3.result (Some c.args.p) ∙ l.rules;
      positions = length-set lists.next.items c.from-in-Chain-2.result c.index-in-Chain.result.now ∙ l.positions;
    }
