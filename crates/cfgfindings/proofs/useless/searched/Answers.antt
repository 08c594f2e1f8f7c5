use Rattle.std.proofs.Common.{subst, ◌∙◌}
use Rattle.std.proofs.lemmas.Result.{IfOk-weaker}
use Rattle.cfgrammar.specs.Grammar.{IsGrammar}
use Rattle.cfgrammar.specs.Numbered.{Numbered, core}
use Rattle.cfgfindings.proofs.Reached.{knows}
use Rattle.cfgfindings.proofs.useless.searched.Goals as goal

pub returns : goal.returns
returns c =
    let is = subst (λ (n : Numbered). IsGrammar (core n)) c.grammar-grammar.ensures c.invariant_holds.ensures.whole.grammar in
    IfOk-weaker c.from_root.result _ _ (λ x found. knows c.args.unproductive.now is c.args.only_usable
    c.from-start.result (c.from-start.ensures ∙ c.start_rule_idx.ensures.value) x found) c.from_root.ensures.reachable
