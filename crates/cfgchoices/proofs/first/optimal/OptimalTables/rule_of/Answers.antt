use Rattle.std.proofs.Common.{◌<◌, ◌^◌, [], length, sym, ap, subst, ◌∙◌, arith}
use Rattle.std.proofs.lemmas.List.Elements.{All-get_or}
use Rattle.derivation.specs.Grammar.{Production}
use Rattle.cfgchoices.specs.Inner.Candidates.{IsKnown, Known, owner}
use Rattle.cfgchoices.proofs.first.optimal.OptimalTables.rule_of.Goals as goal

pub prod_to_rule-requires : goal.prod_to_rule-requires
prod_to_rule-requires g c = subst (λ (k : Known). g.S.Storage.number c.args.p.0 < length k.tables.grammar.productions) (sym c.self.view_is) c.requires

pub returns : goal.returns
returns g c = record {
  value = c.prod_to_rule.ensures ∙ ap (λ (k : Known). owner k.tables (g.S.Storage.number c.args.p.0)) c.self.view_is;
  within =
      let number = g.S.Storage.number in
      let grammar = c.args.self.now.tables.grammar in
      let known = subst (λ (k : Known). IsKnown k c.self.inside.settled.now.number) c.self.view_is c.self.invariant.0 in
      let at = All-get_or (λ (q : Production). q.rule < grammar.rules) grammar.productions (number c.args.p.0) (record { rule = 0; symbols = [] }) c.requires known.grammar.owners in
      subst (λ m. m < grammar.rules) (sym (c.prod_to_rule.ensures ∙ ap (λ (k : Known). owner k.tables (number c.args.p.0)) c.self.view_is)) at;
  limit = subst (λ (k : Known). k.tables.grammar.rules < 2 ^ 32) c.self.view_is (omega (arith, c.invariant_holds.ensures.rules, c.invariant_holds.ensures.limit));
}
