use Rattle.std.proofs.Common.{◌+◌, length, refl, sym, subst, ap, ◌∙◌, arith}
use Rattle.std.proofs.lemmas.List.{length_push}
use Rattle.cfgleast.specs.Generator.{tables_of}
use Rattle.cfgchoices.specs.Kinds.{IsKind}
use Rattle.cfgchoices.specs.declared.kinds.Kind.TheVariants.{Suboptimal}
use Rattle.cfgleast.proofs.Pushed.{each_push}
use Rattle.cfgchoices.proofs.Optimal.{targets_are_rules}
use Rattle.cfgchoices.proofs.kinds.kinds.Goals as goal

pub kind_of-requires-clause-index : goal.kind_of-requires-clause-index
kind_of-requires-clause-index g c = omega (arith, c.to_storage.ensures, c.loop-number-test.true, c.to_usize-prods_len.ensures.value, c.prods_len.ensures)

pub loop-number-preserved : goal.loop-number-preserved
loop-number-preserved g c =
    let number = g.S.Storage.number in
    let x = tables_of number (g.T.Tables.grammar c.args.tables.now) c.args.costs.now c.args.settled.now.least.items c.args.settled.now.choices.items in
    record {
      len = ap length c.in_ok-push.ensures.items ∙ length_push c.loop-number.kinds.items c.kind_of.result ∙ ap (λ n. n + 1) c.loop-number.invariant.len;
      each = λ p lt. each_push (IsKind number x) Suboptimal c.loop-number.kinds.items _ (length c.loop-number.kinds.items) c.kind_of.result refl c.in_ok-push.ensures.items c.loop-number.invariant.each
          (subst (λ p. IsKind number x p c.kind_of.result) (c.to_storage.ensures ∙ sym c.loop-number.invariant.len) c.kind_of.ensures) p
          (omega (arith, lt, ap length c.in_ok-push.ensures.items, length_push c.loop-number.kinds.items c.kind_of.result));
    }

pub returns-clause-targets : goal.returns-clause-targets
returns-clause-targets g c =
    let number = g.S.Storage.number in
    let x = tables_of number (g.T.Tables.grammar c.args.tables.now) c.args.costs.now c.args.settled.now.least.items c.args.settled.now.choices.items in
    targets_are_rules number x c.loop-number.kinds.items c.args.settled.now.number c.requires c.loop-number.invariant.each
