use Rattle.std.proofs.Common.{◌+◌, ◌<◌, length, ap, sym, subst, ◌∙◌, arith}
use Rattle.std.specs.Prelude.{IfSome}
use Rattle.std.proofs.lemmas.List.{length_push, map-append}
use Rattle.std.proofs.lemmas.List.Elements.{All-push, All-same}
use Rattle.cfgindex.specs.declared.idxnewtype.RIdx.{RIdx}
use Rattle.cfgcosts.specs.Inner.Targets.{LeadsOnlyTo, rules_of}
use Rattle.cfgchoices.specs.Chains.{Along}
use Rattle.cfgleast.proofs.Pushed.{each_push}
use Rattle.cfgcosts.proofs.OnlyTargets.{only_or_itself}
use Rattle.cfgcosts.proofs.targets.only_targets.Goals as goal

pub loop-number-preserved : goal.loop-number-preserved
loop-number-preserved g c =
    let number = g.S.Storage.number in
    let grammar = g.T.Tables.grammar c.args.tables.now in
    let kinds = c.args.kinds.now in
    let n = c.loop-number.number in
    let targets = rules_of number c.loop-number.targets.items in
    let rule : RIdx _ = record { 0 = c.to_storage.result } in
    let lt : n < grammar.rules = omega (arith, c.loop-number-test.true, c.to_usize-rules_len.ensures.value, c.rules_len.ensures.value) in
    let both = only_or_itself number grammar kinds n rule c.only_target.result c.requires.targets c.to_storage.ensures lt
    (subst (λ m. IfSome c.only_target.result (λ target. LeadsOnlyTo number grammar kinds m (number target.0))) c.to_storage.ensures c.only_target.ensures) in
    let is = c.unwrap_or.ensures in
    let one = subst (λ (h : RIdx _). Along (LeadsOnlyTo number grammar kinds) n (number h.0)) (sym is) both.0 in
    let rule_one = subst (λ (h : RIdx _). number h.0 < grammar.rules) (sym is) both.1 in
    let longer = ap (rules_of number) c.in_ok-push.ensures.items ∙ map-append (λ (h : RIdx _). number h.0) c.loop-number.targets.items _ in
    record {
      len = ap length longer ∙ length_push targets (number c.unwrap_or.result.0) ∙ ap (λ m. m + 1) c.loop-number.invariant.len;
      within = All-same (λ h. h < grammar.rules) _ _ longer (All-push (λ h. h < grammar.rules) targets (number c.unwrap_or.result.0) c.loop-number.invariant.within rule_one);
      each = each_push (Along (LeadsOnlyTo number grammar kinds)) 0 targets _ n (number c.unwrap_or.result.0) c.loop-number.invariant.len longer c.loop-number.invariant.each one;
    }

pub returns : goal.returns
returns g c = record {
  all = omega (arith, c.loop-number.invariant.len, c.loop-number-test.false, c.loop-number.auto.number-end, c.to_usize-rules_len.ensures.value, c.rules_len.ensures.value);
  within = c.loop-number.invariant.within;
  each = λ r h. c.loop-number.invariant.each r (omega (arith, h, c.loop-number.invariant.len));
}

pub to_storage-requires : goal.to_storage-requires
to_storage-requires g c = omega (arith, c.loop-number-test.true, c.to_usize-rules_len.ensures.value, c.to_usize-rules_len.ensures.range)

pub only_target-requires-clause-rule : goal.only_target-requires-clause-rule
only_target-requires-clause-rule g c = omega (arith, c.loop-number-test.true, c.to_storage.ensures, c.to_usize-rules_len.ensures.value, c.rules_len.ensures.value)
