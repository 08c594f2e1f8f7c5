use Rattle.std.proofs.Common.{if◌then◌else◌, Some, None, ◌++◌, map, filter_map, append-nil, sym, subst, ap, ◌∙◌}
use Rattle.std.specs.List.{AllZip}
use Rattle.std.specs.Map.Iter.{deref_pair}
use Rattle.cfgmarks.specs.Marks.{unused_key}
use Rattle.lemmas.proofs.Growing.{given_step, picked, passed_over}
use Rattle.std.proofs.lemmas.List.Elements.{AllZip-push}
use Rattle.cfgmarks.proofs.MarkLists.{found_one, on_err}
use Rattle.cfgmarks.proofs.markmap.MarkMap.unused.Goals as goal

pub loop-key-preserved-in_ok-push : goal.loop-key-preserved-in_ok-push
loop-key-preserved-in_ok-push g c = record {
  given = given_step deref_pair c.args.self.now.contents.entries c.loop-key.yielded (c.in-Some.key, c.in-Some.marked) c.loop-key.key-iterator c.next.new.self c.loop-key.invariant.given c.in-Some.ensures.steps;
  kept = rw (picked deref_pair unused_key c.loop-key.yielded (c.in-Some.key, c.in-Some.marked) c.in-Some.key.now (ap (λ b. if b then Some c.in-Some.key.now else None) (sym c.is_unused.ensures ∙ c.if-is_unused.true)), c.in_ok-push.ensures.items)
      (AllZip-push g.K.Clone.is_clone _ c.loop-key.keys.items c.in-Some.key.now _ c.loop-key.invariant.kept c.in_ok-clone.ensures.cases);
}

pub loop-key-preserved : goal.loop-key-preserved
loop-key-preserved g c = record {
  given = given_step deref_pair c.args.self.now.contents.entries c.loop-key.yielded (c.in-Some.key, c.in-Some.marked) c.loop-key.key-iterator c.next.new.self c.loop-key.invariant.given c.in-Some.ensures.steps;
  kept = rw (passed_over deref_pair unused_key c.loop-key.yielded (c.in-Some.key, c.in-Some.marked) (ap (λ b. if b then Some c.in-Some.key.now else None) (sym c.is_unused.ensures ∙ c.if-is_unused.false))) c.loop-key.invariant.kept;
}

pub returns-in_err-clone-clause-not_empty : goal.returns-in_err-clone-clause-not_empty
returns-in_err-clone-clause-not_empty g c =
    on_err c.from_residual.result (found_one deref_pair unused_key c.args.self.now.contents.entries c.loop-key.yielded (c.in-Some.key, c.in-Some.marked) c.loop-key.key-iterator c.next.new.self c.in-Some.key.now c.loop-key.invariant.given
    c.in-Some.ensures.steps (ap (λ b. if b then Some c.in-Some.key.now else None) (sym c.is_unused.ensures ∙ c.if-is_unused.true)))

pub returns-in_err-push-clause-not_empty : goal.returns-in_err-push-clause-not_empty
returns-in_err-push-clause-not_empty g c =
    on_err c.from_residual-in_err-push.result (found_one deref_pair unused_key c.args.self.now.contents.entries c.loop-key.yielded (c.in-Some.key, c.in-Some.marked) c.loop-key.key-iterator c.next.new.self c.in-Some.key.now c.loop-key.invariant.given
    c.in-Some.ensures.steps (ap (λ b. if b then Some c.in-Some.key.now else None) (sym c.is_unused.ensures ∙ c.if-is_unused.true)))

pub returns-clause-ok : goal.returns-clause-ok
returns-clause-ok g c =
    let all = c.loop-key.invariant.given ∙ ap (λ rest. map deref_pair c.loop-key.yielded ++ rest) c.in-None.ensures.steps.0 ∙ append-nil (map deref_pair c.loop-key.yielded) in
    subst (λ entries. AllZip g.K.Clone.is_clone (filter_map unused_key entries) c.loop-key.keys.items) (sym all) c.loop-key.invariant.kept
