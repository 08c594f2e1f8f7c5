use Rattle.std.proofs.Common.{if◌then◌else◌, Some, None, [], ◌∷◌, ◌++◌, map, filter_map, append-nil, sym, ap, ◌∙◌}
use Rattle.std.proofs.lemmas.List.{map-append}
use Rattle.std.specs.Map.Iter.{deref_pair}
use Rattle.cfgmarks.specs.Marks.{missing_key}
use Rattle.lemmas.proofs.Growing.{given_step, picked, passed_over}
use Rattle.cfgmarks.proofs.MarkLists.{found_one, on_err}
use Rattle.cfgmarks.proofs.markmap.MarkMap.missing.Goals as goal

pub loop-key-preserved-in-Continue-1 : goal.loop-key-preserved-in-Continue-1
loop-key-preserved-in-Continue-1 g c = record {
  given = given_step deref_pair c.args.self.now.contents.entries c.loop-key.yielded (c.in-Some.key, c.in-Some.marked) c.loop-key.key-iterator c.next.new.self c.loop-key.invariant.given c.in-Some.ensures.steps;
  kept = ap (map (λ key. key.now)) c.in_ok-push.ensures.items ∙ map-append (λ key. key.now) c.loop-key.keys.items (c.in-Some.key ∷ []) ∙ ap (λ l. l ++ c.in-Some.key.now ∷ []) c.loop-key.invariant.kept
      ∙ sym (picked deref_pair missing_key c.loop-key.yielded (c.in-Some.key, c.in-Some.marked) c.in-Some.key.now (ap (λ b. if b then Some c.in-Some.key.now else None) (sym c.is_missing.ensures ∙ c.if-is_missing.true)));
}

pub loop-key-preserved : goal.loop-key-preserved
loop-key-preserved g c = record {
  given = given_step deref_pair c.args.self.now.contents.entries c.loop-key.yielded (c.in-Some.key, c.in-Some.marked) c.loop-key.key-iterator c.next.new.self c.loop-key.invariant.given c.in-Some.ensures.steps;
  kept = c.loop-key.invariant.kept ∙ sym (passed_over deref_pair missing_key c.loop-key.yielded (c.in-Some.key, c.in-Some.marked) (ap (λ b. if b then Some c.in-Some.key.now else None) (sym c.is_missing.ensures ∙ c.if-is_missing.false)));
}

pub returns-in_err-push-clause-not_empty : goal.returns-in_err-push-clause-not_empty
returns-in_err-push-clause-not_empty g c =
    on_err c.from_residual.result (found_one deref_pair missing_key c.args.self.now.contents.entries c.loop-key.yielded (c.in-Some.key, c.in-Some.marked) c.loop-key.key-iterator c.next.new.self c.in-Some.key.now c.loop-key.invariant.given
    c.in-Some.ensures.steps (ap (λ b. if b then Some c.in-Some.key.now else None) (sym c.is_missing.ensures ∙ c.if-is_missing.true)))

pub returns-clause-ok : goal.returns-clause-ok
returns-clause-ok g c =
    let all = c.loop-key.invariant.given ∙ ap (λ rest. map deref_pair c.loop-key.yielded ++ rest) c.in-None.ensures.steps.0 ∙ append-nil (map deref_pair c.loop-key.yielded) in
    c.loop-key.invariant.kept ∙ sym (ap (filter_map missing_key) all)
