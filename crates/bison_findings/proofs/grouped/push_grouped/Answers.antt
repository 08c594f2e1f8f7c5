use Rattle.std.proofs.Common.{inl, inr, Bool, true, false, cond, List, [], ◌∷◌, Contains, subst, ◌∙◌}
use Rattle.std.specs.List.{filter}
use Rattle.std.proofs.lemmas.Result.{on_ok_weaker}
use Rattle.cfgrammar.proofs.Contained.{contains_cases, contains_first, contains_later}
use Rattle.lr_conflicts.specs.declared.clashes.Clash.{Clash}
use Rattle.bison_findings.specs.Conflicts.{AreGrouped, most_examples}
use Rattle.bison_findings.proofs.grouped.push_grouped.Goals as goal

contains_unfiltered : (test : Clash → Bool) (xs : List Clash) (x : Clash) → Contains (filter test xs) x → Contains xs x
contains_unfiltered test [] x h = h
contains_unfiltered test (y ∷ ys) x h = go (contains_unfiltered test ys x) (test y) h
  where
    go : (Contains (filter test ys) x → Contains ys x) → (b : Bool) → Contains (cond b (y ∷ filter test ys) (filter test ys)) x → Contains (y ∷ ys) x
    go below true among = elim (contains_cases y x (filter test ys) among) [
      | inl same ↦ subst (Contains (y ∷ ys)) same (contains_first y ys)
      | inr later ↦ contains_later y x ys (below later)
    ]
    go below false later = contains_later y x ys (below later)

pub push_groups-requires-clause-among : goal.push_groups-requires-clause-among
push_groups-requires-clause-among c = λ clash h.
    let has = λ (clash : Clash). cond clash.shifts c.args.listing.shift_reduce c.args.listing.reduce_reduce in
    c.in_ok-clashes.ensures.each clash (contains_unfiltered has c.in_ok-clashes.clashes.items clash
    (subst (λ listed. Contains listed clash) (c.deref-2.ensures.value ∙ c.in_ok-listed.ensures ∙ (λ i. filter has (c.deref.ensures.value i))) h))

pub returns : goal.returns
returns c =
    let x = c.args.conflicts.now.lookaheads.automaton in
    let has = λ (clash : Clash). cond clash.shifts c.args.listing.shift_reduce c.args.listing.reduce_reduce in
    on_ok_weaker c.push_groups.result
    (λ h. (
      c.in_ok-clashes.clashes.items,
      c.in_ok-clashes.ensures,
      h.0,
      subst (λ listed. AreGrouped c.args.grammar.now x c.args.conflicts.now.conflicts most_examples listed h.0)
          (c.deref-2.ensures.value ∙ c.in_ok-listed.ensures ∙ (λ i. filter has (c.deref.ensures.value i))) h.1,
      h.2,
    ))
    c.push_groups.ensures
