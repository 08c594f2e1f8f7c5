use Rattle.std.proofs.Common.{[], ◌∷◌, ◌++◌, All, Contains, ap, sym, subst, ◌∙◌, append-nil, append_assoc}
use Rattle.std.specs.Prelude.{option_map, string_bytes}
use Rattle.std.proofs.lemmas.List.{nil_from_length}
use Rattle.std.proofs.lemmas.List.Elements.{Contains-append_left, Contains-append_right}
use Rattle.cfgrammar.proofs.Contained.{contains_first, contains_later}
use Rattle.text_findings.specs.Finding.{ShownFinding}
use Rattle.bison_findings.specs.Conflicts.{AreGrouped, BeginsOther, IsLike, most_examples}
use Rattle.bison_findings.specs.Conflicts.AreGrouped.{none, group}
use Rattle.bison_findings.proofs.Within.{among_within}
use Rattle.bison_findings.proofs.grouped.push_groups.Goals as goal

pub note_on-requires-clause-clash : goal.note_on-requires-clause-clash
note_on-requires-clause-clash c =
    let first = c.in-Some.first.now in
    c.loop-first.invariant.among first (subst (λ rest. Contains rest first) (sym c.in-Some.ensures.cases.0) (contains_first first c.in-Some.others.now))

pub clash_finding-requires-clause-first : goal.clash_finding-requires-clause-first
clash_finding-requires-clause-first c =
    let first = c.in-Some.first.now in
    among_within c.args.grammar.now c.args.conflicts.now c.requires.tables first
    (c.loop-first.invariant.among first (subst (λ rest. Contains rest first) (sym c.in-Some.ensures.cases.0) (contains_first first c.in-Some.others.now)))

pub clash_finding-requires-clause-same : goal.clash_finding-requires-clause-same
clash_finding-requires-clause-same c = λ clash h.
    let first = c.in-Some.first.now in
    let parts = c.in-Some.ensures.cases.0 ∙ ap (λ others. first ∷ others) c.split_at.ensures.by_index.0 in
    among_within c.args.grammar.now c.args.conflicts.now c.requires.tables clash (c.loop-first.invariant.among clash
    (subst (λ rest. Contains rest clash) (sym parts) (contains_later first clash _ (Contains-append_left c.split_at.result.0.now c.split_at.result.1.now clash h))))

pub loop-first-preserved : goal.loop-first-preserved
loop-first-preserved c =
    let g = c.args.grammar.now in
    let x = c.args.conflicts.now.lookaheads.automaton in
    let conflicts = c.args.conflicts.now.conflicts in
    let before = c.loop-first.invariant in
    let first = c.in-Some.first.now in
    let same = c.split_at.result.0.now in
    let next = c.split_at.result.1.now in
    let note = option_map string_bytes c.in_ok-note.note in
    let finding = c.with_hint.result in
    let is = c.with_hint.ensures ∙ ap (λ (f : ShownFinding). record f { hint = note }) c.in_ok-clash_finding.ensures in
    let parts = c.in-Some.ensures.cases.0 ∙ ap (λ others. first ∷ others) c.split_at.ensures.by_index.0 in
    let alike = subst (All (IsLike first)) (sym c.split_at.ensures.front) c.count_like.ensures.same in
    let ends = subst (BeginsOther first) (sym c.split_at.ensures.back) c.count_like.ensures.other in
    record {
      among = λ clash h. before.among clash (subst (λ rest. Contains rest clash) (sym parts) (contains_later first clash _ (Contains-append_right same next clash h)));
      grouped = before.grouped ++ finding ∷ [];
      added = c.in_ok-push.ensures.items ∙ ap (λ t. t ++ finding ∷ []) before.added ∙ append_assoc c.args.all.now.items before.grouped (finding ∷ []);
      completed = λ later are. subst (AreGrouped g x conflicts most_examples c.args.clashes.now) (sym (append_assoc before.grouped (finding ∷ []) later))
          (before.completed (finding ∷ later)
          (subst (λ rest. AreGrouped g x conflicts c.loop-first.left rest (finding ∷ later)) (sym parts)
          (subst (λ f. AreGrouped g x conflicts c.loop-first.left (first ∷ (same ++ next)) (f ∷ later)) (sym is)
          (group first same next alike ends note c.in_ok-note.ensures (subst (λ n. AreGrouped g x conflicts n next later) c.saturating_sub-left.ensures are)))));
    }

pub returns : goal.returns
returns c =
    let g = c.args.grammar.now in
    let x = c.args.conflicts.now.lookaheads.automaton in
    let conflicts = c.args.conflicts.now.conflicts in
    let before = c.loop-first.invariant in
    let ended = nil_from_length c.loop-first.rest.now c.in_default.ensures.cases in (
      before.grouped,
      subst (AreGrouped g x conflicts most_examples c.args.clashes.now) (append-nil before.grouped)
          (before.completed [] (subst (λ rest. AreGrouped g x conflicts c.loop-first.left rest []) (sym ended) none)),
      before.added,
    )
