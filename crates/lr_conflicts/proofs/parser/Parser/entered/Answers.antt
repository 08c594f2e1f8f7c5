use Rattle.std.proofs.Common.{◌≡◌, ◌<◌, IsTrue, ap, arith, false, get_or, length, subst, sym, ◌∙◌, true≢false}
use Rattle.search.specs.Reachable.{unsearched}
use Rattle.search.proofs.Reaching.{Searching, begun, less_to_do, popped_within, reaches_as, reaches_known, search_begins, search_ends, search_goes_on}
use Rattle.cfgrammar.proofs.Elements.{within_from_get_or}
use Rattle.lr_states.specs.Automaton.{Automaton}
use Rattle.lr_conflicts.specs.Conflicts.{Goes}
use Rattle.lr_conflicts.proofs.Gone.{entered_is, is_entered}
use Rattle.lr_conflicts.proofs.parser.Parser.entered.Goals as goal
use Rattle.lr_conflicts.proofs.parser.Parser.entered.Goals.{then-states-gt0+in_ok-reach, else-states-gt0}

pub loop-state-init : goal.loop-state-init
loop-state-init c =
    let x = c.args.self.now in
    let nodes = length x.lookaheads.now.automaton.states in
    let count : c.len-states.result ≡ nodes = c.len-states.ensures ∙ ap (λ (a : Automaton). length a.states) c.states.ensures in
    let none : c.in_ok-search.search ≡ unsearched nodes = c.in_ok-search.ensures ∙ ap unsearched count in
    elim c.if-states-gt0.branch [
      | then-states-gt0+in_ok-reach w ↦
          let some : 0 < nodes = omega (arith, count, w.if-states-gt0.true) in
          subst (Searching nodes (λ n. (n ≡ 0) × (0 < nodes)) (Goes x.grammar.now x.levels.now x.lookaheads.now.automaton) (λ _. Unit {0})) (sym w.search-is)
          (search_begins nodes _ _ _ w.reach.new.self (begun nodes (λ n. (n ≡ 0) × (0 < nodes)) c.in_ok-search.search w.reach.new.self none
          (reaches_as (λ n. n ≡ 0) (λ n. (n ≡ 0) × (0 < nodes)) _ _ (λ n e. (e, some)) (λ n h. h.0) w.in_ok-reach.ensures)))
      | else-states-gt0 w ↦ subst (Searching nodes (λ n. (n ≡ 0) × (0 < nodes)) (Goes x.grammar.now x.levels.now x.lookaheads.now.automaton) (λ _. Unit {0})) (sym w.search-is)
          (search_begins nodes _ _ _ c.in_ok-search.search (begun nodes (λ n. (n ≡ 0) × (0 < nodes)) c.in_ok-search.search c.in_ok-search.search none
          (reaches_known _ c.in_ok-search.search (λ n h. let some = h.1 in absurd (omega (arith, count, some, w.if-states-gt0.false))))))
    ]

pub reach_from-requires-clause-number : goal.reach_from-requires-clause-number
reach_from-requires-clause-number c = popped_within _ _ _ _ _ _ c.next.new.self c.loop-state.invariant c.in-Some.ensures.waiting

pub loop-state-smaller : goal.loop-state-smaller
loop-state-smaller c = less_to_do _ _ _ _ _ c.in-Some.ensures.reachable c.in-Some.ensures.waiting c.in_ok-reach_from.ensures

pub loop-state-preserved : goal.loop-state-preserved
loop-state-preserved c = search_goes_on _ _ _ _ _ _ _ c.loop-state.invariant c.in-Some.ensures.waiting _ _ (λ n h. h) tt c.in-Some.ensures.reachable c.in_ok-reach_from.ensures

pub returns : goal.returns
returns c = λ q.
    let x = c.args.self.now in
    let same = c.in_default.ensures.reachable in (
      (λ h.
          let there : IsTrue (get_or c.loop-state.search.reachable q false) = subst (λ l. IsTrue (get_or l q false)) same h in
          entered_is x.grammar.now x.levels.now x.lookaheads.now c.requires q (c.loop-state.invariant.sound q there)
          (let within = within_from_get_or c.loop-state.search.reachable q false (λ off. true≢false (sym there ∙ off)) in omega (arith, within, c.loop-state.invariant.shape))),
      (λ e. subst (λ l. IsTrue (get_or l q false)) (sym same)
          (search_ends _ _ _ _ _ c.loop-state.invariant c.in_default.ensures.waiting (is_entered x.grammar.now x.levels.now x.lookaheads.now c.requires q e)).0),
    )
