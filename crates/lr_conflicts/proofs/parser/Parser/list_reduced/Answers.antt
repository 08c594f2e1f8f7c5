use Rattle.std.proofs.Common.{◌≡◌, ◌+◌, ◌<◌, ◌≤◌, ℕ, List, Global, Vec, ap, get_or, length, subst, sym, take, ◌∙◌, true≢false}
use Rattle.std.proofs.lemmas.List.{take_all}
use Rattle.lr_conflicts.specs.Inner.Choices.{items_in}
use Rattle.lr_conflicts.specs.declared.parser.Reduction.{Reduction}
use Rattle.lr_conflicts.proofs.Taken.{AreKept, kept_all, kept_more, kept_skip}
use Rattle.lr_conflicts.proofs.parser.Parser.list_reduced.Goals as goal
use Rattle.lr_conflicts.proofs.parser.Parser.list_reduced.Goals.{then-is_reduced+in_ok-push, else-is_reduced}

pub loop-reduction-preserved : goal.loop-reduction-preserved
loop-reduction-preserved c =
    let x = c.args.self.now in
    let rs = c.args.state.now.reductions.items in
    let i = c.loop-reduction.reduction-index in
    let r = c.reduction-item.result in
    let same = c.deref-reduction-items.ensures.value in
    let within = subst (λ (l : List Reduction). i < length l) same c.loop-reduction-test.true in
    let is = subst (λ (l : List Reduction). r ≡ get_or l i r) same c.reduction-item.is in
    let items = items_in x c.args.state.now.number in
    let productions = c.loop-reduction.reduced.items in
    elim c.if-is_reduced.branch [
      | then-is_reduced+in_ok-push w ↦ kept_more x.grammar.now x.levels.now items c.args.turn c.requires.turn rs c.requires.state.reductions i r within is productions
          c.loop-reduction.invariant (c.is_reduced.ensures.0 w.if-is_reduced.true) c.if-is_reduced.reduced.items
          (ap (λ (v : Vec ℕ Global). v.items) w.reduced-is ∙ w.in_ok-push.ensures.items)
      | else-is_reduced w ↦ subst (λ (v : Vec ℕ Global). AreKept x.grammar.now x.levels.now c.args.turn (take (i + 1) rs) v.items) (sym w.reduced-is)
          (kept_skip x.grammar.now x.levels.now items c.args.turn c.requires.turn rs c.requires.state.reductions i r within is productions c.loop-reduction.invariant
          (λ kept. true≢false (sym (c.is_reduced.ensures.1 kept) ∙ w.if-is_reduced.false)))
    ]

pub returns : goal.returns
returns c =
    let x = c.args.self.now in
    let rs = c.args.state.now.reductions.items in
    let i = c.loop-reduction.reduction-index in
    let most = subst (λ (l : List Reduction). length l ≤ i) c.deref-reduction-items.ensures.value c.loop-reduction-test.false in
    kept_all x.grammar.now x.levels.now (items_in x c.args.state.now.number) c.args.turn c.requires.turn rs c.requires.state.reductions c.loop-reduction.reduced.items
    (subst (λ l. AreKept x.grammar.now x.levels.now c.args.turn l c.loop-reduction.reduced.items) (take_all i rs most) c.loop-reduction.invariant)
