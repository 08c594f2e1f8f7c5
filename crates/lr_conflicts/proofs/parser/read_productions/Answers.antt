use Rattle.std.proofs.Common.{◌↔◌, ◌+◌, ℕ, Global, Vec, Contains, ap, get_or, subst, sym, take, ◌∙◌, true≢false}
use Rattle.std.specs.List.Sorted.{IsStrictlyIncreasing}
use Rattle.std.proofs.lemmas.List.{get_or_default, take_all}
use Rattle.std.proofs.lemmas.List.Filters.{dedup_is}
use Rattle.std.proofs.lemmas.Map.Keys.{IsStrictlyIncreasing-dedup}
use Rattle.lr_states.specs.Viable.{item_at}
use Rattle.lr_conflicts.proofs.Read.{IsReadIn, once_is, read_more, read_skip}
use Rattle.lr_conflicts.proofs.parser.read_productions.Goals as goal
use Rattle.lr_conflicts.proofs.parser.read_productions.Goals.{then-is_reducible+in_ok-push, else-is_reducible}

pub loop-item-preserved : goal.loop-item-preserved
loop-item-preserved c =
    let g = c.args.grammar.now in
    let items = c.args.items.now in
    let i = c.loop-item.item-index in
    let within = c.loop-item-test.true in
    let item = get_or items i (item_at 0 0) in
    let at = get_or_default items i (item_at 0 0) item within in
    let productions = c.loop-item.productions.items in
    elim c.if-is_reducible.branch [
      | then-is_reducible+in_ok-push w ↦ read_more g items i item within at productions c.loop-item.invariant (c.is_reducible.ensures.0 w.if-is_reducible.true)
          c.if-is_reducible.productions.items (ap (λ (v : Vec ℕ Global). v.items) w.productions-is ∙ w.in_ok-push.ensures.items)
      | else-is_reducible w ↦ subst (λ (v : Vec ℕ Global). (p : ℕ) → Contains v.items p ↔ IsReadIn g (take (i + 1) items) p) (sym w.productions-is)
          (read_skip g items i item within at productions c.loop-item.invariant (λ can. true≢false (sym (c.is_reducible.ensures.1 can) ∙ w.if-is_reducible.false)))
    ]

pub returns-clause-all : goal.returns-clause-all
returns-clause-all c = λ p.
    let items = c.args.items.now in
    let all = subst (λ l. Contains c.loop-item.productions.items p ↔ IsReadIn c.args.grammar.now l p) (take_all c.loop-item.item-index items c.loop-item-test.false)
    (c.loop-item.invariant p) in
    let once = once_is c.loop-item.productions.items c.sort_unstable.new.self.items c.dedup.new.self.items c.sort_unstable.ensures.permutation
    (dedup_is _ _ _ c.dedup.ensures.filtered) p in
    ((λ h. all.0 (once.0 h)), (λ h. once.1 (all.1 h)))

pub returns-clause-ascending : goal.returns-clause-ascending
returns-clause-ascending c = subst IsStrictlyIncreasing (sym (dedup_is _ _ _ c.dedup.ensures.filtered))
    (IsStrictlyIncreasing-dedup c.sort_unstable.new.self.items c.sort_unstable.ensures.sorted)
