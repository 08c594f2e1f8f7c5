use Rattle.std.proofs.Common.{◌+◌, inl, inr, arith, ap, true, false, refl, sym, ◌∙◌, true≢false}
use Rattle.lr_conflicts.specs.Examples.{ends}
use Rattle.lr_conflicts.specs.Inner.Searches.{setting}
use Rattle.lr_conflicts.specs.Inner.Ways.{Begins, Enters, any, last}
use Rattle.lr_conflicts.proofs.Found.{finds_as, finds_then}
use Rattle.lr_conflicts.proofs.Shown.{begin_shown}
use Rattle.lr_conflicts.proofs.examples.ways.Ways.begin.Goals as goal

pub enter-requires-clause-next : goal.enter-requires-clause-next
enter-requires-clause-next c = let w = setting c.args.self.now in (begin_shown w, (λ no. absurd (true≢false (sym no))))

pub enter-requires-then-from-self-clause-next : goal.enter-requires-then-from-self-clause-next
enter-requires-then-from-self-clause-next c =
    let w = setting c.args.self.now in
    let e = c.eof_token_idx.ensures.value in
    let f = c.from.ensures in
    let k = c.if-from-self.true in
    (begin_shown w, (λ yes. ends refl (ap (λ n. n + 1) (sym k ∙ f) ∙ e)))

pub returns-in_ok-enter-2 : goal.returns-in_ok-enter-2
returns-in_ok-enter-2 c =
    let w = setting c.args.self.now in
    finds_then w (Enters w 0 0 false) (Enters w 0 0 true) (Begins w) _ _ _
    (λ n h. elim h [ any e ↦ inl e | last is e ↦ inr e ]) c.in_ok-enter.ensures c.in_ok-enter-2.ensures

pub returns-else-from-self : goal.returns-else-from-self
returns-else-from-self c =
    let w = setting c.args.self.now in
    finds_as w (Enters w 0 0 false) (Begins w) _ _
    (λ n h. elim h [ any e ↦ e | last is e ↦ absurd (c.if-from-self.false (omega (arith, is, c.eof_token_idx.ensures.value, c.from.ensures))) ])
    c.in_ok-enter.ensures
