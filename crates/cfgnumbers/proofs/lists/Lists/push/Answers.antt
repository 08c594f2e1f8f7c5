use Rattle.std.proofs.Common.{◌++◌, ◌∷◌, [], arith, ap, ◌∙◌}
use Rattle.cfgnumbers.proofs.ListsBetween.{pushed}
use Rattle.cfgnumbers.proofs.lists.Lists.push.Goals as goal

pub invariant_of-self-2 : goal.invariant_of-self-2
invariant_of-self-2 g c =
    (pushed c.self.inside.items.items c.args.list.now c.len.result (omega (arith, c.len.ensures, c.in_ok-extend_from_slice.ensures.len)) 0 c.self.inside.ends.items _ _ c.self.invariant
    c.in_ok-extend_from_slice.ensures.items (c.push_reserved.ensures.items ∙ ap (λ l. l ++ c.len.result ∷ []) c.in_ok-reserve.ensures.items)).1

pub returns-clause-ok : goal.returns-clause-ok
returns-clause-ok g c =
    (pushed c.self.inside.items.items c.args.list.now c.len.result (omega (arith, c.len.ensures, c.in_ok-extend_from_slice.ensures.len)) 0 c.self.inside.ends.items _ _ c.self.invariant
    c.in_ok-extend_from_slice.ensures.items (c.push_reserved.ensures.items ∙ ap (λ l. l ++ c.len.result ∷ []) c.in_ok-reserve.ensures.items)).0
    ∙ ap (λ l. l ++ c.args.list.now ∷ []) c.self.view_is
