use Rattle.std.proofs.Common.{◌++◌, ◌∷◌, [], Some, true, not, slice_get, slice_set, sym, ap, ◌∙◌}
use Rattle.search.specs.Reachable.{SearchState}
use Rattle.search.proofs.Reaching.{reaches_new, reaches_again}
use Rattle.search.proofs.searching.Search.reach.Goals as goal

pub returns-in_ok-push : goal.returns-in_ok-push
returns-in_ok-push g c =
    let node = c.args.node in
    let is = c.self.view_is in
    reaches_new c.args.self.now node c.requires _ (c.in_ok-mark.ensures.bits ∙ ap (λ (x : SearchState). slice_set x.reachable node true) is) _
    (ap (λ (x : SearchState). slice_get x.reachable node) (sym is) ∙ c.in_ok-mark.ensures.changed ∙ ap (λ b. Some (not b)) c.if-branch.true)
    (c.in_ok-push.ensures.items ∙ ap (λ (x : SearchState). x.waiting ++ node ∷ []) is)

pub returns-else-branch : goal.returns-else-branch
returns-else-branch g c =
    let node = c.args.node in
    let is = c.self.view_is in
    reaches_again c.args.self.now node c.requires _ (c.in_ok-mark.ensures.bits ∙ ap (λ (x : SearchState). slice_set x.reachable node true) is) _
    (ap (λ (x : SearchState). slice_get x.reachable node) (sym is) ∙ c.in_ok-mark.ensures.changed ∙ ap (λ b. Some (not b)) c.if-branch.false)
    (ap (λ (x : SearchState). x.waiting) is)
