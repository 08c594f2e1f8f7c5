use Rattle.std.proofs.Common.{◌<◌, Contains, length, sym, subst}
use Rattle.std.proofs.lemmas.List.Elements.{Contains-push}
use Rattle.search.specs.Reachable.{SearchState}
use Rattle.search.proofs.searching.Search+Bits.forget.Goals as goal

pub set-requires : goal.set-requires
set-requires c =
    let node = c.in_ok-node.node in
    subst (λ (x : SearchState). node < length x.reachable) (sym c.self.view_is)
    (c.requires node (subst (λ (x : SearchState). Contains x.waiting node) c.self.view_is
    (subst (λ l. Contains l node) (sym c.in_ok-node.ensures.items) (Contains-push c.pop.new.self.items node))))
