use Rattle.search.proofs.Reaching.{begun, reachable_as}
use Rattle.search.proofs.searching.Search+Bits.from_root.Goals as goal

pub go_on-requires-clause-all_wait : goal.go_on-requires-clause-all_wait
go_on-requires-clause-all_wait g c = (begun _ _ _ _ c.in_ok-search.ensures c.in_ok-reach_found.ensures).all_wait

pub returns-clause-reachable : goal.returns-clause-reachable
returns-clause-reachable g c n =
    let seeds = (begun _ _ _ _ c.in_ok-search.ensures c.in_ok-reach_found.ensures).seeds in
    let reachable = c.in_ok-go_on.ensures.reachable n in (
      (λ h. reachable_as (λ n k. (seeds n).0 k) (reachable.0 h)),
      (λ h. reachable.1 (reachable_as (λ n k. (seeds n).1 k) h)),
    )
