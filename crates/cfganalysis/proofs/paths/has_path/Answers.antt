use Rattle.std.proofs.Common.{◌∙◌, false, get_or, length, sym, ap, subst}
use Rattle.std.proofs.lemmas.List.{length-replicate}
use Rattle.derivation.specs.Grammar.{HasProduction}
use Rattle.derivation.specs.Path.{Refers}
use Rattle.search.specs.Reachable.{Reaches, SearchState}
use Rattle.search.proofs.Reaching.{begun}
use Rattle.cfganalysis.proofs.References.{path_to_reachable, reachable_by_path}
use Rattle.cfganalysis.proofs.paths.has_path.Goals as goal

pub reach_from-requires-clause-nodes : goal.reach_from-requires-clause-nodes
reach_from-requires-clause-nodes g c =
    ap (λ (x : SearchState). length x.reachable) c.in_ok-search.ensures ∙ length-replicate c.from.result false ∙ c.from.ensures ∙ c.rules_len.ensures.value

pub go_on-requires-clause-nodes : goal.go_on-requires-clause-nodes
go_on-requires-clause-nodes g c =
    (begun _ _ _ _ c.in_ok-search.ensures c.in_ok-reach_from.ensures).shape ∙ c.from.ensures ∙ c.rules_len.ensures.value

pub go_on-requires-clause-all_wait : goal.go_on-requires-clause-all_wait
go_on-requires-clause-all_wait g c = (begun _ _ _ _ c.in_ok-search.ensures c.in_ok-reach_from.ensures).all_wait

pub returns : goal.returns
returns g c =
    let P = HasProduction (g.T.Tables.grammar c.args.tables.now) in
    let from = g.S.Storage.number c.args.from.0 in
    let start = subst (λ a. Reaches (Refers P a) c.in_ok-search.search c.reach_from.new.search) c.from-2.ensures c.in_ok-reach_from.ensures in
    let b = begun c.from.result (Refers P from) _ _ c.in_ok-search.ensures start in
    let bit = c.is_reachable.ensures ∙ ap (λ n. get_or c.go_on.new.self.reachable n false) c.from-3.ensures in
    let reachable = c.in_ok-go_on.ensures.reachable (g.S.Storage.number c.args.to.0) in (
      (λ h. path_to_reachable P from _ (λ q k. (b.seeds q).0 k) (reachable.0 (sym bit ∙ h))),
      (λ h. bit ∙ reachable.1 (reachable_by_path P from _ (λ q k. (b.seeds q).1 k) h)),
    )
