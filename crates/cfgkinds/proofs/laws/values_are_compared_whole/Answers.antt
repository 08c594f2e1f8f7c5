use Rattle.std.proofs.Common.{◌∙◌, ◌&&◌, ap, refl, true, false}
use Rattle.cfgkinds.specs.Values.{namespaced_view}
use Rattle.cfgkinds.specs.SameValues.{same_located}
use Rattle.cfgkinds.specs.declared.value.Value.TheVariants as values
use Rattle.cfgkinds.proofs.SameLemmas.{same_both, same_namespaces}
use Rattle.cfgkinds.proofs.laws.values_are_compared_whole.Goals as goal

pub returns-clause-name : goal.returns-clause-name
returns-clause-name g c a b =
    let eq = g.T.PartialEq.eq in
    ap (λ same. same && same_located eq (namespaced_view a).member (namespaced_view b).member) (same_namespaces eq a.namespace b.namespace)
    ∙ same_both eq (namespaced_view a) (namespaced_view b)

pub returns-clause-value : goal.returns-clause-value
returns-clause-value g c (values.Flag true p) (values.Flag true q) = refl
returns-clause-value g c (values.Flag false p) (values.Flag false q) = refl
returns-clause-value g c (values.Setting s) (values.Setting t) = refl
returns-clause-value g c a b = refl

pub returns-clause-entry : goal.returns-clause-entry
returns-clause-entry g c a b = λ i. g.T.PartialEq.eq a.0 b.0 && returns-clause-value g c a.1 b.1 i
