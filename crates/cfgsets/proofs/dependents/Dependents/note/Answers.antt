use Rattle.std.proofs.Common.{◌≡◌, ◌+◌, refl, ap, slice_set, subst, ◌∙◌}
use Rattle.std.proofs.lemmas.List.{get_or_default}
use Rattle.cfgsets.specs.Inner.Links.{lists_of}
use Rattle.cfgsets.specs.Work.{Notes}
use Rattle.cfgsets.proofs.Linking.{are_linked, heads_long, notes_linked}
use Rattle.cfgsets.proofs.dependents.Dependents.note.Goals as goal

pub invariant_of-self-2 : goal.invariant_of-self-2
invariant_of-self-2 c =
    let lt = heads_long _ _ _ _ c.self.view_is c.requires in
    are_linked _ _ _ _ _ _ _ _ c.self.invariant lt
    (ap (λ n. record { production = c.args.production; next = n }) (c.index.ensures ∙ get_or_default c.self.inside.heads.items c.args.rule _ 0 lt))
    c.in_ok-push.ensures.items (c.len.ensures ∙ c.in_ok-push.ensures.len ∙ ap (λ n. n + 1) c.self.inside.links.ok.0) refl

pub returns : goal.returns
returns c =
    let lt = heads_long _ _ _ _ c.self.view_is c.requires in
    subst (λ l. Notes c.args.production (λ r. r ≡ c.args.rule) l
    (lists_of (slice_set c.self.inside.heads.items c.args.rule c.len.result) c.push.new.self.items)) c.self.view_is
    (notes_linked _ _ _ _ _ _ _ _ c.self.invariant lt
    (ap (λ n. record { production = c.args.production; next = n }) (c.index.ensures ∙ get_or_default c.self.inside.heads.items c.args.rule _ 0 lt))
    c.in_ok-push.ensures.items (c.len.ensures ∙ c.in_ok-push.ensures.len ∙ ap (λ n. n + 1) c.self.inside.links.ok.0) refl)
