use Rattle.std.proofs.Common.{◌≡◌, ℕ, [], ◌∷◌, ◌++◌, Option, None, map, replicate, ap, ◌∙◌, arith}
use Rattle.std.proofs.lemmas.List.{map-append}
use Rattle.cfgleast.specs.Certificate.{choice_of}
use Rattle.lemmas.proofs.Popped.{replicate_more}
use Rattle.cfgleast.proofs.settle.no_choices.Goals as goal

pub loop-rule-init : goal.loop-rule-init
loop-rule-init g c = ap (map (choice_of g.S.Storage.number)) c.new-choices.ensures.items

pub loop-rule-preserved : goal.loop-rule-preserved
loop-rule-preserved g c =
    let show = choice_of g.S.Storage.number in
    let none : Option (ℕ × ℕ) = None in
    ap (map show) c.in_ok-push.ensures.items ∙ map-append show c.loop-rule.choices.items (None ∷ []) ∙ ap (λ l. l ++ none ∷ []) c.loop-rule.invariant
    ∙ replicate_more none c.loop-rule._rule

pub returns : goal.returns
returns g c =
    let none : Option (ℕ × ℕ) = None in
    let end : c.loop-rule._rule ≡ c.args.rules = omega (arith, c.loop-rule-test.false, c.loop-rule.auto._rule-end) in
    c.loop-rule.invariant ∙ ap (λ n. replicate n none) end
