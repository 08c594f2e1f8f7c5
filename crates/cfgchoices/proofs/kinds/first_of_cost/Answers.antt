use Rattle.std.proofs.Common.{◌≡◌, ◌++◌, ◌∷◌, ℕ, [], inl, inr, Some, Contains, length, map, take, arith, sym, ap, subst, ◌∙◌}
use Rattle.std.proofs.lemmas.List.{length-map, take_all, take_more}
use Rattle.std.proofs.lemmas.List.Elements.{Contains-get_or, Contains-push_cases}
use Rattle.derivation.specs.Grammar.{Rule}
use Rattle.cfgtables.specs.NumberedSymbols.{sym_of}
use Rattle.cfgtables.proofs.Slices.{mapped_within, mapped_at, mapped_all}
use Rattle.derivation.specs.CostLists.{IsListed, rule_cost}
use Rattle.lemmas.proofs.Contained.{contains_none}
use Rattle.cfgchoices.proofs.kinds.first_of_cost.Goals as goal

pub rule_of_cost-requires : goal.rule_of_cost-requires
rule_of_cost-requires g c = (
  c.requires.0,
  mapped_all (sym_of g.S.Storage.number) _ _ _ c.symbol-item.is (omega (arith, c.loop-symbol-test.true)) (IsListed (length c.args.least.now) c.requires.0) c.requires.1,
)

pub loop-symbol-init : goal.loop-symbol-init
loop-symbol-init g c = λ q h k. contains_none (Rule q) h

pub loop-symbol-preserved : goal.loop-symbol-preserved
loop-symbol-preserved g c = λ q h k.
    let number = g.S.Storage.number in
    let a = map (sym_of number) c.args.symbols.now in
    let i = c.loop-symbol.symbol-index in
    let s = sym_of number c.symbol-item.result in
    let lt = mapped_within (sym_of number) _ _ _ c.symbol-item.is c.loop-symbol-test.true in
    let more = take_more a i s lt ∙ ap (λ y. take i a ++ (y ∷ [])) (sym (mapped_at (sym_of number) _ _ _ c.symbol-item.is c.loop-symbol-test.true)) in
    elim (Contains-push_cases (take i a) s (Rule q) (subst (λ l. Contains l (Rule q)) more h)) [
      | inl before ↦ c.loop-symbol.invariant q before k
      | inr last ↦ c.in_default.ensures q last k
    ]

pub returns-in-Some : goal.returns-in-Some
returns-in-Some g c =
    let number = g.S.Storage.number in
    let a = map (sym_of number) c.args.symbols.now in
    let lt = mapped_within (sym_of number) _ _ _ c.symbol-item.is c.loop-symbol-test.true in (
      subst (Contains a) (sym (mapped_at (sym_of number) _ _ _ c.symbol-item.is c.loop-symbol-test.true) ∙ c.in-Some.ensures.0)
          (Contains-get_or a c.loop-symbol.symbol-index (sym_of number c.symbol-item.result) lt),
      c.in-Some.ensures.1,
    )

pub returns : goal.returns
returns g c = subst (λ l. (q : ℕ) → Contains l (Rule q) → rule_cost c.args.least.now q ≡ Some c.args.cost → ⊥)
    (take_all c.loop-symbol.symbol-index (map (sym_of g.S.Storage.number) c.args.symbols.now) (simp length-map (omega (arith, c.loop-symbol-test.false, c.loop-symbol.auto.symbol-index-end))))
    c.loop-symbol.invariant
