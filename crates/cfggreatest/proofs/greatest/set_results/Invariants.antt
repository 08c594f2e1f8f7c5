use Rattle.std.proofs.Common.{◌≡◌, ℕ, Contains, Err, get_or, length, take}
use Rattle.derivation.specs.declared.errors.CostError.TheVariants.{NoSentence}
use Rattle.cfggreatest.proofs.greatest.set_results.Given as goal

abbrev pub invariant-loop-rule : goal.invariant-loop-rule
invariant-loop-rule l = record {
  len : length l.results.items ≡ length l.fn.results.items;
  set : (r : ℕ) → Contains (take l.rule-index l.rules) r → get_or l.results.items r (Err NoSentence) ≡ l.value;
  rest : (r : ℕ) → (Contains (take l.rule-index l.rules) r → ⊥) → get_or l.results.items r (Err NoSentence) ≡ get_or l.fn.results.items r (Err NoSentence);
}
