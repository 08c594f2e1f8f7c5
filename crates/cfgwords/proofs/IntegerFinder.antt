-- `integer_of` finds the integers, and nothing else; each leaves a shorter rest. `parse` reads the digits of one.
use Rattle.std.proofs.Common.{◌≡◌, ℕ, ◌<◌, ◌^◌, nat_lt, Bool, true, false, cond, List, length, Option, Some, None, Result, Ok, Err, refl, sym, ap, subst, ◌∙◌, arith, rules, length-append, ltb-true, lt-ltb}
use Rattle.std.specs.List.{list_all}
use Rattle.std.specs.Option.{option_and_then}
use Rattle.std.specs.Result.{OkIff}
use Rattle.std.specs.Str.Parse.{digits_value, ParsesUnsigned}
use Rattle.std.proofs.lemmas.Bool.{false_from_ne_true}
use Rattle.std.proofs.lemmas.Option.{some_pair_parts}
use Rattle.std.proofs.lemmas.Str.Parse.{IsNumeralModel, numerals_by_value, parse_digits}
use Rattle.lemmas.proofs.Options.{chosen}
use Rattle.constructs.specs.WordKind.{IsFinder, IsShorter}
use Rattle.cfgwords.specs.declared.bytes.ByteClass.TheVariants as bytes
use Rattle.cfgwords.specs.Bytes.{holds}
use Rattle.cfgwords.specs.FileWords.{IsRunFrom, IsInteger, run_from, number_of, integer_of}
use Rattle.cfgwords.proofs.NameFinders.{run_from_finder, run_from_shorter}

digits_found : (text : List ℕ) (o : Option (List ℕ × List ℕ)) (number : ℕ) (rest : List ℕ) → run_from bytes.Digit bytes.Digit text ≡ o
    → option_and_then number_of o ≡ Some (number, rest) → IsInteger text number rest
digits_found text None number rest run e = cc
digits_found text (Some (digits, left)) number rest run e =
    let c = chosen (nat_lt (digits_value 10 digits) (2 ^ 64)) (Some (digits_value 10 digits, left)) (number, rest) e in
    let same = some_pair_parts _ _ _ _ c.1 in
    record {
      digits = digits;
      run = (run_from_finder bytes.Digit bytes.Digit).sound text digits rest (run ∙ ap (λ left. Some (digits, left)) same.1);
      writes = same.0;
      fits = subst (λ n. n < 2 ^ 64) same.0 (ltb-true _ _ c.0);
    }

pub integer_finder : IsFinder IsInteger integer_of
unfolding integer_of
integer_finder = record {
  sound = λ text number rest e. digits_found text (run_from bytes.Digit bytes.Digit text) number rest refl e;
  only = λ text number rest is.
      ap (option_and_then number_of) ((run_from_finder bytes.Digit bytes.Digit).only text is.digits rest is.run)
      ∙ ap (λ n. cond (nat_lt n (2 ^ 64)) (Some (n, rest)) None) is.writes ∙ ap (λ b. cond b (Some (number, rest)) None) (lt-ltb _ _ is.fits);
}

pub integer_shorter : IsShorter integer_of
integer_shorter = record {
  less = λ text number rest e.
      let is = integer_finder.sound text number rest e in
      (run_from_shorter bytes.Digit bytes.Digit (λ b h. h)).less text is.digits rest ((run_from_finder bytes.Digit bytes.Digit).only text is.digits rest is.run);
}

-- digits, as `parse` accepts them
pub digits_model : IsNumeralModel (λ ds. list_all (holds bytes.Digit) ds ≡ true) (digits_value 10)
digits_model = numerals_by_value _ (search rules)

-- what `parse` makes of the digits of a run
module _ (text digits rest : List ℕ) (run : run_from bytes.Digit bytes.Digit text ≡ Some (digits, rest)) where
  is_run : IsRunFrom bytes.Digit bytes.Digit text digits rest
  is_run = (run_from_finder bytes.Digit bytes.Digit).sound text digits rest run

  parsed : {E : Type 0} (r : Result ℕ E) → ParsesUnsigned 64 10 digits r → OkIff r ((0 < length digits) × (digits_value 10 digits < 2 ^ 64)) (digits_value 10 digits)
  parsed r h = parse_digits digits_model 64 digits r h is_run.run.passes

  found : (b : Bool) → nat_lt (digits_value 10 digits) (2 ^ 64) ≡ b → integer_of text ≡ cond b (Some (digits_value 10 digits, rest)) None
  unfolding integer_of
  found b e = ap (option_and_then number_of) run ∙ ap (λ b. cond b (Some (digits_value 10 digits, rest)) None) e

  pub number_parsed : {E : Type 0} (r : Result ℕ E) → ParsesUnsigned 64 10 digits r → (number : ℕ) → r ≡ Ok number → Some (number, rest) ≡ integer_of text
  number_parsed r h number e =
      let is_ok = parsed r h in
      let is = rw e at is_ok in
      ap (λ n. Some (n, rest)) is.1 ∙ sym (found true (lt-ltb _ _ is.0.1))

  pub number_refused : {E : Type 0} (r : Result ℕ E) → ParsesUnsigned 64 10 digits r → (error : E) → r ≡ Err error → None ≡ integer_of text
  number_refused r h error e =
      let less = (run_from_shorter bytes.Digit bytes.Digit (λ b h. h)).less text digits rest run in
      let some : 0 < length digits = omega (arith, less, ap length is_run.run.whole, length-append digits rest) in
      let is_err = parsed r h in
      let none = rw e at is_err in
      sym (found false (false_from_ne_true _ (λ fits. none (some, ltb-true _ _ fits))))
