-- What symbols weigh in a walk by choices: more in total than the symbols that replace them.
use Rattle.std.proofs.Common.{◌≡◌, ℕ, suc, ◌+◌, ◌*◌, ◌^◌, ◌<◌, ◌≤◌, List, [], ◌∷◌, ◌++◌, length, map, Option, Some, None, arith, ap, ◌∙◌}
use Rattle.std.specs.Prelude.{IfSome, sum_by}
use Rattle.std.proofs.Math.Nat.{add-mul, mul_comm, one-le-pow, pow-le-pow_right, pow-suc}
use Rattle.std.proofs.lemmas.Nat.{mul-le}
use Rattle.std.proofs.lemmas.List.{map-append}
use Rattle.std.proofs.lemmas.List.Elements.{All-weaker}
use Rattle.std.proofs.lemmas.List.Sums.{sum_by-append, sum_by_push, sum_by-le}
use Rattle.cfgindex.specs.declared.idxnewtype.Symbol.{Symbol}
use Rattle.cfgtables.specs.NumberedSymbols.{sym_of}
use Rattle.derivation.specs.Grammar.{Sym, Rule, Token}
use Rattle.cfgtables.specs.Openings.{nth_production}
use Rattle.cfgleast.specs.Certificate.{rule_choice}
use Rattle.cfgchoices.specs.FirstChoices.{IsBelowIfChosen, AreChosen}
use Rattle.cfgleast.specs.Generator.{CostTables}

-- if each production has fewer symbols than `many`
abbrev weight_by : ℕ → Option (ℕ × ℕ) → ℕ
weight_by many None = 1
weight_by many (Some choice) = many ^ suc choice.1

abbrev weight : CostTables → ℕ → Sym → ℕ
weight x many (Token t) = 1
weight x many (Rule q) = weight_by many (rule_choice x.choices q)

abbrev pub weigh : CostTables → ℕ → List Sym → ℕ
weigh x many a = sum_by (weight x many) a

module _ (x : CostTables) (many : ℕ) (some : 0 < many) where
  some_weight : (s : Sym) → 0 < weight x many s
  some_weight (Token t) = omega arith
  some_weight (Rule q) = go (rule_choice x.choices q)
    where
      go : (o : Option (ℕ × ℕ)) → 0 < weight_by many o
      go None = omega arith
      go (Some choice) = one-le-pow (suc choice.1) many some

  -- a symbol that is removed
  pub popped_lighter : {S : Type 0} (number : S → ℕ) (items rest : List (Symbol S)) (symbol : Symbol S) → items ≡ rest ++ symbol ∷ []
      → weigh x many (map (sym_of number) rest) < weigh x many (map (sym_of number) items)
  popped_lighter number items rest symbol e =
      let shown = ap (weigh x many) (ap (map (sym_of number)) e ∙ map-append (sym_of number) rest (symbol ∷ [])) in
      let whole = sum_by_push (weight x many) (map (sym_of number) rest) (sym_of number symbol) in
      omega (arith, some_weight (sym_of number symbol), shown, whole)

  low_weight : (m : ℕ) (s : Sym) → IsBelowIfChosen x.choices m s → weight x many s ≤ many ^ m
  low_weight m (Token t) low = one-le-pow m many some
  low_weight m (Rule q) low = go (rule_choice x.choices q) low
    where
      go : (o : Option (ℕ × ℕ)) → IfSome o (λ choice. choice.1 < m) → weight_by many o ≤ many ^ m
      go None low = one-le-pow m many some
      go (Some choice) low = pow-le-pow_right some low

  -- a rule that is replaced
  pub lighter_opened : (walks : AreChosen x) (rest : List Sym) (q p m : ℕ) → rule_choice x.choices q ≡ Some (p, m) → length (nth_production x.grammar p).symbols < many
      → weigh x many (rest ++ (nth_production x.grammar p).symbols) < weigh x many (rest ++ Rule q ∷ [])
  lighter_opened walks rest q p m choice short =
      let symbols = (nth_production x.grammar p).symbols in
      let sequence = sum_by-le (weight x many) (many ^ m) symbols (All-weaker (IsBelowIfChosen x.choices m) (λ s. weight x many s ≤ many ^ m) (low_weight m) symbols (walks.below q p m choice)) in
      let product = mul-le (length symbols + 1) (many ^ m) many (many ^ m) (omega (arith, short)) (omega arith) in
      let one = one-le-pow m many some in
      let more = add-mul (length symbols) 1 (many ^ m) in
      let here : weight x many (Rule q) ≡ many * many ^ m = ap (weight_by many) choice ∙ pow-suc many m ∙ mul_comm (many ^ m) many in
      let whole = sum_by_push (weight x many) rest (Rule q) in
      let other = sum_by-append (weight x many) rest symbols in
      omega (arith, sequence, product, one, more, here, whole, other)
