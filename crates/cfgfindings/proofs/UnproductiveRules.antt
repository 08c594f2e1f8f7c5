-- What is reported of unproductive rules, by their groups.
use Rattle.std.proofs.Common.{◌≡◌, ◌&&◌, ◌+◌, ◌<◌, ◌≤◌, inl, inr, ℕ, Bool, true, false, List, All, Contains, MatchBool, Some, get_or, length, leb, eqb, not, take, arith, refl, sym, subst, ◌∙◌}
use Rattle.std.specs.List.{filter}
use Rattle.std.proofs.lemmas.Bool.{and_from, and_parts, eqb-false, eqb-true, le-leb, leb-true, ne_eqb, not-true, not_from_false}
use Rattle.std.proofs.lemmas.List.{get_or_default}
use Rattle.std.proofs.lemmas.List.Elements.{All-contains, Contains-get_or}
use Rattle.std.proofs.lemmas.List.Kept.{IsStrictlyIncreasing-filter}
use Rattle.std.specs.List.Sorted.{IsStrictlyIncreasing}
use Rattle.search.specs.Reachable.{seed}
use Rattle.cfgrammar.proofs.Shows.{rule_named}
use Rattle.cfgrammar.proofs.Taken.{contains_taken}
use Rattle.cfgrammar.specs.Accessors.{rule_part}
use Rattle.cfgrammar.specs.Grammar.{HasProduction}
use Rattle.cfgrammar.specs.Numbered.{Numbered, core}
use Rattle.cfgrammar.specs.Syntax.{Syntax}
use Rattle.cfgrammar.specs.Unused.{IsStart, RuleName}
use Rattle.cfgfindings.specs.Findings.{AreOthers, IsFirstOfSinkGroup, IsStartRule, rules_added}
use Rattle.cfgfindings.specs.SinkGroups.{IsInSinkGroup}
use Rattle.cfgfindings.specs.Inner.SinkGroups.{AreGroupOf}
use Rattle.cfgfindings.proofs.OwnCycles.{kept, passed}

module _ (g : Numbered) (r : ℕ) (group : List ℕ) (are : AreGroupOf g r group) where
  abbrev is_other : ℕ → Bool
  is_other other = leb (rules_added g) other && not (eqb other r)

  -- the other rules of the file
  pub are_others : (others : List ℕ) → others ≡ filter (λ other. leb (rules_added g) other && not (eqb other r)) group → AreOthers g r others
  are_others others is = record {
    ascending = subst IsStrictlyIncreasing (sym is) (IsStrictlyIncreasing-filter is_other group are.ascending);
    all = λ q. (
      (λ c.
          let (held, test) = passed is_other group q (subst (λ l. Contains l q) is c) in
          let (ours, other) = and_parts (leb (rules_added g) q) (not (eqb q r)) test in
          let (sink, depends) = (are.all q).0 held in
          (leb-true (rules_added g) q ours, eqb-false q r (not-true (eqb q r) other), sink, depends)),
      (λ h.
          let (ours, other, sink, depends) = h in
          subst (λ l. Contains l q) (sym is) (kept is_other group q ((are.all q).1 (sink, depends))
          (and_from (leb (rules_added g) q) (not (eqb q r)) (le-leb (rules_added g) q ours) (not_from_false (eqb q r) (ne_eqb q r other))))),
    );
  }

  pub others_within : (others : List ℕ) → others ≡ filter (λ other. leb (rules_added g) other && not (eqb other r)) group → All (λ q. q < length g.rules) others
  others_within others is k d lt =
      let q = get_or others k d in
      let (held, test) = passed is_other group q (subst (λ l. Contains l q) is (k, lt, get_or_default others k _ d lt)) in
      All-contains (λ q. q < length g.rules) group q are.within held

  -- a rule in a sink group has a group, and no other rule has one
  module _ (empty : Bool) (is : empty ≡ eqb (length group) 0) where
    pub is_sink_by : empty ≡ false → IsInSinkGroup (HasProduction (core g)) r
    is_sink_by some =
        let none : length group ≡ 0 → ⊥ = eqb-false (length group) 0 (sym is ∙ some) in
        ((are.all (get_or group 0 0)).0 (Contains-get_or group 0 0 (omega (arith, none)))).0

    pub no_sink_by : empty ≡ true → IsInSinkGroup (HasProduction (core g)) r → ⊥
    no_sink_by none sink =
        let (k, lt, at) = (are.all r).1 (sink, seed refl) in
        let all : length group ≡ 0 = eqb-true (length group) 0 (sym is ∙ none) in
        omega (arith, lt, all)

  module _ (s : Syntax) where
    pub comes_before : (q : ℕ) → Contains group q → rules_added g ≤ q → q < r → IsFirstOfSinkGroup s g r → ⊥
    comes_before q held own before first = let after = first.first q own ((are.all q).0 held).1 in omega (arith, before, after)

    pub has_start : (q : ℕ) → Contains group q → rules_added g ≤ q → IsStartRule s g q → IsFirstOfSinkGroup s g r → ⊥
    has_start q held own start first = first.no_start q own ((are.all q).0 held).1 start

    -- each rule of the file in the group comes after the rule, and isn't the start rule
    pub first_or_not : rules_added g ≤ r → ((q : ℕ) → Contains group q → rules_added g ≤ q → (r ≤ q) × (IsStartRule s g q → ⊥)) → (empty : Bool) → empty ≡ eqb (length group) 0
        → MatchBool (not empty) (IsFirstOfSinkGroup s g r) (IsFirstOfSinkGroup s g r → ⊥)
    first_or_not ours each true is = λ first. no_sink_by true is refl first.sink
    first_or_not ours each false is =
        let sink = is_sink_by false is refl in
        record {
          ours = ours;
          sink = sink;
          first = λ q own depends. (each q ((are.all q).1 (sink, depends)) own).0;
          no_start = λ q own depends. (each q ((are.all q).1 (sink, depends)) own).1;
        }

-- whether a rule is the start rule, by its name
pub starts_as : (s : Syntax) (g : Numbered) (q k : ℕ) → k ≡ q → (name : List ℕ) → rule_part (λ rule. rule.name) g k ≡ Some name
    → (starts : Bool) → MatchBool starts (IsStart s (RuleName name)) (IsStart s (RuleName name) → ⊥) → MatchBool starts (IsStartRule s g q) (IsStartRule s g q → ⊥)
starts_as s g q k same name named starts = subst (λ n. MatchBool starts (IsStart s (RuleName n)) (IsStart s (RuleName n) → ⊥))
    (sym (rule_named g q name (subst (λ r. rule_part (λ rule. rule.name) g r ≡ Some name) same named)))

-- what is true of the first rules, and of one more
pub more_others : (P : ℕ → Type 0) (xs : List ℕ) (n x : ℕ) → n < length xs → x ≡ get_or xs n x → ((q : ℕ) → Contains (take n xs) q → P q) → P x
    → (q : ℕ) → Contains (take (n + 1) xs) q → P q
more_others P xs n x lt is before here q held = elim ((contains_taken xs n x lt is q).0 held) [
  | inl earlier ↦ before q earlier
  | inr last ↦ subst P (sym last) here
]
