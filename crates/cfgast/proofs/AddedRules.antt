-- What the calls that write to a tree do to its rules.
use Rattle.std.proofs.Common.{◌≡◌, ℕ, Bool, true, false, List, [], ◌∷◌, ◌++◌, map, is_some, if◌then◌else◌, refl, sym, ◌∙◌}
use Rattle.std.specs.List.{list_any}
use Rattle.std.specs.Map.{lookup}
use Rattle.std.specs.Str.{bytes_eq}
use Rattle.std.specs.Cmp.Lexicographic.{nat_list_eq_equiv}
use Rattle.std.proofs.lemmas.Bool.{or_left, or_right}
use Rattle.std.proofs.lemmas.List.Folds.{list_any-append}
use Rattle.lemmas.proofs.Lookups.{found-lookup}
use Rattle.lemmas.proofs.Tests.{list_any-map}
use Rattle.cfgitems.specs.Items.{RuleHead}
use Rattle.cfgitems.specs.Syntax.{Syntax, Rule, head_name}
use Rattle.cfgitems.specs.Building.{has_rule, new_rule}
use Rattle.cfgast.specs.Writing.{restated, rule_added}

module _ (s : Syntax) (head : RuleHead) where
  abbrev pub added_where : Bool → List (List ℕ × Rule)
  added_where known = if known then map (restated head) s.rules else s.rules ++ new_rule head ∷ []

  pub added-known : (rules : List (List ℕ × Rule)) → has_rule (head_name head) s.rules ≡ true → rules ≡ map (restated head) s.rules → record s { rules = rules } ≡ rule_added s head
  added-known rules known are = (λ i. record s { rules = are i }) ∙ (λ i. record s { rules = added_where (sym known i) })

  pub added-new : (rules : List (List ℕ × Rule)) → has_rule (head_name head) s.rules ≡ false → rules ≡ s.rules ++ new_rule head ∷ [] → record s { rules = rules } ≡ rule_added s head
  added-new rules new are = (λ i. record s { rules = are i }) ∙ (λ i. record s { rules = added_where (sym new i) })

  -- after it was added, a rule has the name
  pub added-there : is_some (lookup (bytes_eq (head_name head)) (rule_added s head).rules) ≡ true
  added-there = found-lookup (bytes_eq (head_name head)) (rule_added s head).rules ∙ go (has_rule (head_name head) s.rules) refl
    where
      same_key : (rule : List ℕ × Rule) (b : Bool) → (if b then (rule.0, (new_rule head).1) else rule).0 ≡ rule.0
      same_key rule true = refl
      same_key rule false = refl

      go : (known : Bool) → has_rule (head_name head) s.rules ≡ known → has_rule (head_name head) (added_where known) ≡ true
      go true known =
          list_any-map (λ (rule : List ℕ × Rule). bytes_eq (head_name head) rule.0) (restated head) s.rules
          ∙ (λ i. list_any (λ rule. bytes_eq (head_name head) (same_key rule (bytes_eq (head_name head) rule.0) i)) s.rules) ∙ known
      go false new =
          list_any-append (λ (rule : List ℕ × Rule). bytes_eq (head_name head) rule.0) s.rules (new_rule head ∷ [])
          ∙ or_right _ _ (or_left _ _ (nat_list_eq_equiv.refl (head_name head)))
