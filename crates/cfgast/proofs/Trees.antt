-- What is well formed is a tree, and a tree stays one when it is written to.
use Rattle.std.proofs.Common.{arith, ◌≡◌, ℕ, ◌+◌, ◌<◌, ◌==◌, Bool, true, false, List, [], ◌∷◌, ◌++◌, map, length, get_or, All, if◌then◌else◌, refl, sym, ◌∙◌, length-append}
use Rattle.std.specs.Str.{bytes_eq}
use Rattle.std.specs.Cmp.Lexicographic.{bytes_decides}
use Rattle.std.proofs.lemmas.List.{length-map}
use Rattle.std.proofs.lemmas.List.Elements.{All-nil, All-map, All-push, All-same, All-weaker}
use Rattle.std.proofs.lemmas.Option.{slice_get-get_or}
use Rattle.lemmas.proofs.Passing.{positions_from-within}
use Rattle.lemmas.proofs.Tests.{list_any-map}
use Rattle.lemmas.specs.Lists.{positions}
use Rattle.cfgitems.specs.Items.{RuleHead}
use Rattle.cfgitems.specs.Syntax.{Syntax, Rule, Production, head_name, index_of}
use Rattle.cfgitems.specs.Building.{has_rule, new_rule, listed}
use Rattle.cfgast.specs.WellFormed.{IsWellFormed}
use Rattle.cfgast.specs.Writing.{IsTree, restated, rule_added, production_added, programs_set}
use Rattle.cfgitems.proofs.Names.{index_of-within}

abbrev IsNamed : List ℕ × Rule → Type 0
IsNamed rule = rule.0 ≡ rule.1.name.name

-- a rule lists indices below n
abbrev ListsBelow : ℕ → List ℕ × Rule → Type 0
ListsBelow n rule = All (λ i. i < n) rule.1.productions

below : (n m : ℕ) (xs : List ℕ) → n < m + 1 → All (λ i. i < n) xs → All (λ i. i < m) xs
below n m = λ xs up. All-weaker (λ i. i < n) (λ i. i < m) (λ i within. omega (arith, up, within)) xs

pub read_tree : (s : Syntax) → IsWellFormed s → IsTree s
read_tree s well = record {
  rules_named = well.rules_named;
  productions_within = λ k d within.
      All-same (λ i. i < length s.productions) _ (positions (λ other. k == other) s.production_rules)
      (well.productions_listed k (get_or s.rules k d) (slice_get-get_or s.rules k d within))
      (All-weaker (λ i. i < 0 + length s.production_rules) (λ i. i < length s.productions) (λ i there. omega (arith, well.production_rules_as_long, there)) _
      (positions_from-within (λ other. k == other) 0 s.production_rules));
  production_rules_as_long = well.production_rules_as_long;
  production_rules_within = well.production_rules_within;
  spans_as_long = well.spans_as_long;
  directives_within = well.directives_within;
}

module _ (s : Syntax) (tree : IsTree s) where
  with_rules : (rules : List (List ℕ × Rule)) → All IsNamed rules → All (ListsBelow (length s.productions)) rules → length s.rules < length rules + 1 → IsTree (record s { rules = rules })
  with_rules rules named within up = record {
    rules_named = named;
    productions_within = within;
    production_rules_as_long = tree.production_rules_as_long;
    production_rules_within = below (length s.rules) (length rules) s.production_rules up tree.production_rules_within;
    spans_as_long = tree.spans_as_long;
    directives_within = tree.directives_within;
  }

  pub rule_added_tree : (head : RuleHead) → IsTree (rule_added s head)
  rule_added_tree head = go (has_rule (head_name head) s.rules)
    where
      restated_named : (rule : List ℕ × Rule) (same : Bool) → bytes_eq (head_name head) rule.0 ≡ same → IsNamed rule
          → IsNamed (if same then (rule.0, (new_rule head).1) else rule)
      restated_named rule true is named = sym ((bytes_decides (head_name head) rule.0).0 is)
      restated_named rule false is named = named

      restated_within : (rule : List ℕ × Rule) (same : Bool) → ListsBelow (length s.productions) rule
          → ListsBelow (length s.productions) (if same then (rule.0, (new_rule head).1) else rule)
      restated_within rule true within = All-nil (λ i. i < length s.productions)
      restated_within rule false within = within

      go : (known : Bool) → IsTree (record s { rules = if known then map (restated head) s.rules else s.rules ++ new_rule head ∷ [] })
      go true = with_rules (map (restated head) s.rules)
          (All-map IsNamed (restated head) s.rules (λ k d h. restated_named (get_or s.rules k d) (bytes_eq (head_name head) (get_or s.rules k d).0) refl (tree.rules_named k d h)))
          (All-map (ListsBelow (length s.productions)) (restated head) s.rules
          (λ k d h. restated_within (get_or s.rules k d) (bytes_eq (head_name head) (get_or s.rules k d).0) (tree.productions_within k d h)))
          (omega (arith, length-map s.rules (restated head)))
      go false = with_rules (s.rules ++ new_rule head ∷ [])
          (All-push IsNamed s.rules (new_rule head) tree.rules_named refl)
          (All-push (ListsBelow (length s.productions)) s.rules (new_rule head) tree.productions_within (All-nil (λ i. i < length s.productions)))
          (omega (arith, length-append s.rules (new_rule head ∷ [])))

  pub production_added_tree : (name : List ℕ) (production : Production) → has_rule name s.rules ≡ true → IsTree (production_added s name production)
  production_added_tree name production there = record {
    rules_named = All-map IsNamed (listed name count) s.rules (λ k d h. listed_named (get_or s.rules k d) (bytes_eq name (get_or s.rules k d).0) (tree.rules_named k d h));
    productions_within = All-map (ListsBelow after) (listed name count) s.rules
        (λ k d h. listed_within (get_or s.rules k d) (bytes_eq name (get_or s.rules k d).0) (tree.productions_within k d h));
    production_rules_as_long = omega (arith, tree.production_rules_as_long, longer, length-append s.production_rules (index_of name names ∷ []));
    production_rules_within = All-push (λ r. r < length (map (listed name count) s.rules)) s.production_rules (index_of name names)
        (below (length s.rules) (length (map (listed name count) s.rules)) s.production_rules (omega (arith, listed_length)) tree.production_rules_within)
        (omega (arith, listed_length, names_length, index_of-within name names (list_any-map (bytes_eq name) (λ (rule : List ℕ × Rule). rule.0) s.rules ∙ there)));
    spans_as_long = tree.spans_as_long;
    directives_within = tree.directives_within;
  }
    where
      count : ℕ
      count = length s.productions

      after : ℕ
      after = length (s.productions ++ production ∷ [])

      names : List (List ℕ)
      names = map (λ rule. rule.0) s.rules

      longer : after ≡ count + 1
      longer = length-append s.productions (production ∷ [])

      listed_length : length (map (listed name count) s.rules) ≡ length s.rules
      listed_length = length-map s.rules (listed name count)

      names_length : length names ≡ length s.rules
      names_length = length-map s.rules (λ rule. rule.0)

      listed_named : (rule : List ℕ × Rule) (same : Bool) → IsNamed rule
          → IsNamed (if same then (rule.0, record rule.1 { productions = rule.1.productions ++ count ∷ [] }) else rule)
      listed_named rule true named = named
      listed_named rule false named = named

      listed_within : (rule : List ℕ × Rule) (same : Bool) → ListsBelow count rule
          → ListsBelow after (if same then (rule.0, record rule.1 { productions = rule.1.productions ++ count ∷ [] }) else rule)
      listed_within rule true within =
          All-push (λ i. i < after) rule.1.productions count (below count after rule.1.productions (omega (arith, longer)) within) (omega (arith, longer))
      listed_within rule false within = below count after rule.1.productions (omega (arith, longer)) within

  pub programs_set_tree : (text : List ℕ) → IsTree (programs_set s text)
  programs_set_tree text = record {
    rules_named = tree.rules_named;
    productions_within = tree.productions_within;
    production_rules_as_long = tree.production_rules_as_long;
    production_rules_within = tree.production_rules_within;
    spans_as_long = tree.spans_as_long;
    directives_within = tree.directives_within;
  }
