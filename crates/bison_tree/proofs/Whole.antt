-- The items of a whole file.
use Rattle.std.proofs.Common.{◌≡◌, ℕ, List, ◌++◌, Option, map, ap, ◌∙◌}
use Rattle.cfgitems.specs.Building.{adds, has_name}
use Rattle.cfgitems.specs.Items as tree
use Rattle.cfgitems.specs.Syntax.{Syntax}
use Rattle.bison_reader.specs.Items.{Item}
use Rattle.bison_words.specs.Words.{Word}
use Rattle.bison_tree.specs.Names.{each_once, names_of}
use Rattle.bison_tree.specs.Tokens.{token_names, tokens_of}
use Rattle.bison_tree.specs.Tree.{programs_items, rules_items, token_quoted, tree_items}
use Rattle.bison_tree.proofs.Once.{rules_items_once}

module _ (words : List Word) (items : List Item) (epilogue : Option (List ℕ)) where
  whole : List (List ℕ) → List ℕ → List tree.Item
  whole names tokens =
      map (token_quoted words names) tokens ++ (rules_items words names (λ name. has_name name (token_names names tokens)) items ++ programs_items epilogue)

  whole-is : (names : List (List ℕ)) (tokens : List ℕ) → names ≡ names_of words items → tokens ≡ tokens_of words items
      → whole names tokens ≡ tree_items words items epilogue
  unfolding tree_items whole
  whole-is names tokens n t = λ i. whole (n i) (t i)

  pub all_added : (s0 s : Syntax) (names keys : List (List ℕ)) (tokens : List ℕ) → names ≡ names_of words items → tokens ≡ tokens_of words items
      → keys ≡ each_once (token_names names tokens)
      → s ≡ adds s0 (map (token_quoted words names) tokens ++ (rules_items words names (λ name. has_name name keys) items ++ programs_items epilogue))
      → s ≡ adds s0 (tree_items words items epilogue)
  unfolding whole
  all_added s0 s names keys tokens n t k e =
      let quoted = map (token_quoted words names) tokens in
      let rules : List (List ℕ) → List tree.Item = λ keys. rules_items words names (λ name. has_name name keys) items in
      let same : rules keys ≡ rules (token_names names tokens) = ap rules k ∙ rules_items_once words names (token_names names tokens) items in
      e ∙ ap (λ rules. adds s0 (quoted ++ (rules ++ programs_items epilogue))) same ∙ ap (adds s0) (whole-is names tokens n t)
