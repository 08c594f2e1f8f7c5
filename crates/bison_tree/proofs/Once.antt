-- Names, each once, are the same names.
use Rattle.std.proofs.Common.{◌≡◌, ℕ, Bool, true, false, List, [], ◌∷◌, ◌||◌, map, fold, refl, sym, ap, ◌∙◌}
use Rattle.std.specs.Str.{bytes_eq}
use Rattle.std.proofs.Math.Bool.{or-false, or_assoc}
use Rattle.std.specs.Cmp.Lexicographic.{bytes_decides}
use Rattle.std.proofs.lemmas.List.Folds.{list_any-append}
use Rattle.lemmas.specs.Lists.{pushed_unless}
use Rattle.cfgitems.specs.Building.{has_name}
use Rattle.bison_reader.specs.Items.{Item}
use Rattle.bison_words.specs.Words.{Word}
use Rattle.bison_tree.specs.Names.{each_once, letters_of, own_name, own_names, with_one}
use Rattle.bison_tree.specs.Tree.{rules_items}

-- a name that is known adds none
has_name-known : (names : List (List ℕ)) (n m : List ℕ) → has_name m names ≡ true → has_name n names ≡ (has_name n names || bytes_eq n m)
has_name-known names n m known = go (bytes_eq n m) refl
  where
    go : (b : Bool) → bytes_eq n m ≡ b → has_name n names ≡ (has_name n names || b)
    go false e = sym (or-false (has_name n names))
    go true e =
        let is : has_name n names ≡ true = ap (λ x. has_name x names) ((bytes_decides n m).0 e) ∙ known in
        is ∙ sym (ap (λ b. b || true) is)

has_name-one : (names : List (List ℕ)) (n m : List ℕ) → has_name n (with_one names m) ≡ (has_name n names || bytes_eq n m)
has_name-one names n m = go (has_name m names) refl
  where
    go : (known : Bool) → has_name m names ≡ known → has_name n (pushed_unless known names m) ≡ (has_name n names || bytes_eq n m)
    go true e = has_name-known names n m e
    go false e = list_any-append (bytes_eq n) names (m ∷ []) ∙ ap (λ b. has_name n names || b) (or-false (bytes_eq n m))

has_name-fold : (n : List ℕ) (names more : List (List ℕ)) → has_name n (fold with_one names more) ≡ (has_name n names || has_name n more)
has_name-fold n names [] = sym (or-false (has_name n names))
has_name-fold n names (m ∷ more) =
    has_name-fold n (with_one names m) more ∙ ap (λ b. b || has_name n more) (has_name-one names n m)
    ∙ or_assoc (has_name n names) (bytes_eq n m) (has_name n more)

is_in : List (List ℕ) → List ℕ → Bool
is_in names name = has_name name names

is_among : (names : List (List ℕ)) → is_in (each_once names) ≡ is_in names
unfolding is_in
is_among names = λ i. λ name. has_name-fold name [] names i

pub own_names_once : (words : List Word)
    → map (λ word. own_name (λ name. has_name name (each_once (letters_of words))) word.lexeme) words ≡ own_names words
unfolding is_in
own_names_once words = ap (λ is_letter. map (λ (word : Word). own_name is_letter word.lexeme) words) (is_among (letters_of words))

pub rules_items_once : (words : List Word) (names tokens : List (List ℕ)) (items : List Item)
    → rules_items words names (λ name. has_name name (each_once tokens)) items ≡ rules_items words names (λ name. has_name name tokens) items
unfolding is_in
rules_items_once words names tokens items = ap (λ is_token. rules_items words names is_token items) (is_among tokens)
