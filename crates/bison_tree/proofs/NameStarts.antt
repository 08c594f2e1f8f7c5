-- What the names of identifiers begin with, also where an identifier is another name of a token.
use Rattle.std.proofs.Common.{◌≡◌, ℕ, zero, suc, Bool, true, false, List, [], ◌∷◌, map, fold, filter_map, cond, Some, All, refl, subst}
use Rattle.std.specs.Prelude.{IfSome, codes}
use Rattle.std.specs.Map.{lookup}
use Rattle.std.specs.Option.{option_map_or}
use Rattle.std.specs.Str.{bytes_eq}
use Rattle.std.specs.Cmp.Lexicographic.{bytes_decides}
use Rattle.std.proofs.lemmas.List.Elements.{All-nil, All-cons, All-head, All-tail, All-push, All-weaker}
use Rattle.lemmas.specs.Lists.{pushed_unless}
use Rattle.lemmas.proofs.Options.{All-filter_map}
use Rattle.constructs.specs.Pieces.{starts}
use Rattle.cfgitems.specs.Building.{has_name}
use Rattle.bison_words.specs.declared.class.Class.TheVariants.{NameByte}
use Rattle.bison_words.specs.declared.directive.Directive.{Directive}
use Rattle.bison_words.specs.declared.directive.Directive.TheVariants as directives
use Rattle.bison_words.specs.Bytes.{holds}
use Rattle.bison_words.specs.Words.{Lexeme, Word, Identifier, String, Translatable, Directed}
use Rattle.bison_reader.specs.declared.group.Group.TheVariants as groups
use Rattle.bison_reader.specs.declared.sort.Sort.TheVariants as sorts
use Rattle.bison_reader.specs.Groups.{belongs}
use Rattle.bison_reader.specs.Here.{sort_of, colon_follows}
use Rattle.bison_reader.specs.Items.{Item, AliasGiven}
use Rattle.bison_reader.specs.ItemWords.{IsIdentifier, IsWellSorted}
use Rattle.bison_reader.specs.Sorts.{directive_sort, lexeme_sort, sorts_of}
use Rattle.bison_reader.specs.WordNames.{BeginsAsName}
use Rattle.bison_tree.specs.Names.{name_at, letters_of, own_name, own_names, is_taken, with_alias, built_in, alias_in, aliases_of, called, names_of}

abbrev pub IsNameStart : List ℕ → Type 0
IsNameStart name = starts (holds NameByte) name ≡ true

-- no directive is an identifier or a string
directive_other : (directive : Directive) → directive_sort directive ≡ sorts.Identifier → ⊥
directive_other directives.Token e = cc
directive_other _ e = cc

directive_no_string : (directive : Directive) (colon : Bool) → belongs groups.AnyString (directive_sort directive) colon ≡ true → ⊥
directive_no_string directives.Token colon e = cc
directive_no_string _ colon e = cc

module _ (is_letter : List ℕ → Bool) where
  identifier_name : (lexeme : Lexeme) → lexeme_sort lexeme ≡ sorts.Identifier → BeginsAsName lexeme
      → IsNameStart (own_name is_letter lexeme)
  identifier_name (Identifier name) is begins = begins
  identifier_name (Directed directive) is begins = absurd (directive_other directive is)
  identifier_name _ is begins = cc

  string_name : (lexeme : Lexeme) (colon : Bool) → belongs groups.AnyString (lexeme_sort lexeme) colon ≡ true
      → starts (holds NameByte) (own_name is_letter lexeme) ≡ false
  string_name (String text) colon is = refl
  string_name (Translatable text) colon is = refl
  string_name (Directed directive) colon is = absurd (directive_no_string directive colon is)
  string_name _ colon is = cc

  abbrev named : List Word → List (List ℕ)
  named = map (λ word. own_name is_letter word.lexeme)

  identifier_at : (words : List Word) (i : ℕ) → All (λ word. BeginsAsName word.lexeme) words
      → sort_of (sorts_of words) i ≡ sorts.Identifier → IsNameStart (name_at (named words) i)
  identifier_at [] i all is = cc
  identifier_at (word ∷ words) zero all is = identifier_name word.lexeme is (All-head (λ word. BeginsAsName word.lexeme) word words all)
  identifier_at (word ∷ words) (suc i) all is = identifier_at words i (All-tail (λ word. BeginsAsName word.lexeme) word words all) is

  string_at : (words : List Word) (i : ℕ) (colon : Bool) → belongs groups.AnyString (sort_of (sorts_of words) i) colon ≡ true
      → starts (holds NameByte) (name_at (named words) i) ≡ false
  string_at [] i colon is = cc
  string_at (word ∷ words) zero colon is = string_name word.lexeme colon is
  string_at (word ∷ words) (suc i) colon is = string_at words i colon is

-- an alias that identifiers may be is a token that begins as they do
abbrev IsSafe : List ℕ × List ℕ → Type 0
IsSafe alias = IsNameStart alias.0 → IsNameStart alias.1

with_alias_safe : (aliases : List (List ℕ × List ℕ)) (alias : List ℕ × List ℕ) → All IsSafe aliases → IsSafe alias
    → All IsSafe (with_alias aliases alias)
with_alias_safe aliases alias all safe = go (is_taken aliases alias)
  where
    go : (taken : Bool) → All IsSafe (pushed_unless taken aliases alias)
    go true = all
    go false = All-push IsSafe aliases alias all safe

fold_safe : (aliases more : List (List ℕ × List ℕ)) → All IsSafe aliases → All IsSafe more → All IsSafe (fold with_alias aliases more)
fold_safe aliases [] all others = all
fold_safe aliases (alias ∷ more) all others =
    fold_safe (with_alias aliases alias) more (with_alias_safe aliases alias all (All-head IsSafe alias more others)) (All-tail IsSafe alias more others)

built_in_safe : All IsSafe built_in
built_in_safe =
    let undefined : List ℕ × List ℕ = (codes "$undefined", codes "YYUNDEF") in
    All-cons IsSafe (codes "YYerror", codes "error") (undefined ∷ []) (λ _. refl) (All-cons IsSafe undefined [] (λ _. refl) (All-nil IsSafe))

called_starts : (aliases : List (List ℕ × List ℕ)) (name : List ℕ) → All IsSafe aliases → IsNameStart name
    → IsNameStart (called aliases name)
called_starts [] name all begins = begins
called_starts (alias ∷ aliases) name all begins =
    go (bytes_eq name alias.0) refl (called_starts aliases name (All-tail IsSafe alias aliases all) begins)
  where
    go : (same : Bool) → bytes_eq name alias.0 ≡ same → IsNameStart (called aliases name)
        → IsNameStart (option_map_or (λ token. token) (cond same (Some alias.1) (lookup (bytes_eq name) aliases)) name)
    go true e further = All-head IsSafe alias aliases all (subst IsNameStart ((bytes_decides name alias.0).0 e) begins)
    go false e further = further

mapped_starts : (f : List ℕ → List ℕ) → ((name : List ℕ) → IsNameStart name → IsNameStart (f name))
    → (names : List (List ℕ)) (i : ℕ) → IsNameStart (name_at names i) → IsNameStart (name_at (map f names) i)
mapped_starts f kept [] i begins = begins
mapped_starts f kept (name ∷ names) zero begins = kept name begins
mapped_starts f kept (name ∷ names) (suc i) begins = mapped_starts f kept names i begins

module _ (words : List Word) (items : List Item) (all : All (λ word. BeginsAsName word.lexeme) words) (sorted : All (IsWellSorted (sorts_of words)) items) where
  abbrev is_letter : List ℕ → Bool
  is_letter name = has_name name (letters_of words)

  alias_safe : (item : Item) → IsWellSorted (sorts_of words) item → IfSome (alias_in (own_names words) item) IsSafe
  alias_safe (AliasGiven token string) is = λ begins. let ends = string_at is_letter words string (colon_follows (sorts_of words) string) is in cc
  alias_safe _ is = tt

  aliases_safe : All IsSafe (aliases_of (own_names words) items)
  aliases_safe = fold_safe built_in (filter_map (alias_in (own_names words)) items) built_in_safe
      (All-filter_map IsSafe (alias_in (own_names words)) items
      (All-weaker (IsWellSorted (sorts_of words)) (λ item. IfSome (alias_in (own_names words) item) IsSafe) alias_safe items sorted))

  pub name_starts : (i : ℕ) → IsIdentifier (sorts_of words) i → IsNameStart (name_at (names_of words items) i)
  unfolding names_of
  name_starts i is = mapped_starts (called (aliases_of (own_names words) items)) (λ name. called_starts (aliases_of (own_names words) items) name aliases_safe)
      (own_names words) i (identifier_at is_letter words i all is)
