-- Of which sorts the words of an item are.
use Rattle.std.specs.Prelude.{◌≡◌, ℕ, ⊤, true, List}
use Rattle.bison_reader.specs.declared.group.Group.TheVariants as groups
use Rattle.bison_reader.specs.declared.sort.Sort.{Sort}
use Rattle.bison_reader.specs.declared.sort.Sort.TheVariants as sorts
use Rattle.bison_reader.specs.Here.{sort_of, is_of}
use Rattle.bison_reader.specs.Items.{Item, AliasGiven, RuleGiven, HeadRead, ProductionRead}

-- words are the sorts of all words
module _ (words : List Sort) where
  abbrev pub IsIdentifier : ℕ → Type 0
  IsIdentifier word = sort_of words word ≡ sorts.Identifier

  -- a string, with or without `_(` and `)`
  abbrev pub IsString : ℕ → Type 0
  IsString word = is_of words groups.AnyString word ≡ true

  -- the name of a rule is an identifier, and another name of a token is a string
  abbrev pub IsWellSorted : Item → Type 0
  IsWellSorted (AliasGiven token string) = IsString string
  IsWellSorted (RuleGiven rule) = IsIdentifier rule
  IsWellSorted (HeadRead rule) = IsIdentifier rule
  IsWellSorted (ProductionRead production) = IsIdentifier production.rule
  IsWellSorted _ = ⊤
