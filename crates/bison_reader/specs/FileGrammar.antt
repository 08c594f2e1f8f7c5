-- The grammar of a Yacc or Bison file: declarations, `%%`, and rules up to the second `%%` or the end.
use Rattle.std.specs.Prelude.{ℕ, zero, suc, List, [], ◌∷◌, length}
use Rattle.constructs.specs.Construct.{◌>>◌, choice, computes, emits, gives, here, repeat}
use Rattle.bison_reader.specs.declared.group.Group.TheVariants as groups
use Rattle.bison_reader.specs.declared.item.Expected.TheVariants as expected
use Rattle.bison_reader.specs.declared.sort.Sort.{Sort}
use Rattle.bison_reader.specs.Declarations.{declaration_turn}
use Rattle.bison_reader.specs.Here.{Lax, next_word, is_here, word_here_or}
use Rattle.bison_reader.specs.Items.{Item, Unexpected}
use Rattle.bison_reader.specs.Rules.{rules_turn}

-- count numbers from first on
abbrev pub numbers : ℕ → ℕ → List ℕ
numbers first zero = []
numbers first (suc count) = first ∷ numbers (suc first) count

-- words are the sorts of all words
module _ (words : List Sort) where
  -- what follows the first `%%`: at least one rule
  unfoldable pub rules : Lax (Unit {0})
  rules = do
    here (λ text. choice (is_here words groups.RulesEnd) (emits (Unexpected (next_word words text) expected.Rule)) (gives tt))
    repeat (rules_turn words)

  unfoldable pub file : Lax (Unit {0})
  file = do
    repeat (declaration_turn words)
    word_here_or words groups.Mark (λ mark. rules) (gives tt)

  -- what a file says
  abbrev pub items_of : List Item
  items_of = (computes file (numbers 0 (length words))).items
