-- What a text is read as.
use Rattle.std.specs.Prelude.{◌≡◌, ℕ, Bool, true, List, ◌==◌, length, filter_map, fold, Option, Some, None}
use Rattle.cfgast.specs.TreeView.{syntax}
use Rattle.cfgitems.specs.Syntax.{Syntax, syntax_of}
use Rattle.bison_words.specs.declared.words.WordFault.{WordFault}
use Rattle.bison_words.specs.Words.{epilogue_in, fault_in, last_of}
use Rattle.bison_reader.specs.Items.{Item, DefaultPrecedence, LevelEnded}
use Rattle.bison_reader.specs.Sorts.{items_in, scanned, words_in}
use Rattle.bison_reader.specs.declared.item.Associativity.{Associativity}
use Rattle.bison_errors.specs.declared.reading.FileTree.{FileTree}
use Rattle.bison_errors.specs.declared.error.Error.{Error}
use Rattle.bison_errors.specs.Errors.{AreErrors, name_errors, text_errors}
use Rattle.bison_tree.specs.Names.{names_of}
use Rattle.bison_tree.specs.Tree.{tree_items}

abbrev pub faults_in : List ℕ → List WordFault
faults_in text = filter_map fault_in (scanned text)

-- what follows the second `%%`
abbrev pub programs_of : List ℕ → Option (List ℕ)
programs_of text = last_of (filter_map epilogue_in (scanned text))

-- what a text says of its grammar
unfoldable pub tree_of : List ℕ → Syntax
tree_of text = syntax_of (tree_items (words_in text) (items_in text) (programs_of text))

-- what is wrong with its text, and with its names
abbrev pub text_errors_of : List ℕ → List Error
text_errors_of text = text_errors (words_in text) (faults_in text) (items_in text)

abbrev pub name_errors_of : List ℕ → List Error
name_errors_of text =
    name_errors (length (text_errors_of text) == 0) (words_in text) (names_of (words_in text) (items_in text)) (items_in text) (tree_of text)

-- how the operators of a level associate
abbrev pub level_in : Item → Option Associativity
level_in (LevelEnded associativity) = Some associativity
level_in _ = None

-- whether a production without `%prec` has the precedence of its last token: as the last declaration of it says
abbrev pub with_default : Bool → Item → Bool
with_default holds (DefaultPrecedence now) = now
with_default holds _ = holds

pub record IsTreeOf (text : List ℕ) (tree : FileTree) : Type 0 where
  pub ast : syntax tree.ast ≡ tree_of text
  pub errors : AreErrors (text_errors_of text) (name_errors_of text) tree.errors.items
  pub levels : tree.levels.items ≡ filter_map level_in (items_in text)
  pub default_precedence : tree.default_precedence ≡ fold with_default true (items_in text)
