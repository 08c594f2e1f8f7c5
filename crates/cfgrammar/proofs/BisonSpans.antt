-- Each span of what a text is read as is a piece of the text.
use Rattle.std.proofs.Common.{ℕ, ◌==◌, List, length, All, Option}
use Rattle.std.specs.Str.{IsUtf8}
use Rattle.cfgwords.specs.TextSpans.{IsPiece, IsWithin}
use Rattle.cfgitems.specs.Syntax.{EachSpan, syntax_of}
use Rattle.bison_reader.specs.Sorts.{items_in, words_in}
use Rattle.bison_tree.specs.Names.{names_of}
use Rattle.bison_errors.specs.Reading.{faults_in, name_errors_of, programs_of, text_errors_of, tree_of}
use Rattle.bison_tree.specs.Tree.{tree_items}
use Rattle.cfgrammar.specs.BisonErrorPlaces.{IsErrorAt}
use Rattle.cfgrammar.proofs.BisonErrorSpans.{name_errors_at, text_errors_at}
use Rattle.cfgrammar.proofs.BisonItemSpans.{syntax_spans}
use Rattle.cfgrammar.proofs.BisonTreeSpans.{tree_items_at}
use Rattle.cfgrammar.proofs.BisonWordSpans.{faults_at, words_at}

module _ (text : List ℕ) (utf8 : IsUtf8 text) where
  pub syntax_at : (programs : Option (List ℕ)) → EachSpan (IsPiece text) (IsWithin text) (syntax_of (tree_items (words_in text) (items_in text) programs))
  syntax_at programs =
      let items = tree_items (words_in text) (items_in text) programs in
      syntax_spans (IsPiece text) (IsWithin text) items (tree_items_at text (words_in text) utf8 (words_at text utf8) (items_in text) programs)

  pub tree_at : EachSpan (IsPiece text) (IsWithin text) (tree_of text)
  unfolding tree_of
  tree_at = syntax_at (programs_of text)

  pub text_errors_of_at : All (IsErrorAt text) (text_errors_of text)
  text_errors_of_at = text_errors_at text (words_in text) utf8 (words_at text utf8) (faults_in text) (items_in text) (faults_at text utf8)

  pub name_errors_of_at : All (IsErrorAt text) (name_errors_of text)
  name_errors_of_at =
      name_errors_at text (words_in text) utf8 (words_at text utf8) (tree_of text) tree_at (length (text_errors_of text) == 0)
      (names_of (words_in text) (items_in text)) (items_in text)
