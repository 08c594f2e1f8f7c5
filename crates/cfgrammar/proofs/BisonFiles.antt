-- What follows from what a text says, once its errors are in order.
use Rattle.std.proofs.Common.{◌≡◌, ℕ, List, [], ◌++◌, length, All, ap, sym, subst, arith, length-append}
use Rattle.std.specs.Str.{IsUtf8}
use Rattle.std.proofs.lemmas.List.{nil_from_length}
use Rattle.std.proofs.lemmas.List.Elements.{All-append}
use Rattle.std.proofs.lemmas.List.Sorted.{All-permutation, length_permutation}
use Rattle.cfgnumbers.specs.Numberable.{IsNumberable}
use Rattle.bison_tree.proofs.RuleNames.{rule_names_free}
use Rattle.bison_errors.specs.declared.error.Error.{Error}
use Rattle.bison_errors.specs.Errors.{AreErrors}
use Rattle.bison_errors.specs.Reading.{name_errors_of, programs_of, text_errors_of, tree_of}
use Rattle.cfgrammar.specs.BisonErrorPlaces.{IsErrorAt}
use Rattle.cfgrammar.proofs.BisonResolved.{tree_is_resolved, tree_is_well_formed}
use Rattle.cfgrammar.proofs.BisonSpans.{name_errors_of_at, text_errors_of_at}

module _ (of_text of_names errors : List Error) (are : AreErrors of_text of_names errors) where
  none_of_text : errors ≡ [] → of_text ≡ []
  none_of_text none = nil_from_length of_text (omega (
    arith,
    length_permutation of_text are.of_text are.text_sorted.same,
    length-append are.of_text are.of_names,
    ap length are.all,
    ap length none,
  ))

  none_of_names : errors ≡ [] → of_names ≡ []
  none_of_names none = nil_from_length of_names (omega (
    arith,
    length_permutation of_names are.of_names are.names_sorted.same,
    length-append are.of_text are.of_names,
    ap length are.all,
    ap length none,
  ))

  each_of_both : (P : Error → Type 0) → All P of_text → All P of_names → All P errors
  each_of_both P texts names = subst (All P) (sym are.all) (All-append P are.of_text are.of_names
      (All-permutation P of_text are.of_text are.text_sorted.same texts)
      (All-permutation P of_names are.of_names are.names_sorted.same names))

module _ (text : List ℕ) (errors : List Error) (are : AreErrors (text_errors_of text) (name_errors_of text) errors) where
  -- without errors the tree can be numbered
  pub numberable : errors ≡ [] → IsNumberable (tree_of text)
  unfolding tree_of
  numberable none = record {
    well_formed = tree_is_well_formed text;
    names_free = rule_names_free text (programs_of text);
    resolved = tree_is_resolved text
        (none_of_text (text_errors_of text) (name_errors_of text) errors are none)
        (none_of_names (text_errors_of text) (name_errors_of text) errors are none);
  }

  pub errors_at : IsUtf8 text → All (IsErrorAt text) errors
  errors_at utf8 = each_of_both (text_errors_of text) (name_errors_of text) errors are (IsErrorAt text)
      (text_errors_of_at text utf8) (name_errors_of_at text utf8)
