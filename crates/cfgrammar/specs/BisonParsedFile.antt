-- What callers see of a Yacc or Bison file, and what a text says as one.
use Rattle.std.specs.Prelude.{◌≡◌, Bool, true, ℕ, List, filter_map, fold}
use Rattle.cfgitems.specs.Syntax.{Syntax}
use Rattle.bison_reader.specs.Sorts.{items_in}
use Rattle.bison_reader.specs.declared.item.Associativity.{Associativity}
use Rattle.bison_errors.specs.declared.error.Error.{Error}
use Rattle.bison_errors.specs.Errors.{AreErrors}
use Rattle.bison_errors.specs.Reading.{level_in, name_errors_of, text_errors_of, tree_of, with_default}

-- what it says of its grammar; what is wrong with it; how the operators of each level of precedences associate; and whether a production
-- without `%prec` has the precedence of its last token
pub record ParsedFile : Type 0 where
  pub syntax : Syntax
  pub errors : List Error
  pub levels : List Associativity
  pub default_precedence : Bool

-- the text says this, and nothing else
pub record IsParsedFile (text : List ℕ) (file : ParsedFile) : Type 0 where
  pub syntax : file.syntax ≡ tree_of text
  pub errors : AreErrors (text_errors_of text) (name_errors_of text) file.errors
  pub levels : file.levels ≡ filter_map level_in (items_in text)
  pub default_precedence : file.default_precedence ≡ fold with_default true (items_in text)
