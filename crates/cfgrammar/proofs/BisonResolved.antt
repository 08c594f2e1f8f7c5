-- In a text without errors every name refers to something that exists.
use Rattle.std.proofs.Common.{◌≡◌, ℕ, ◌==◌, ◌&&◌, not, Bool, true, false, List, [], ◌∷◌, ◌++◌, length, All, Option, Some, None, is_some, if◌then◌else◌, refl, ap, subst, arith, length-append}
use Rattle.std.specs.List.{flat_map}
use Rattle.std.proofs.lemmas.List.{nil_from_length}
use Rattle.std.proofs.lemmas.List.Elements.{All-nil, All-cons}
use Rattle.cfgwords.specs.FileWords as file
use Rattle.cfgitems.specs.Building.{has_name, has_rule}
use Rattle.cfgitems.specs.Syntax.{Production, Symbol, Syntax, symbol_word}
use Rattle.cfgerrors.specs.Errors.{GrammarError}
use Rattle.cfgast.specs.Check.{symbol_error}
use Rattle.cfgast.specs.WellFormed.{IsWellFormed}
use Rattle.cfgast.proofs.WellFormedLemmas.{syntax_of-IsWellFormed}
use Rattle.cfgnumbers.specs.Resolved.{IsResolved, Resolves}
use Rattle.bison_reader.specs.Sorts.{items_in, words_in}
use Rattle.bison_errors.specs.Errors.{declaration_errors, error_at, missing_errors, start_errors, tree_errors, unknown_after, unknown_error}
use Rattle.bison_errors.specs.declared.error.Error.{Error}
use Rattle.bison_errors.specs.declared.error.ErrorKind.TheVariants as kinds
use Rattle.bison_tree.specs.Names.{names_of, with_one}
use Rattle.bison_errors.specs.Reading.{name_errors_of, text_errors_of, tree_of}
use Rattle.bison_tree.specs.Tree.{first_start}

first_none : {A : Type 0} (xs ys : List A) → xs ++ ys ≡ [] → xs ≡ []
first_none xs ys e = nil_from_length xs (omega (arith, length-append xs ys, ap length e))

second_none : {A : Type 0} (xs ys : List A) → xs ++ ys ≡ [] → ys ≡ []
second_none xs ys e = nil_from_length ys (omega (arith, length-append xs ys, ap length e))

some_none : {A : Type 0} (x : A) (xs : List A) → x ∷ xs ≡ [] → ⊥
some_none x xs e = omega (arith, ap length e)

module _ (s : Syntax) where
  abbrev IsKnown : Symbol → Type 0
  IsKnown symbol = symbol_error s symbol ≡ None

  -- no symbol is unknown, neither among these nor among the others after them
  known_before : (symbols others : List Symbol) → unknown_after s [] (symbols ++ others) ≡ [] → All IsKnown symbols × (unknown_after s [] others ≡ [])
  known_before [] others e = (All-nil IsKnown, e)
  known_before (symbol ∷ rest) others e = go (symbol_error s symbol) refl (known_before rest others) e
    where
      name : List ℕ
      name = (symbol_word symbol).name

      go : (error : Option GrammarError) → symbol_error s symbol ≡ error
          → (unknown_after s [] (rest ++ others) ≡ [] → All IsKnown rest × (unknown_after s [] others ≡ []))
          → (if is_some error && not (has_name name []) then unknown_error symbol ∷ unknown_after s (with_one [] name) (rest ++ others) else unknown_after s [] (rest ++ others)) ≡ []
          → All IsKnown (symbol ∷ rest) × (unknown_after s [] others ≡ [])
      go None known further e = let (more, left) = further e in (All-cons IsKnown symbol rest known more, left)
      go (Some error) unknown further e = absurd (some_none (unknown_error symbol) _ e)

  productions_known : (productions : List Production) → unknown_after s [] (flat_map (λ production. production.symbols) productions) ≡ [] → All (Resolves s) productions
  productions_known [] e = All-nil (Resolves s)
  productions_known (production ∷ rest) e =
      let (here, left) = known_before production.symbols (flat_map (λ (production : Production). production.symbols) rest) e in
      All-cons (Resolves s) production rest here (productions_known rest left)

  -- the start exists, and is a rule
  started : (start : Option file.Word) → start_errors s start ≡ [] → (word : file.Word) × (start ≡ Some word) × (has_rule word.name s.rules ≡ true)
  started None e = absurd (some_none (error_at kinds.NoRule _) [] e)
  started (Some word) e = (word, refl, known (has_rule word.name s.rules) refl (second_none _ _ e))
    where
      known : (b : Bool) → has_rule word.name s.rules ≡ b → (if b then [] else error_at kinds.InvalidStart word.span ∷ []) ≡ [] → has_rule word.name s.rules ≡ true
      known true is e = is
      known false is e = absurd (some_none (error_at kinds.InvalidStart word.span) [] e)

  pub none_missing : missing_errors true s ≡ [] → IsResolved s
  none_missing e =
      let start = started s.start (second_none _ _ e) in
      record {
        start = start.0;
        starts = start.1;
        start_is_rule = start.2;
        symbols = productions_known s.productions (first_none _ _ e);
      }

pub tree_is_well_formed : (text : List ℕ) → IsWellFormed (tree_of text)
unfolding tree_of
tree_is_well_formed text = syntax_of-IsWellFormed _

pub tree_is_resolved : (text : List ℕ) → text_errors_of text ≡ [] → name_errors_of text ≡ [] → IsResolved (tree_of text)
tree_is_resolved text none_of_text none_of_names =
    let s = tree_of text in
    let words = words_in text in
    let items = items_in text in
    let declared : List Error = flat_map (declaration_errors words (names_of words items) (first_start items)) items in
    let missing : List Error = missing_errors (length (text_errors_of text) == 0) s in
    let none : missing ≡ [] = second_none (tree_errors s) missing (second_none declared (tree_errors s ++ missing) none_of_names) in
    none_missing s (subst (λ (errors : List Error). missing_errors (length errors == 0) s ≡ []) none_of_text none)
