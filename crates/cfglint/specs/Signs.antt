-- What only Bison's files have: as a sign that a text is one, if it names no kind.
use Rattle.std.specs.Prelude.{ℕ, List, [], ◌∷◌, Contains, codes}
use Rattle.std.specs.Str.Iter.{HasSubslice}

-- what the library's kinds of Yacc don't have: most of Bison's declarations, and tags in the others
abbrev pub bison_signs : List (List ℕ)
bison_signs = codes "%{" ∷ codes "%union" ∷ codes "%type" ∷ codes "%define" ∷ codes "%code" ∷ codes "%nterm" ∷
    codes "%precedence" ∷ codes "%destructor" ∷ codes "%printer" ∷ codes "%locations" ∷ codes "%debug" ∷ codes "%pure-parser" ∷
    codes "%pure_parser" ∷ codes "%lex-param" ∷ codes "%name-prefix" ∷ codes "%require" ∷ codes "%skeleton" ∷ codes "%language" ∷
    codes "%defines" ∷ codes "%token-table" ∷ codes "%error-verbose" ∷ codes "%initial-action" ∷ codes "%glr-parser" ∷
    codes "%binary" ∷ codes "%term" ∷ codes "%token <" ∷ codes "%token<" ∷ codes "%left <" ∷ codes "%left<" ∷ codes "%right <" ∷
    codes "%right<" ∷ codes "%nonassoc <" ∷ codes "%nonassoc<" ∷ []

-- one of these words is somewhere in the text
pub record HasOneOf (text : List ℕ) (words : List (List ℕ)) : Type 0 where
  pub word : List ℕ
  pub listed : Contains words word
  pub there : HasSubslice text word

abbrev pub HasBisonSign : List ℕ → Type 0
HasBisonSign text = HasOneOf text bison_signs
