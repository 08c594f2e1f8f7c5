-- The tokens of a rule's set, as they are written.
use Rattle.std.specs.Prelude.{◌≡◌, ℕ, List, [], ◌++◌, Bool, if◌then◌else◌, Option, Some, codes}
use Rattle.std.specs.Option.{option_map_or}
use Rattle.cfgrammar.specs.Numbered.{NumberedToken}

-- ` "NAME"`
abbrev pub quoted : List ℕ → List ℕ
quoted name = codes " \"" ++ (name ++ codes "\"")

-- the name of a token in a set; the end token has no name, and is written as `end`
abbrev pub set_word : List ℕ → (ℕ → Bool) → ℕ × NumberedToken → List ℕ
set_word end among token = if among token.0 then option_map_or quoted token.1.name end else []

-- what is added is the text shown
abbrev pub Adds : Option (List ℕ) → List ℕ → List ℕ → Type 0
Adds shown old new = (text : List ℕ) × (shown ≡ Some text) × (new ≡ old ++ text)
