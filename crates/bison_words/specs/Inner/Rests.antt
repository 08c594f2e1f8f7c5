-- The rest after a character.
use Rattle.std.specs.Prelude.{◌≡◌, List, ℕ, Ok}
use Rattle.bison_words.specs.Runs.{character_of}

abbrev pub IsAfterCharacter : List ℕ → List ℕ → Type 0
IsAfterCharacter text rest = character_of text ≡ Ok (tt, rest)
