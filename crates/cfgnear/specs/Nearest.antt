-- Which of some names another name is probably meant to be. Names are UTF-8.
use Rattle.std.specs.Prelude.{ℕ, ◌+◌, ◌-◌, ◌/◌, ◌&&◌, Bool, List, Option, length, min, nat_eq, nat_lt, not}
use Rattle.std.specs.List.{find, list_any}
use Rattle.std.specs.Str.{bytes_eq, chars}
use Rattle.strsim.specs.Edits.{levenshtein_row}

-- the least number of characters that are inserted, deleted or replaced to make one name of another
abbrev pub distance : List ℕ → List ℕ → ℕ
distance name other = levenshtein_row nat_eq (chars name) (chars other) (length (chars other))

-- how many a name that is near may need: a third of the name's characters, rounded up, and fewer than all
abbrev pub most_edits : List ℕ → ℕ
most_edits name = min ((length (chars name) + 2) / 3) (length (chars name) - 1)

-- whether it is another name that needs fewer than so many
abbrev pub is_closer : List ℕ → List ℕ → ℕ → Bool
is_closer name other bound = not (bytes_eq name other) && nat_lt (distance name other) bound

-- whether it is another name that is near enough
abbrev pub is_near : List ℕ → List ℕ → Bool
is_near name other = is_closer name other (most_edits name + 1)

-- whether this is one of the nearest names: it is near, and none is closer
abbrev pub is_nearest : List ℕ → List (List ℕ) → List ℕ → Bool
is_nearest name names other = is_near name other && not (list_any (λ another. is_closer name another (distance name other)) names)

-- the first of the nearest names, if one is near
abbrev pub nearest : List ℕ → List (List ℕ) → Option (List ℕ)
nearest name names = find (is_nearest name names) names
