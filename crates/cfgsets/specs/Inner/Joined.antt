-- The union of two lists of bits.
use Rattle.std.specs.Prelude.{◌≡◌, ◌≢◌, ◌||◌, Bool, List, map, MatchBool}
use Rattle.std.specs.List.{zip}

-- a bit is on if it is on in at least one of the two
abbrev pub joined : List Bool → List Bool → List Bool
joined a b = map (λ pair. pair.0 || pair.1) (zip a b)

-- `changed` says whether the new list differs from the old one
abbrev pub GrewTo : List Bool → List Bool → Bool → Type 0
GrewTo old new changed = MatchBool changed (new ≢ old) (new ≡ old)
