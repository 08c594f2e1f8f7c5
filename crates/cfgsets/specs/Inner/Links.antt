-- Lists of numbers as links of one list. Links are numbered from 1, and each has the number of the next one of its list, which is less, or 0
-- if it is the last.
use Rattle.std.specs.Prelude.{ℕ, zero, suc, ◌≤◌, List, [], ◌∷◌, length, map, slice_index_or}
use Rattle.cfgsets.specs.declared.dependents.Link.{Link}

abbrev pub link_at : List Link → ℕ → Link
link_at links index = slice_index_or links index (record { production = 0; next = 0 })

-- the numbers from the link with this number on, at most `most` of them
abbrev pub linked : List Link → ℕ → ℕ → List ℕ
linked links zero number = []
linked links (suc most) zero = []
linked links (suc most) (suc index) = (link_at links index).production ∷ linked links most (link_at links index).next

-- the lists that begin with the links of these numbers
abbrev pub lists_of : List ℕ → List Link → List (List ℕ)
lists_of heads links = map (λ head. linked links head head) heads

-- each list begins with a link, or is empty; and each link leads to one before it
pub record AreLinked (heads : List ℕ) (links : List Link) : Type 0 where
  pub within : (rule : ℕ) → slice_index_or heads rule 0 ≤ length links
  pub before : (index : ℕ) → (link_at links index).next ≤ index
