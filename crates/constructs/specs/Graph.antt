-- A function that gives exactly what a relation allows: each x is related to one y only, the function's.
use Rattle.std.specs.Prelude.{◌≡◌}

pub record IsGraph {X Y : Type 0} (R : X → Y → Type 0) (f : X → Y) : Type 0 where
  pub sound : (x : X) → R x (f x)
  pub only : (x : X) (y : Y) → R x y → f x ≡ y
