-- What a test says.
use mathlib.Core.{Bool.Bool, Bool.true, Bool.false, Path.◌≡◌}

-- A test's answer: true exactly if the fact holds.
pub record Told (r : Bool) (P : Type 0) : Type 0 where
  pub so : r ≡ true → P
  pub not_so : r ≡ false → ¬ P
