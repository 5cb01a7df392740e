-- A mask of all records, told by one comparison.
use mathlib.Core.Path.{◌≡◌}
use Prim.Native.Nat.{ℕ, ◌+◌, ◌-◌, ◌^◌}
use native.Mathlib.Omega.{arith}
use lib.{Pow.pow_pos, Dec.eqb}
use Rattle.words.specs.Told.{Told}
use Rattle.words.proofs.Answers.{told_equal}

-- a mask is all ones if one more is the next power
pub whole_told : (mask n x y : ℕ) → x ≡ mask + 1 → y ≡ 2 ^ n → Told (eqb x y) (mask ≡ 2 ^ n - 1)
whole_told mask n x y a b = told_equal x y (λ e. omega (arith, e, a, b, pow_pos n)) (λ e. omega (arith, e, a, b, pow_pos n))
