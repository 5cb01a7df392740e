-- Marks and line numbers by place, as the code indexes them.
use mathlib.Core.{List.List, List.[], List.◌∷◌, List.map, Logic.◌≢◌, Path.◌≡◌, Path.refl, Path.ap}
use Prim.Native.Nat.{ℕ, zero, suc, ◌+◌, ◌-◌, ◌*◌, ◌%◌}
use native.Mathlib.Omega.{arith}
use lib.ListN.{get_or}
use Rattle.semantics.specs.Lists.{digits, digits_of}
use Rattle.ground.specs.Grounded.{called_in, called_at}
use Rattle.builder.specs.Steps.{number_at}

-- the line number of a place, by the place's own number
pub number_at_lem : (space : List ℕ) (c : ℕ) → c ≢ 0 → get_or space (3 * c - 3) 0 % 65536 ≡ number_at space c
number_at_lem space zero z = absurd (z refl)
number_at_lem space (suc j) z = let e : 3 * suc j - 3 ≡ 3 * j = omega arith in ap (λ (i : ℕ). get_or space i 0 % 65536) e

-- the three called places, one by one
pub renamed_by_one : (space : List ℕ) (names : ℕ)
    → names % 256 + 256 * digits 65536 (number_at space (called_at names 0) ∷ number_at space (called_at names 1) ∷ number_at space (called_at names 2) ∷ [])
    ≡ names % 256 + 256 * digits 65536 (map (number_at space) (called_in names))
unfolding digits_of
renamed_by_one space names = refl

pub renamed_is : (space : List ℕ) (names : ℕ) {rule a b c x y z : ℕ} → rule ≡ names % 256 → a ≡ number_at space x → x ≡ called_at names 0
    → b ≡ number_at space y → y ≡ called_at names 1 → c ≡ number_at space z → z ≡ called_at names 2
    → rule + 256 * digits 65536 (a ∷ b ∷ c ∷ []) ≡ names % 256 + 256 * digits 65536 (map (number_at space) (called_in names))
renamed_is space names r a x b y c z = cc (renamed_by_one space names)
