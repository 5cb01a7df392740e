-- Positions in a line's second word: digit by digit, as the check passes them, and all at once, as the definition has them.
use mathlib.Core.Path.{◌≡◌, refl}
use mathlib.Core.List.Memᴰ
use mathlib.Core.List.{List, [], ◌∷◌}
use mathlib.Core.Logic.{⊎_elim, ◌↔◌}
use Prim.Native.Nat.{ℕ, zero, suc, ◌+◌, ◌-◌, ◌*◌, ◌/◌, ◌%◌, ◌≤◌, ◌<◌}
use native.Mathlib.Omega.{arith}
use lib.ListN.{length}
use Rattle.semantics.specs.Lists.{◌among◌, digits, digits_of}
use Rattle.certificate.specs.Line.{Positions}

-- ---- one position on, and the end

pub positions_step : (n left word : ℕ) → 0 < left → Positions n left word ↔ ((word % 256 < n) × Positions n (left - 1) (word / 256))
unfolding Positions
positions_step n zero word h = absurd (omega arith)
positions_step n (suc left) word h = let e : suc left - 1 ≡ left = omega arith in rw e (λ p. p, λ p. p)

pub positions_done : (n left word : ℕ) → left ≤ 0 → Positions n left word ↔ (word ≡ 0)
unfolding Positions
positions_done n zero word h = (λ p. p, λ p. p)
positions_done n (suc left) word h = absurd (omega arith)

-- ---- all positions

-- the word is that of its digits
pub positions_word : (n v word : ℕ) → Positions n v word → word ≡ digits 256 (digits_of 256 v word)
unfolding Positions digits digits_of
positions_word n zero word p = p
positions_word n (suc v) word p = omega (arith, positions_word n v (word / 256) p.1)

pub positions_below : (n v word : ℕ) → Positions n v word → (p : ℕ) → p among digits_of 256 v word → p < n
unfolding Positions digits_of
positions_below n zero word h p m = absurd (Memᴰ.not-nil m)
positions_below n (suc v) word h p m =
    ⊎_elim (λ (e : p ≡ word % 256). rw e h.0) (positions_below n v (word / 256) h.1 p) (Memᴰ.cases_cons m)

-- and a word of positions passes
pub positions_pass : (n : ℕ) (ps : List ℕ) → n ≤ 256 → ((p : ℕ) → p among ps → p < n) → Positions n (length ps) (digits 256 ps)
unfolding Positions digits
positions_pass n [] few h = refl
positions_pass n (p ∷ ps) few h =
    let l : p < n = h p (Memᴰ.head refl) in
    let d : (p + 256 * digits 256 ps) / 256 ≡ digits 256 ps = omega arith in
    (omega arith, rw d (positions_pass n ps few (λ q m. h q (Memᴰ.tail m))))
