-- The digits of a word by shifts, and digits that are unused.
use mathlib.Core.{Path.◌≡◌, Path.refl, Path.sym, Path.ap, Path.ap₂, Path.◌∙◌, List.List, List.[], List.◌∷◌, List.◌++◌}
use Prim.Native.Nat.{ℕ, zero, suc, ◌+◌, ◌*◌, ◌/◌, ◌%◌, ◌^◌, ◌≤◌, ◌<◌}
use native.Mathlib.{Omega.arith, Nat.div-one}
use lib.{ListN.get_or, Pow.shr-shr, Pow.field, Pow.mod-mod-pow}
use Rattle.semantics.specs.Lists.{digits, digits_of, zeros}
use Rattle.words.specs.Entries.{tabulate}

-- digit k is what a shift by k digits leaves lowest
pub digit_at_lem : (bits n w k : ℕ) → k < n → get_or (digits_of (2 ^ bits) n w) k 0 ≡ w / 2 ^ (bits * k) % 2 ^ bits
unfolding digits_of
digit_at_lem bits zero w k h = absurd (omega arith)
digit_at_lem bits (suc n) w zero h =
    let e : bits * 0 ≡ 0 = omega arith in
    ap (λ (m : ℕ). m % 2 ^ bits) (sym (div-one w)) ∙ ap (λ (m : ℕ). w / 2 ^ m % 2 ^ bits) (sym e)
digit_at_lem bits (suc n) w (suc k) h =
    let e : bits + bits * k ≡ bits * suc k = omega arith in
    digit_at_lem bits n (w / 2 ^ bits) k (omega arith)
    ∙ ap (λ (m : ℕ). m % 2 ^ bits) (shr-shr w bits (bits * k) ∙ ap (λ (m : ℕ). w / 2 ^ m) e)

-- the n lowest digits are those of the word cut off after them
pub digits_cut : (bits n w : ℕ) → digits_of (2 ^ bits) n (w % 2 ^ (bits * n)) ≡ digits_of (2 ^ bits) n w
unfolding digits_of
digits_cut bits zero w = refl
digits_cut bits (suc n) w =
    let e : bits * suc n ≡ bits * n + bits = omega arith in
    rw e (ap₂ (λ (x : ℕ) (xs : List ℕ). x ∷ xs) (mod-mod-pow w (bits * n) bits)
    (ap (digits_of (2 ^ bits) n) (field w (bits * n) bits) ∙ digits_cut bits n (w / 2 ^ bits)))

-- unused entries are 0 and change nothing
pub digits-padded : (base : ℕ) (xs : List ℕ) (n : ℕ) → digits base (xs ++ zeros n) ≡ digits base xs
unfolding digits
digits-padded base [] zero = refl
digits-padded base [] (suc n) = ap (λ (d : ℕ). 0 + base * d) (digits-padded base [] n) ∙ omega arith
digits-padded base (x ∷ xs) n = ap (λ (d : ℕ). x + base * d) (digits-padded base xs n)

-- the same where the entries are computed
pub digits_unused : (base n m : ℕ) (f : ℕ → ℕ) → n ≤ m → ((i : ℕ) → n ≤ i → i < m → f i ≡ 0) → digits base (tabulate m f) ≡ digits base (tabulate n f)
unfolding digits tabulate
digits_unused base zero zero f h e = refl
digits_unused base zero (suc m) f h e =
    let first : f 0 ≡ 0 = e 0 (omega arith) (omega arith) in
    ap (λ (d : ℕ). f 0 + base * d) (digits_unused base zero m (λ i. f (suc i)) (omega arith) (λ i l k. e (suc i) (omega arith) (omega arith)))
    ∙ omega arith
digits_unused base (suc n) zero f h e = absurd (omega arith)
digits_unused base (suc n) (suc m) f h e =
    ap (λ (d : ℕ). f 0 + base * d) (digits_unused base n m (λ i. f (suc i)) (omega arith) (λ i l k. e (suc i) (omega arith) (omega arith)))
