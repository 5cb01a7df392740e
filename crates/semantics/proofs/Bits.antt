-- Bits of a number, and the set of a list without repeats as a number.
use mathlib.Core.{Path.◌≡◌, Path.refl, Path.sym, Path.ap, Path.◌∙◌, Logic.◌≢◌, Logic.⊎_elim, Logic.by_cases}
use mathlib.Core.List.Memᴰ
use mathlib.Core.List.{List, [], ◌∷◌, ◌++◌}
use Prim.Native.Nat.{ℕ, zero, suc, ◌+◌, ◌-◌, ◌/◌, ◌%◌, ◌^◌, ◌≤◌, ◌<◌, min}
use native.Mathlib.{Nat.pow-suc, Nat.pow-succ', Nat.div-div-eq-div-mul, Nat.div-one, Omega.arith, Decide.ℕ_discrete, Decide.dec_lt}
use lib.{Pow.pow_pos, Bits.bit_and, Bits.and_step}
use Rattle.semantics.specs.{Lists.◌among◌, Lists.Distinct, Heap.set_of}

-- bit i of n, 0 or 1
pub bit : ℕ → ℕ → ℕ
bit n zero = n % 2
bit n (suc i) = bit (n / 2) i

pub bit_zero : (i : ℕ) → bit 0 i ≡ 0
unfolding bit
bit_zero zero = refl
bit_zero (suc i) = bit_zero i

pub bit_few : (n i : ℕ) → bit n i ≤ 1
unfolding bit
bit_few n zero = omega arith
bit_few n (suc i) = bit_few (n / 2) i

-- the same by one division
pub bit_at : (n i : ℕ) → n / 2 ^ i % 2 ≡ bit n i
unfolding bit
bit_at n zero = ap (λ (m : ℕ). m % 2) (div-one n)
bit_at n (suc i) = ap (λ (m : ℕ). m % 2) (ap (λ (m : ℕ). n / m) (pow-succ' 2 i) ∙ sym (div-div-eq-div-mul n 2 (2 ^ i))) ∙ bit_at (n / 2) i

-- adding a power whose bit is 0 sets that bit
pub bit_add_same : (m i : ℕ) → bit m i ≡ 0 → bit (2 ^ i + m) i ≡ 1
unfolding bit
bit_add_same m zero h = omega arith
bit_add_same m (suc i) h =
    ap (λ (n : ℕ). bit n i) (omega (arith, pow-suc 2 i)) ∙ bit_add_same (m / 2) i h

-- and no other
pub bit_add_other : (m i j : ℕ) → bit m i ≡ 0 → i ≢ j → bit (2 ^ i + m) j ≡ bit m j
unfolding bit
bit_add_other m zero zero h n = absurd (n refl)
bit_add_other m zero (suc j) h n = ap (λ (k : ℕ). bit k j) (omega arith)
bit_add_other m (suc i) zero h n = omega (arith, pow-suc 2 i)
bit_add_other m (suc i) (suc j) h n =
    ap (λ (k : ℕ). bit k j) (omega (arith, pow-suc 2 i)) ∙ bit_add_other (m / 2) i j h (λ e. n (ap suc e))

-- the bits of a conjunction
pub bit_and_lem : (a b i : ℕ) → bit (bit_and a b) i ≡ min (bit a i) (bit b i)
unfolding bit
bit_and_lem a b zero = omega (arith, and_step a b)
bit_and_lem a b (suc i) = ap (λ (k : ℕ). bit k i) (omega (arith, and_step a b)) ∙ bit_and_lem (a / 2) (b / 2) i

-- a number that is not 0 has a bit that is one
some_bit_fuel : (n fuel : ℕ) → n ≤ fuel → n ≢ 0 → (i : ℕ) × (bit n i ≡ 1)
unfolding bit
some_bit_fuel n zero h z = absurd (z (omega arith))
some_bit_fuel n (suc fuel) h z =
    by_cases (ℕ_discrete (n % 2) 1) (λ p. (0, p))
    (λ q. let (i, e) = some_bit_fuel (n / 2) fuel (omega arith) (λ e. z (omega (arith, e, q))) in (suc i, e))

pub some_bit : (n : ℕ) → n ≢ 0 → (i : ℕ) × (bit n i ≡ 1)
some_bit n z = some_bit_fuel n n (omega arith) z

bits_zero : (n : ℕ) → ((i : ℕ) → bit n i ≡ 0) → n ≡ 0
bits_zero n none = by_cases (ℕ_discrete n 0) (λ e. e) (λ z. let (i, e) = some_bit n z in absurd (omega (arith, e, none i)))

pub bits_below : (n k : ℕ) → ((i : ℕ) → k ≤ i → bit n i ≡ 0) → n < 2 ^ k
unfolding bit
bits_below n zero none = let e = bits_zero n (λ i. none i (omega arith)) in omega arith
bits_below n (suc k) none =
    let h = bits_below (n / 2) k (λ i l. none (suc i) (omega arith)) in
    omega (arith, pow-suc 2 k)

-- the bits of the set of a list without repeats are its members
pub bit_out : (is : List ℕ) → Distinct is → (j : ℕ) → ¬ (j among is) → bit (set_of is) j ≡ 0
bit_out [] d j n = bit_zero j
bit_out (i ∷ is) (Distinct.next h d) j n =
    bit_add_other (set_of is) i j (bit_out is d i h) (λ e. n (Memᴰ.head (sym e))) ∙ bit_out is d j (λ m. n (Memᴰ.tail m))

pub bit_in : (is : List ℕ) → Distinct is → (j : ℕ) → j among is → bit (set_of is) j ≡ 1
bit_in [] d j m = absurd (Memᴰ.not-nil m)
bit_in (i ∷ is) (Distinct.next h d) j m =
    ⊎_elim (λ (e : j ≡ i). rw e (bit_add_same (set_of is) i (bit_out is d i h)))
    (λ k. bit_add_other (set_of is) i j (bit_out is d i h) (λ e. h (Memᴰ.cast e k)) ∙ bit_in is d j k) (Memᴰ.cases_cons m)

-- membership is decided
pub dec_in : (i : ℕ) (is : List ℕ) → Dec (i among is)
dec_in i [] = no Memᴰ.not-nil
dec_in i (x ∷ is) =
    by_cases (ℕ_discrete i x) (λ e. yes (Memᴰ.head e))
    (λ n. by_cases (dec_in i is) (λ m. yes (Memᴰ.tail m)) (λ n'. no (λ h. ⊎_elim n n' (Memᴰ.cases_cons h))))

-- what is in a list and not its head is in the rest
pub in_rest : {x y : ℕ} {ys : List ℕ} → x ≢ y → x among y ∷ ys → x among ys
in_rest n m = ⊎_elim (λ e. absurd (n e)) (λ k. k) (Memᴰ.cases_cons m)

pub set_of-append : (xs ys : List ℕ) → set_of (xs ++ ys) ≡ set_of xs + set_of ys
set_of-append [] ys = omega arith
set_of-append (x ∷ xs) ys = omega (arith, set_of-append xs ys)

-- lists without repeats, put together and taken apart
pub distinct_left : (xs ys : List ℕ) → Distinct (xs ++ ys) → Distinct xs
distinct_left [] ys d = Distinct.none
distinct_left (x ∷ xs) ys (Distinct.next n d) = Distinct.next (λ m. n (Memᴰ.append_left ys m)) (distinct_left xs ys d)

pub distinct_right : (xs ys : List ℕ) → Distinct (xs ++ ys) → Distinct ys
distinct_right [] ys d = d
distinct_right (x ∷ xs) ys (Distinct.next n d) = distinct_right xs ys d

pub distinct_apart : (xs ys : List ℕ) → Distinct (xs ++ ys) → (i : ℕ) → i among xs → ¬ (i among ys)
distinct_apart [] ys d i m k = Memᴰ.not-nil m
distinct_apart (x ∷ xs) ys (Distinct.next n d) i m k =
    ⊎_elim (λ (e : i ≡ x). n (Memᴰ.append_right xs (Memᴰ.cast (sym e) k))) (λ (m' : i among xs). distinct_apart xs ys d i m' k) (Memᴰ.cases_cons m)

pub distinct_append : (xs ys : List ℕ) → Distinct xs → Distinct ys → ((i : ℕ) → i among xs → ¬ (i among ys)) → Distinct (xs ++ ys)
distinct_append [] ys dx dy apart = dy
distinct_append (x ∷ xs) ys (Distinct.next n dx) dy apart =
    Distinct.next (λ m. ⊎_elim n (apart x (Memᴰ.head refl)) (Memᴰ.append_cases xs m))
    (distinct_append xs ys dx dy (λ i m. apart i (Memᴰ.tail m)))

-- a set of numbers below k is below 2 ^ k
pub set_of_below : (k : ℕ) (is : List ℕ) → Distinct is → ((i : ℕ) → i among is → i < k) → set_of is < 2 ^ k
set_of_below k is d below = bits_below (set_of is) k (λ i h. bit_out is d i (λ m. omega (arith, below i m)))

-- the set of all numbers below n
bit_ones_in : (n i : ℕ) → i < n → bit (2 ^ n - 1) i ≡ 1
unfolding bit
bit_ones_in zero i h = absurd (omega arith)
bit_ones_in (suc n) zero h = omega (arith, pow-suc 2 n, pow_pos n)
bit_ones_in (suc n) (suc i) h = ap (λ (k : ℕ). bit k i) (omega (arith, pow-suc 2 n, pow_pos n)) ∙ bit_ones_in n i (omega arith)

bit_ones_out : (n i : ℕ) → n ≤ i → bit (2 ^ n - 1) i ≡ 0
unfolding bit
bit_ones_out zero i h = bit_zero i
bit_ones_out (suc n) zero h = absurd (omega arith)
bit_ones_out (suc n) (suc i) h = ap (λ (k : ℕ). bit k i) (omega (arith, pow-suc 2 n, pow_pos n)) ∙ bit_ones_out n i (omega arith)

same_bits_fuel : (a b fuel : ℕ) → a ≤ fuel → b ≤ fuel → ((i : ℕ) → bit a i ≡ bit b i) → a ≡ b
unfolding bit
same_bits_fuel a b zero ha hb h = omega arith
same_bits_fuel a b (suc fuel) ha hb h =
    omega (arith, h 0, same_bits_fuel (a / 2) (b / 2) fuel (omega arith) (omega arith) (λ i. h (suc i)))

pub same_bits : (a b : ℕ) → ((i : ℕ) → bit a i ≡ bit b i) → a ≡ b
same_bits a b h = same_bits_fuel a b (a + b) (omega arith) (omega arith) h

pub whole_set : (n : ℕ) (is : List ℕ) → Distinct is → ((i : ℕ) → i among is → i < n) → ((i : ℕ) → i < n → i among is) → set_of is ≡ 2 ^ n - 1
whole_set n is d below all = same_bits (set_of is) (2 ^ n - 1)
    (λ i. by_cases (dec_lt i n) (λ h. bit_in is d i (all i h) ∙ sym (bit_ones_in n i h))
    (λ h. bit_out is d i (λ m. h (below i m)) ∙ sym (bit_ones_out n i (omega arith))))

pub whole_members : (n : ℕ) (is : List ℕ) → Distinct is → set_of is ≡ 2 ^ n - 1 → (i : ℕ) → i < n → i among is
whole_members n is d e i h =
    by_cases (dec_in i is) (λ m. m) (λ k. absurd (omega (arith, bit_out is d i k, bit_ones_in n i h, ap (λ (m : ℕ). bit m i) e)))

pub whole_below : (n k : ℕ) → n ≤ k → 2 ^ n - 1 < 2 ^ k
whole_below n k h = bits_below (2 ^ n - 1) k (λ i l. bit_ones_out n i (omega arith))
