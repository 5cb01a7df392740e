-- Counting the marked places: each gets the next number, so the numbers rise with the places and none is left out.
use mathlib.Core.{List.List, Logic.◌≢◌, Logic.⊎_elim, Path.◌≡◌, Path.refl, Bool.true, Bool.false}
use Prim.Native.Nat.{ℕ, zero, suc, ◌≤◌, ◌<◌}
use native.Mathlib.{Omega.arith, Decide.ℕ_discrete, Decide.dec_lt, Nat.eq-or-lt_of_le}
use borrow.Author.Tests.{eq-eqb, ne_eqb, lt-ltb, le-ltb}
use lib.Dec.{ltb}
use Rattle.builder.specs.Space.{mark_at, count}

module _ (space : List ℕ) where
  pub count_marked : (n : ℕ) → mark_at space n ≢ 0 → count space (suc n) ≡ suc (count space n)
  unfolding count
  count_marked n z = rw (ne_eqb (mark_at space n) 0 z, count) refl

  pub count_free : (n : ℕ) → mark_at space n ≡ 0 → count space (suc n) ≡ count space n
  unfolding count
  count_free n e = rw (eq-eqb (mark_at space n) 0 e, count) refl

  count_more : (n : ℕ) → (count space n ≤ count space (suc n)) × (count space (suc n) ≤ suc (count space n))
  count_more n = step (ℕ_discrete (mark_at space n) 0)
    where
      step : Dec (mark_at space n ≡ 0) → (count space n ≤ count space (suc n)) × (count space (suc n) ≤ suc (count space n))
      step (yes e) = rw (count_free n e) (omega arith, omega arith)
      step (no z) = rw (count_marked n z) (omega arith, omega arith)

  pub count_rises : (m n : ℕ) → m ≤ n → count space m ≤ count space n
  count_rises m zero h = let e : m ≡ 0 = omega arith in rw e (omega arith)
  count_rises m (suc n) h =
      ⊎_elim (λ (e : m ≡ suc n). rw e (omega arith)) (λ (l : m < suc n). omega (arith, count_rises m n (omega arith), (count_more n).0)) (eq-or-lt_of_le h)

  pub count_below : (n : ℕ) → count space n ≤ n
  unfolding count
  count_below zero = omega arith
  count_below (suc n) = omega (arith, count_below n, (count_more n).1)

  -- a later marked place has a larger number
  pub count_apart : (i j : ℕ) → i < j → mark_at space i ≢ 0 → count space i < count space j
  count_apart i j l z = omega (arith, count_marked i z, count_rises (suc i) j l)

  -- places with the same number are the same
  pub count_same : (i j : ℕ) → mark_at space i ≢ 0 → mark_at space j ≢ 0 → count space i ≡ count space j → i ≡ j
  count_same i j zi zj e = step (dec_lt i j) (dec_lt j i)
    where
      step : Dec (i < j) → Dec (j < i) → i ≡ j
      step (yes l) d = absurd (omega (arith, count_apart i j l zi))
      step (no n) (yes l) = absurd (omega (arith, count_apart j i l zj))
      step (no n) (no m) = omega arith

  -- The place of number k among the first n: the last one below which no more than k are marked.
  unfoldable pub place_of : ℕ → ℕ → ℕ
  place_of zero k = 0
  place_of (suc n) k = elim (ltb k (count space n)) [ true ↦ place_of n k | false ↦ n ]

  pub record Numbered (n k place : ℕ) : Type 0 where
    pub within : place < n
    pub marked : mark_at space place ≢ 0
    pub is : count space place ≡ k

  pub numbered : (n k : ℕ) → k < count space n → Numbered n k (place_of n k)
  unfolding count place_of
  numbered zero k h = absurd (omega arith)
  numbered (suc n) k h = step (dec_lt k (count space n)) (numbered n k)
    where
      step : Dec (k < count space n) → (k < count space n → Numbered n k (place_of n k)) → Numbered (suc n) k (place_of (suc n) k)
      step (yes l) rec = let r = rec l in rw (lt-ltb k (count space n) l, place_of) (record { within = omega (arith, r.within); marked = r.marked; is = r.is })
      step (no z) rec =
          rw (le-ltb k (count space n) (omega arith), place_of)
          (record { within = omega arith; marked = λ e. omega (arith, count_free n e); is = omega (arith, (count_more n).1) })
