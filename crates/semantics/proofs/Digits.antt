-- Numbers side by side in a word, over any base: the word's size, and the numbers back from the word.
use mathlib.Core.List.Memᴰ
use mathlib.Core.{Path.◌≡◌, Path.refl, Path.sym, Path.ap, Path.ap₂, Path.◌∙◌, List.List, List.[], List.◌∷◌}
use Prim.Native.Nat.{ℕ, zero, suc, ◌+◌, ◌*◌, ◌^◌, ◌/◌, ◌≤◌, ◌<◌}
use native.Mathlib.Omega.{arith}
use native.Mathlib.Nat.{pow-zero, pow-suc, mul-le-mul_left, add-mul-mod_self_left, add-mul-div_left, mod-eq_of_lt, div-eq_of_lt}
use lib.ListN.{length}
use Rattle.semantics.specs.Lists.{◌among◌, digits, digits_of}

pub digits_of-length : (base n w : ℕ) → length (digits_of base n w) ≡ n
unfolding digits_of
digits_of-length base zero w = refl
digits_of-length base (suc n) w = ap suc (digits_of-length base n (w / base))

module _ (base : ℕ) where
  more : (x d p : ℕ) → x < base → d < p → x + base * d < base * p
  more x d p h l = let k : base * suc d ≤ base * p = mul-le-mul_left base l in omega arith

  pub digits_below : (k : ℕ) (xs : List ℕ) → 1 ≤ base → length xs ≤ k → ((x : ℕ) → x among xs → x < base) → digits base xs < base ^ k
  unfolding digits
  digits_below zero [] o l h = rw pow-zero (omega arith)
  digits_below zero (x ∷ xs) o l h = absurd (omega arith)
  digits_below (suc k) [] o l h = rw pow-suc (omega (arith, more 0 0 (base ^ k) o (digits_below k [] o (omega arith) h)))
  digits_below (suc k) (x ∷ xs) o l h =
      rw pow-suc (omega (arith, more x (digits base xs) (base ^ k) (h x (Memᴰ.head refl)) (digits_below k xs o (omega arith) (λ y m. h y (Memᴰ.tail m)))))

  pub digits_back : (xs : List ℕ) → ((x : ℕ) → x among xs → x < base) → digits_of base (length xs) (digits base xs) ≡ xs
  unfolding digits_of digits
  digits_back [] h = refl
  digits_back (x ∷ xs) h =
      let l : x < base = h x (Memᴰ.head refl) in
      ap₂ (λ (y : ℕ) (ys : List ℕ). y ∷ ys) (add-mul-mod_self_left x base (digits base xs) ∙ mod-eq_of_lt l)
      (ap (digits_of base (length xs)) (add-mul-div_left x (digits base xs) (omega arith) ∙ omega (arith, div-eq_of_lt l))
      ∙ digits_back xs (λ y m. h y (Memᴰ.tail m)))

  pub digits_equal : (xs ys : List ℕ) → length xs ≡ length ys → ((x : ℕ) → x among xs → x < base) → ((x : ℕ) → x among ys → x < base) → digits base xs ≡ digits base ys → xs ≡ ys
  digits_equal xs ys l hx hy e = sym (digits_back xs hx) ∙ ap₂ (digits_of base) l e ∙ digits_back ys hy
