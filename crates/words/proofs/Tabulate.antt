-- Lists given by their entries: length, entry, one more at the end, and equality of two.
use mathlib.Core.Path.{◌≡◌, refl, ap, ap₂, ◌∙◌}
use mathlib.Core.List.Memᴰ
use mathlib.Core.List.{List, [], ◌∷◌, ◌++◌, map}
use mathlib.Core.Logic.{⊎_elim}
use Prim.Native.Nat.{ℕ, zero, suc, ◌+◌, ◌≤◌, ◌<◌}
use native.Mathlib.Omega.{arith}
use lib.{ListN.length, ListN.get_or, ListN.drop, ListN.drop_of_length-le, Seq.drop-cons}
use Rattle.semantics.specs.Lists.{◌among◌}
use Rattle.words.specs.Entries.{tabulate, entries}

pub tabulate-length : {A : Type 0} (n : ℕ) (f : ℕ → A) → length (tabulate n f) ≡ n
unfolding tabulate
tabulate-length zero f = refl
tabulate-length (suc n) f = ap suc (tabulate-length n (λ i. f (suc i)))

pub entries-length : (block : List ℕ) (from n : ℕ) → length (entries block from n) ≡ n
entries-length block from n = tabulate-length n (λ (i : ℕ). get_or block (from + i) 0)

pub tabulate_at : {A : Type 0} (n : ℕ) (f : ℕ → A) (d : A) (i : ℕ) → i < n → get_or (tabulate n f) i d ≡ f i
unfolding tabulate
tabulate_at zero f d i h = absurd (omega arith)
tabulate_at (suc n) f d zero h = refl
tabulate_at (suc n) f d (suc i) h = tabulate_at n (λ j. f (suc j)) d i (omega arith)

pub tabulate_more : {A : Type 0} (n : ℕ) (f : ℕ → A) → tabulate (suc n) f ≡ tabulate n f ++ (f n ∷ [])
unfolding tabulate
tabulate_more zero f = refl
tabulate_more {A} (suc n) f = ap (λ (l : List A). f 0 ∷ l) (tabulate_more n (λ i. f (suc i)))

pub tabulate_same : {A : Type 0} (n : ℕ) (f g : ℕ → A) → ((i : ℕ) → i < n → f i ≡ g i) → tabulate n f ≡ tabulate n g
unfolding tabulate
tabulate_same zero f g h = refl
tabulate_same {A} (suc n) f g h = ap₂ (λ (x : A) (xs : List A). x ∷ xs) (h 0 (omega arith)) (tabulate_same n (λ i. f (suc i)) (λ i. g (suc i)) (λ i l. h (suc i) (omega arith)))

pub tabulate-map : {A B : Type 0} (g : A → B) (n : ℕ) (f : ℕ → A) → map g (tabulate n f) ≡ tabulate n (λ (i : ℕ). g (f i))
unfolding tabulate
tabulate-map g zero f = refl
tabulate-map {A} {B} g (suc n) f = ap (λ (l : List B). g (f 0) ∷ l) (tabulate-map g n (λ i. f (suc i)))

pub tabulate_in : {A : Type 0} (n : ℕ) (f : ℕ → A) (i : ℕ) → i < n → f i among tabulate n f
unfolding tabulate
tabulate_in zero f i h = absurd (omega arith)
tabulate_in (suc n) f zero h = Memᴰ.head refl
tabulate_in (suc n) f (suc i) h = Memᴰ.tail (tabulate_in n (λ j. f (suc j)) i (omega arith))

pub tabulate_out : {A : Type 0} (n : ℕ) (f : ℕ → A) (a : A) → a among tabulate n f → (i : ℕ) × (i < n) × (a ≡ f i)
unfolding tabulate
tabulate_out zero f a m = absurd (Memᴰ.not-nil m)
tabulate_out (suc n) f a m =
    ⊎_elim (λ e. (0, omega arith, e)) (λ k. let (i, l, e) = tabulate_out n (λ j. f (suc j)) a k in (suc i, omega arith, e)) (Memᴰ.cases_cons m)

-- a list is its entries
pub tabulate-get_or : {A : Type 0} (xs : List A) (d : A) → tabulate (length xs) (λ (i : ℕ). get_or xs i d) ≡ xs
unfolding tabulate
tabulate-get_or [] d = refl
tabulate-get_or {A} (x ∷ xs) d = ap (λ (l : List A). x ∷ l) (tabulate-get_or xs d)

-- what is left from an entry on, and past the last
pub tabulate-drop : {A : Type 0} (n : ℕ) (f : ℕ → A) (k : ℕ) → k < n → drop k (tabulate n f) ≡ f k ∷ drop (k + 1) (tabulate n f)
tabulate-drop {A} n f k h =
    let e : suc k ≡ k + 1 = omega arith in
    drop-cons (tabulate n f) k (f k) (omega (arith, tabulate-length n f))
    ∙ ap₂ (λ (x : A) (j : ℕ). x ∷ drop j (tabulate n f)) (tabulate_at n f (f k) k h) e

pub tabulate_past : {A : Type 0} (n : ℕ) (f : ℕ → A) (k : ℕ) → n ≤ k → drop k (tabulate n f) ≡ []
tabulate_past n f k h = drop_of_length-le (tabulate n f) {i = k} (omega (arith, tabulate-length n f))

-- one part after the other
pub tabulate_add : {A : Type 0} (m n : ℕ) (f : ℕ → A) → tabulate (m + n) f ≡ tabulate m f ++ tabulate n (λ (i : ℕ). f (m + i))
unfolding tabulate
tabulate_add {A} zero n f =
    let e : 0 + n ≡ n = omega arith in
    rw e (tabulate_same n f (λ i. f (0 + i)) (λ i l. let z : 0 + i ≡ i = omega arith in rw z refl))
tabulate_add {A} (suc m) n f =
    let e : suc m + n ≡ suc (m + n) = omega arith in
    rw e (ap (λ (l : List A). f 0 ∷ l) (tabulate_add m n (λ i. f (suc i))
    ∙ ap (λ (l : List A). tabulate m (λ (i : ℕ). f (suc i)) ++ l)
    (tabulate_same n (λ i. f (suc (m + i))) (λ i. f (suc m + i)) (λ i l. let z : suc m + i ≡ suc (m + i) = omega arith in rw z refl))))

-- four entries
pub entries-four : (block : List ℕ) (from : ℕ)
    → get_or block from 0 ∷ get_or block (from + 1) 0 ∷ get_or block (from + 2) 0 ∷ get_or block (from + 3) 0 ∷ [] ≡ entries block from 4
unfolding tabulate
entries-four block from =
    let e : from ≡ from + 0 = omega arith in
    ap (λ (i : ℕ). get_or block i 0 ∷ get_or block (from + 1) 0 ∷ get_or block (from + 2) 0 ∷ get_or block (from + 3) 0 ∷ []) e
