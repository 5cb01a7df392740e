-- What can be decided of each member of a list, or of each number below another, can be decided of all, and of some.
use mathlib.Core.List.Memᴰ
use mathlib.Core.{Path.refl, Path.sym, Path.subst, Logic.⊎_elim, List.List, List.[], List.◌∷◌}
use Prim.Native.Nat.{ℕ, zero, suc, ◌<◌}
use native.Mathlib.{Omega.arith, Decide.ℕ_discrete}
use Rattle.semantics.specs.Lists.{◌among◌}

pub all_decided : {A : Type 0} (P : A → Type 0) (xs : List A) → ((x : A) → x among xs → Dec (P x)) → Dec ((x : A) → x among xs → P x)
all_decided P [] d = yes (λ x m. absurd (Memᴰ.not-nil m))
all_decided {A} P (y ∷ ys) d = step (d y (Memᴰ.head refl)) (all_decided P ys (λ x m. d x (Memᴰ.tail m)))
  where
    step : Dec (P y) → Dec ((x : A) → x among ys → P x) → Dec ((x : A) → x among y ∷ ys → P x)
    step (yes p) (yes q) = yes (λ x m. ⊎_elim (λ e. subst P (sym e) p) (q x) (Memᴰ.cases_cons m))
    step (yes p) (no n) = no (λ h. n (λ x m. h x (Memᴰ.tail m)))
    step (no n) q = no (λ h. n (h y (Memᴰ.head refl)))

pub some_decided : {A : Type 0} (P : A → Type 0) (xs : List A) → ((x : A) → x among xs → Dec (P x)) → Dec ((x : A) × (x among xs) × P x)
some_decided P [] d = no (λ w. Memᴰ.not-nil w.1)
some_decided {A} P (y ∷ ys) d = step (d y (Memᴰ.head refl)) (some_decided P ys (λ x m. d x (Memᴰ.tail m)))
  where
    step : Dec (P y) → Dec ((x : A) × (x among ys) × P x) → Dec ((x : A) × (x among y ∷ ys) × P x)
    step (yes p) q = yes (y, Memᴰ.head refl, p)
    step (no n) (yes w) = yes (w.0, Memᴰ.tail w.1, w.2)
    step (no n) (no m) = no (λ w. ⊎_elim (λ e. n (subst P e w.2)) (λ k. m (w.0, k, w.2)) (Memᴰ.cases_cons w.1))

pub below_decided : (P : ℕ → Type 0) (n : ℕ) → ((v : ℕ) → v < n → Dec (P v)) → Dec ((v : ℕ) → v < n → P v)
below_decided P zero d = yes (λ v h. absurd (omega arith))
below_decided P (suc n) d = step (d n (omega arith)) (below_decided P n (λ v h. d v (omega arith)))
  where
    step : Dec (P n) → Dec ((v : ℕ) → v < n → P v) → Dec ((v : ℕ) → v < suc n → P v)
    step (yes p) (yes q) = yes (λ v h. elim (ℕ_discrete v n) [ yes e ↦ subst P (sym e) p | no m ↦ q v (omega arith) ])
    step (yes p) (no m) = no (λ h. m (λ v l. h v (omega arith)))
    step (no m) q = no (λ h. m (h n (omega arith)))
