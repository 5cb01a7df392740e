-- The addresses of a heap in order differ, so that values decide which records points-to atoms take.
use mathlib.Core.{Path.◌≡◌, Path.refl, Path.sym, Path.ap, Path.ap₂, Path.◌∙◌, Logic.⊎_elim, Logic.by_cases, List.List, List.◌∷◌}
use mathlib.Core.List.Memᴰ
use Prim.Native.Nat.{ℕ, zero, suc, ◌<◌}
use native.Mathlib.{Omega.arith, Decide.ℕ_discrete, Decide.dec_lt}
use lib.ListN.{length, get_or}
use Rattle.semantics.specs.{Lists.◌among◌, RuleSet.PointsTo, Heap.Record, Heap.Heap, Heap.Above, Heap.Ordered, Heap.blank, Tree.asked, Tree.Takes}

pub address_below : {low : ℕ} {heap : Heap} → Above low heap → (i : ℕ) → i < length heap → low < (get_or heap i blank).address
address_below Above.none i h = absurd (omega arith)
address_below (Above.next l above) zero h = l
address_below (Above.next l above) (suc i) h = omega (arith, address_below above i (omega arith))

pub addresses_ascend : {low : ℕ} {heap : Heap} → Above low heap → (i j : ℕ) → i < j → j < length heap → (get_or heap i blank).address < (get_or heap j blank).address
addresses_ascend Above.none i j l h = absurd (omega arith)
addresses_ascend (Above.next x above) i zero l h = absurd (omega arith)
addresses_ascend (Above.next x above) zero (suc j) l h = address_below above j (omega arith)
addresses_ascend (Above.next x above) (suc i) (suc j) l h = addresses_ascend above i j (omega arith) (omega arith)

pub address_once : {low : ℕ} {heap : Heap} → Above low heap → (i j : ℕ) → i < length heap → j < length heap
    → (get_or heap i blank).address ≡ (get_or heap j blank).address → i ≡ j
address_once above i j hi hj e =
    by_cases (ℕ_discrete i j) (λ q. q)
    (λ n. by_cases (dec_lt i j) (λ l. absurd (omega (arith, addresses_ascend above i j l hj))) (λ g. absurd (omega (arith, addresses_ascend above j i (omega arith) hi))))

-- a record as an atom asks for it, by its number
pub record Taken (heap : Heap) (σ : List ℕ) (atom : PointsTo) : Type 0 where
  pub index : ℕ
  pub below : index < length heap
  pub is : get_or heap index blank ≡ asked σ atom

pub taken_by : {heap : Heap} {σ : List ℕ} {atoms : List PointsTo} {indices : List ℕ} → Takes heap σ atoms indices → {atom : PointsTo} → atom among atoms → Taken heap σ atom
taken_by Takes.none m = absurd (Memᴰ.not-nil m)
taken_by {heap} {σ} (Takes.atom {i = i} h e rest) m =
    ⊎_elim (λ q. record { index = i; below = h; is = e ∙ ap (asked σ) (sym q) }) (λ k. taken_by rest k) (Memᴰ.cases_cons m)

-- atoms with the same values take the same records, one each
pub takes_same : {heap : Heap} → Ordered heap → {σ : List ℕ} {atoms : List PointsTo} {is js : List ℕ} → Takes heap σ atoms is → Takes heap σ atoms js → is ≡ js
takes_same o Takes.none Takes.none = refl
takes_same o (Takes.atom {i = i} h e rest) (Takes.atom {i = j} h' e' rest') =
    ap₂ (λ (x : ℕ) (xs : List ℕ). x ∷ xs) (address_once o i j h h' (ap (λ (r : Record). r.address) (e ∙ sym e'))) (takes_same o rest rest')

pub takes_length : {heap : Heap} {σ : List ℕ} {atoms : List PointsTo} {is : List ℕ} → Takes heap σ atoms is → length is ≡ length atoms
takes_length Takes.none = refl
takes_length (Takes.atom h e rest) = ap suc (takes_length rest)
