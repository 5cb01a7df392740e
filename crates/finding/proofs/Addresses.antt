-- The addresses of a heap that was read ascend, in the block too: so a value has one place among them.
use mathlib.Core.{Path.◌≡◌, Path.sym, Path.ap, List.List, Logic.◌≢◌}
use Prim.Native.Nat.{ℕ, ◌+◌, ◌≤◌, ◌<◌}
use native.Mathlib.{Omega.arith, Decide.ℕ_discrete, Decide.dec_lt}
use lib.ListN.{get_or}
use Rattle.semantics.specs.Heap.{Record, WellFormedHeap, blank}
use Rattle.semantics.proofs.Addresses.{addresses_ascend}
use Rattle.block.specs.Layout.{heap_in, record_count, record_address}
use Rattle.block.proofs.HeapInBlock.{heap_count, record_is}

module _ (heap : List ℕ) (formed : WellFormedHeap (heap_in heap)) where
  pub ascend : (j i : ℕ) → j < i → i < record_count heap → record_address heap j < record_address heap i
  ascend j i h l =
      let a : (get_or (heap_in heap) j blank).address ≡ record_address heap j = ap (λ (r : Record). r.address) (sym (record_is heap j (omega arith))) in
      let b : (get_or (heap_in heap) i blank).address ≡ record_address heap i = ap (λ (r : Record). r.address) (sym (record_is heap i l)) in
      omega (arith, a, b, addresses_ascend formed.ordered j i h (omega (arith, heap_count heap)))

  -- a record settles those before it, and those after it
  pub up : (v m : ℕ) → m < record_count heap → record_address heap m < v → (i : ℕ) → i < m + 1 → record_address heap i < v
  up v m h here i l = elim (ℕ_discrete i m) [ yes e ↦ rw e here | no n ↦ omega (arith, ascend i m (omega arith) h) ]

  pub down : (v m : ℕ) → v ≤ record_address heap m → (i : ℕ) → m ≤ i → i < record_count heap → v ≤ record_address heap i
  down v m here i l h = elim (ℕ_discrete i m) [ yes e ↦ rw e here | no n ↦ omega (arith, ascend m i (omega arith) h) ]

  -- no record has a value as its address where the first one from it on has another
  pub nowhere : (v f : ℕ) → ((i : ℕ) → i < f → record_address heap i < v) → ((i : ℕ) → f ≤ i → i < record_count heap → v ≤ record_address heap i)
      → (f < record_count heap → record_address heap f ≢ v) → (i : ℕ) → i < record_count heap → record_address heap i ≢ v
  nowhere v f below above other i h e = step (dec_lt i f)
    where
      step : Dec (i < f) → ⊥
      step (yes l) = omega (arith, below i l, e)
      step (no l) = elim (ℕ_discrete i f) [ yes q ↦ other (omega (arith, q)) (rw q at e) | no n ↦ omega (arith, e, ascend f i (omega arith) h, above f (omega arith) (omega arith)) ]

  -- an address has one record
  pub one_record : (i j : ℕ) → i < record_count heap → j < record_count heap → record_address heap i ≡ record_address heap j → i ≡ j
  one_record i j hi hj e = step (ℕ_discrete i j) (dec_lt i j)
    where
      step : Dec (i ≡ j) → Dec (i < j) → i ≡ j
      step (yes q) d = q
      step (no q) (yes l) = absurd (omega (arith, ascend i j l hj))
      step (no q) (no l) = absurd (omega (arith, ascend j i (omega arith) hi))
