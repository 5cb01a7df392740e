-- Records of the block by their numbers: record k of the block is record k of the heap.
use mathlib.Core.{Path.◌≡◌, Path.sym, List.List}
use Prim.Native.Nat.{ℕ, ◌+◌, ◌≤◌, ◌<◌}
use native.Mathlib.Omega.{arith}
use lib.ListN.{length, get_or}
use Rattle.semantics.specs.{Lists.◌among◌, Heap.blank, Heap.WellFormedHeap}
use Rattle.words.proofs.Tabulate.{entries-length, tabulate-length, tabulate_at, tabulate_in}
use Rattle.block.specs.Layout.{record_in, heap_in, record_count, record_place, record_size}

module _ (heap : List ℕ) where
  pub heap_count : length (heap_in heap) ≡ record_count heap
  unfolding heap_in
  heap_count = tabulate-length (record_count heap) (λ k. record_in heap (record_place k))

  pub record_listed : (k : ℕ) → k < record_count heap → record_in heap (record_place k) among heap_in heap
  unfolding heap_in
  record_listed k h = tabulate_in (record_count heap) (λ i. record_in heap (record_place i)) k h

  pub record_is : (k : ℕ) → k < record_count heap → record_in heap (record_place k) ≡ get_or (heap_in heap) k blank
  unfolding heap_in
  record_is k h = sym (tabulate_at (record_count heap) (λ i. record_in heap (record_place i)) blank k h)

  module _ (formed : WellFormedHeap (heap_in heap)) where
    pub records_few : record_count heap ≤ 16
    records_few = omega (arith, formed.records_few, heap_count)

    pub fields_few : (k : ℕ) → k < record_count heap → record_size heap k ≤ 4
    fields_few k h = omega (arith, formed.fields_few (record_in heap (record_place k)) (record_listed k h), entries-length heap (record_place k + 2) (record_size heap k))
