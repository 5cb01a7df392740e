-- The values that the heap's block holds, by their places.
use mathlib.Core.List.Memᴰ
use mathlib.Core.{Path.◌≡◌, Path.refl, Path.sym, Path.ap, Path.◌∙◌, List.List, List.◌∷◌}
use Prim.Native.Nat.{ℕ, suc, ◌+◌, ◌<◌}
use native.Mathlib.{Omega.arith, Numerals.add-one}
use lib.{ListN.length, ListN.get_or, ListN.drop, Seq.drop-cons}
use Rattle.semantics.specs.{Lists.◌among◌, Heap.Record, Heap.blank, Heap.record_values, Heap.heap_values}
use Rattle.semantics.proofs.DomainFacts.{heap_values_lem}
use Rattle.words.specs.Entries.{entries}
use Rattle.block.specs.Layout.{record_count, record_place, record_size, record_field, record_in, heap_in}
use Rattle.block.proofs.HeapInBlock.{heap_count}
use Rattle.words.proofs.Tabulate.{entries-length, tabulate_at, tabulate_in}
use Rattle.semantics.specs.Domain.{insert}
use Rattle.domain.specs.Insertion.{insert_all}
use Rattle.domain.proofs.Insertion.{insert_all-append}

-- record k, and its fields
abbrev pub record_of : List ℕ → ℕ → Record
record_of heap k = record_in heap (record_place k)

abbrev pub fields_of : List ℕ → ℕ → List ℕ
fields_of heap k = entries heap (record_place k + 2) (record_size heap k)

pub fields_length : (heap : List ℕ) (k : ℕ) → length (fields_of heap k) ≡ record_size heap k
fields_length heap k = entries-length heap (record_place k + 2) (record_size heap k)

pub field_at : (heap : List ℕ) (k j : ℕ) → j < record_size heap k → get_or (fields_of heap k) j 0 ≡ record_field heap k j
field_at heap k j h = tabulate_at (record_size heap k) (record_field heap k) 0 j h

-- a field, by its place
pub field_in : (heap : List ℕ) (k j : ℕ) {v : ℕ} → j < record_size heap k → record_field heap k j ≡ v → v among fields_of heap k
field_in heap k j h e = Memᴰ.cast (sym e) (tabulate_in (record_size heap k) (record_field heap k) j h)

-- a value of a record is one of the heap's
pub value_in : {v : ℕ} (heap : List ℕ) (k : ℕ) → k < record_count heap → v among record_values (record_of heap k) → v among heap_values (heap_in heap)
unfolding heap_in
value_in {v} heap k h m =
    heap_values_lem (heap_in heap) k (omega (arith, heap_count heap)) v (rw (tabulate_at (record_count heap) (record_of heap) blank k h) m)

-- ---- what is left to insert, one value or one record less

pub list_more : (vs xs : List ℕ) (i : ℕ) → i < length vs → insert_all (drop i vs) xs ≡ insert_all (drop (i + 1) vs) (insert (get_or vs i 0) xs)
unfolding insert_all
list_more vs xs i h = rw (add-one i) (ap (λ (l : List ℕ). insert_all l xs) (drop-cons vs i 0 h))

pub heap_more : (heap xs : List ℕ) (k : ℕ) → k < record_count heap
    → insert_all (heap_values (drop k (heap_in heap))) xs ≡ insert_all (heap_values (drop (k + 1) (heap_in heap))) (insert_all (record_values (record_of heap k)) xs)
unfolding heap_values heap_in
heap_more heap xs k h =
    let here : drop k (heap_in heap) ≡ record_of heap k ∷ drop (suc k) (heap_in heap) =
    drop-cons (heap_in heap) k blank (omega (arith, heap_count heap)) ∙ rw (tabulate_at (record_count heap) (record_of heap) blank k h) refl in
    rw (add-one k) (ap (λ (l : List Record). insert_all (heap_values l) xs) here ∙ insert_all-append (record_values (record_of heap k)) (heap_values (drop (suc k) (heap_in heap))) xs)
