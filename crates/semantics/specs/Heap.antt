-- Heaps (paper 01: pools; the bytes of one are a snapshot) and their subheaps (parts), which are numbers: bit i for record i.
use mathlib.Core.{List.List, List.[], List.◌∷◌, List.◌++◌, Path.◌≡◌}
use Rattle.std.specs.Prelude.{ℕ, ◌+◌, ◌-◌, ◌/◌, ◌%◌, ◌≤◌, ◌<◌, ◌^◌, length}
use Rattle.semantics.specs.Lists.{◌among◌}

pub record Record : Type 0 where
  pub address : ℕ
  pub fields : List ℕ

abbrev pub Heap : Type 0
Heap = List Record

-- The addresses are above `low` and strictly increase.
pub data Above : ℕ → Heap → Type 0 where
  none : {low : ℕ} → Above low []
  next : {low : ℕ} {here : Record} {heap : Heap} → low < here.address → Above here.address heap → Above low (here ∷ heap)

-- A heap in order: strictly increasing addresses, none of them 0, which is nil.
abbrev pub Ordered : Heap → Type 0
Ordered heap = Above 0 heap

-- What the reader of snapshots guarantees.
pub record WellFormedHeap (heap : Heap) : Type 0 where
  pub records_few : length heap ≤ 16
  pub ordered : Ordered heap
  pub fields_few : (here : Record) → here among heap → length here.fields ≤ 4

-- What stands for a record past the end of the heap; its address is 0, which no record has.
abbrev pub blank : Record
blank = record { address = 0; fields = [] }

abbrev pub record_values : Record → List ℕ
record_values here = here.address ∷ here.fields

-- All addresses and fields.
unfoldable pub heap_values : Heap → List ℕ
heap_values [] = []
heap_values (here ∷ heap) = record_values here ++ heap_values heap

-- The subheap of the listed records, if none stands twice in the list.
abbrev pub set_of : List ℕ → ℕ
set_of [] = 0
set_of (i ∷ is) = 2 ^ i + set_of is

-- The subheap of all records.
abbrev pub whole_of : Heap → ℕ
whole_of heap = 2 ^ length heap - 1

-- Two subheaps share a record: at its place both numbers have the binary digit 1.
pub record Shares (a b : ℕ) : Type 0 where
  pub place : ℕ
  pub left : a / 2 ^ place % 2 ≡ 1
  pub right : b / 2 ^ place % 2 ≡ 1

-- They share none.
abbrev pub Disjoint : ℕ → ℕ → Type 0
Disjoint a b = ¬ Shares a b

-- The disjoint join of subheaps: no two share a record, so the union is their sum.
pub data Joins : List ℕ → ℕ → Type 0 where
  none : Joins [] 0
  next : {part rest whole : ℕ} {parts : List ℕ} → Disjoint part rest → Joins parts rest → whole ≡ part + rest
      → Joins (part ∷ parts) whole
