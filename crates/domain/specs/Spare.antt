-- The values that a heap and a list of values give, and the spares among the other numbers.
use mathlib.Core.{List.List, List.◌∷◌, List.◌++◌}
use Rattle.std.specs.Prelude.{ℕ, ◌+◌, ◌≤◌, ◌<◌, length}
use Rattle.semantics.specs.{Lists.◌among◌, Heap.WellFormedHeap, Heap.heap_values, Domain.most_values, Domain.spares}
use Rattle.block.specs.Layout.{heap_in}

-- What the list and the heap give: all good values but nil.
abbrev pub given : List ℕ → List ℕ → List ℕ
given heap values = values ++ heap_values (heap_in heap)

-- The good values.
abbrev pub good_in : List ℕ → List ℕ → List ℕ
good_in heap values = 0 ∷ given heap values

-- A list with the n smallest numbers that are not in it.
abbrev pub with_spares : ℕ → List ℕ → List ℕ
with_spares n values = spares n values ++ values

-- What a domain has besides the given values, at most: nil, 16 records of an address and 4 fields, 8 spares.
abbrev pub other_values : ℕ
other_values = 89

-- The heap is as the reader leaves it, and the given values fit into a domain.
pub record Readable (heap values : List ℕ) : Type 0 where
  pub heap_formed : WellFormedHeap (heap_in heap)
  pub values_few : other_values + length values ≤ most_values

-- The smallest number from `start` on that is not in the list.
pub record Spare (values : List ℕ) (start v : ℕ) : Type 0 where
  pub low : start ≤ v
  pub free : ¬ (v among values)
  pub taken : (k : ℕ) → start ≤ k → k < v → k among values
