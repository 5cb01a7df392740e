-- `place_heap` meets its contract. After k turns the first k records are written; writing one leaves the others as they are.
use Prim.Native.Nat.{◌≤◌}
use Rattle.placing.proofs.{PlacingHeap.PlacingHeap}
use Rattle.placing.proofs.place_heap.Given as goal

abbrev pub invariant-loop-k : goal.invariant-loop-k
invariant-loop-k l =
    (l.k ≤ l.count) × (l.count ≤ 16) × PlacingHeap l.domain l.heap l.records l.k
