-- `place_record` meets its contract. After j turns the first j fields are written and nothing else; the address and the size follow.
use Prim.Native.Nat.{◌≤◌}
use Rattle.placing.proofs.{PlacingHeap.Placing}
use Rattle.placing.proofs.place_record.Given as goal

abbrev pub invariant-loop-j : goal.invariant-loop-j
invariant-loop-j l =
    (l.j ≤ l.fields) × (l.fields ≤ 4) × Placing l.domain l.heap l.initial.records l.records l.k l.j
