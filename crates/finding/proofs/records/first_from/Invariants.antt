-- `first_from` halves. Every record before `low` has an address below the value and none from `high` on has. The record in the middle settles
-- this for all on one of its sides, since addresses ascend.
use Prim.Native.Nat.{ℕ, ◌-◌, ◌≤◌, ◌<◌}
use Rattle.block.specs.Layout.{record_count, record_address}
use Rattle.finding.proofs.records.first_from.Given as goal

abbrev pub invariant-loop-low : goal.invariant-loop-low
invariant-loop-low l =
    (l.low ≤ l.high) × (l.high ≤ record_count l.heap) × ((i : ℕ) → i < l.low → record_address l.heap i < l.address)
    × ((i : ℕ) → l.high ≤ i → i < record_count l.heap → l.address ≤ record_address l.heap i) × (record_count l.heap ≤ 16)

abbrev pub decreases-loop-low : goal.decreases-loop-low
decreases-loop-low l = l.high - l.low
