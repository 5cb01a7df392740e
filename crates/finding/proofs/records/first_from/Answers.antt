-- `first_from` halves. Every record before `low` has an address below the value and none from `high` on has. The record in the middle settles
-- this for all on one of its sides, since addresses ascend.
use Prim.Native.Nat.{ℕ, ◌+◌, ◌/◌}
use native.Mathlib.Omega.{arith}
use Rattle.block.proofs.HeapInBlock.{records_few}
use Rattle.finding.proofs.Addresses.{up, down}
use Rattle.finding.proofs.records.first_from.Goals as goal

pub loop-low-init : goal.loop-low-init
loop-low-init c =
    let e = c.record_count-high.ensures.0 in
    (omega arith, omega (arith, e), λ i h. absurd (omega arith), λ i h l. absurd (omega (arith, e)), records_few c.args.heap.now c.requires)

pub loop-low-preserved-then-from-address : goal.loop-low-preserved-then-from-address
loop-low-preserved-then-from-address c =
    let l = c.loop-low in
    let m : ℕ = (l.low + l.high) / 2 in (
      omega arith,
      l.invariant.1,
      up c.args.heap.now c.requires c.args.address m (omega (arith, l.invariant.1, c.loop-low-test.true)) (omega (arith, c.from.ensures, c.record_address.ensures, c.if-from-address.true)),
      l.invariant.3,
      l.invariant.4,
    )

pub loop-low-preserved : goal.loop-low-preserved
loop-low-preserved c =
    let l = c.loop-low in
    let m : ℕ = (l.low + l.high) / 2 in (
      omega arith,
      omega arith,
      l.invariant.2,
      down c.args.heap.now c.requires c.args.address m (omega (arith, c.from.ensures, c.record_address.ensures, c.if-from-address.false)),
      l.invariant.4,
    )

pub returns : goal.returns
returns c =
    let v = c.loop-low.invariant in
    record { few = omega (arith, v.1); below = v.2; above = λ i l h. v.3 i (omega (arith, c.loop-low-test.false, v.0)) h }
