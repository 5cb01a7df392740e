-- `record_at` looks at the first record that is not below the address: it is the one, or there is none.
use native.Mathlib.Omega.{arith}
use Rattle.block.proofs.HeapInBlock.{records_few}
use Rattle.finding.proofs.Addresses.{nowhere}
use Rattle.finding.proofs.records.record_at.Goals.{else-i-record_count-via-then-i-record_count+else-from-address, else-i-record_count-via-else-i-record_count}
use Rattle.finding.proofs.records.record_at.Goals as goal

pub record_address-requires : goal.record_address-requires
record_address-requires c =
    omega (arith, c.if-i-record_count.true, c.record_count.ensures.0, records_few c.args.heap.now c.requires)

pub returns-else-i-record_count : goal.returns-else-i-record_count
returns-else-i-record_count c =
    nowhere c.args.heap.now c.requires c.args.address c.first_from-i.result c.first_from-i.ensures.below c.first_from-i.ensures.above
    (λ h e.
    elim c.else-i-record_count.branch [
      | else-i-record_count-via-then-i-record_count+else-from-address w ↦ w.if-from-address.false (omega (arith, w.from.ensures, w.record_address.ensures, e))
      | else-i-record_count-via-else-i-record_count w ↦ absurd (omega (arith, w.if-i-record_count.false, c.record_count.ensures.0, h))
    ])
