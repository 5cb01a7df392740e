-- `place_heap` meets its contract. After k turns the first k records are written; writing one leaves the others as they are.
use native.Mathlib.Omega.{arith}
use mathlib.Core.Path.{◌∙◌}
use lib.{ListN.length-set, Seq.get_or-set_same}
use Rattle.block.proofs.HeapInBlock.{records_few, fields_few}
use Rattle.domain.proofs.Values.{value_in}
use Rattle.placing.proofs.PlacingHeap.{heap_more, heap_all}
use Rattle.placing.proofs.place_heap.Goals as goal

pub overflow_cast-count : goal.overflow_cast-count
overflow_cast-count c = omega (arith, records_few c.args.heap.now c.requires.0)

pub loop-k-init : goal.loop-k-init
loop-k-init c = (
  omega arith,
  omega (arith, records_few c.args.heap.now c.requires.0),
  rw c.write_count.ensures (record {
    long = length-set c.args.records.now 0 _ ∙ c.requires.1;
    count = get_or-set_same c.args.records.now 0 _ 0 (omega arith) ∙ c.record_count-count.ensures.0;
    placed = λ k h. absurd (omega (arith, h));
  }),
)

pub place_record-requires : goal.place_record-requires
place_record-requires c =
    let l = c.loop-k in (
      omega arith,
      fields_few c.args.heap.now c.requires.0 l.k (omega arith),
      l.invariant.2.long,
      λ v m. c.requires.2 v (value_in c.args.heap.now l.k (omega arith) m),
    )

pub loop-k-preserved : goal.loop-k-preserved
loop-k-preserved c =
    let v = c.loop-k.invariant in
    (omega arith, v.1, heap_more c.requires.0 (omega arith) v.2 c.place_record.ensures)

pub returns : goal.returns
returns c = heap_all (omega arith) c.loop-k.invariant.2
