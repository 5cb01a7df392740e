-- After k turns k records are filled, and the last address read is that of record k - 1.
use native.Mathlib.Omega.{arith}
use mathlib.Core.Path.{◌∙◌}
use Rattle.reader.proofs.Keep.{exit}
use Rattle.snapshot.proofs.HeapParts.{last_none, last_more, records_none, records_more, records_stop}
use Rattle.snapshot.proofs.records.Goals as goal

pub loop-k-init : goal.loop-k-init
loop-k-init c = record { last = last_none c.args.heap.now; fills = records_none _ _ }

pub loop-k-preserved : goal.loop-k-preserved
loop-k-preserved c =
    let l = c.loop-k in
    let here = c.in_ok-low.ensures in
    record { last = here.number ∙ last_more c.record.new.heap l.k; fills = records_more l.low l.k l.invariant.last l.invariant.fills here.fills }

pub returns-in_err-low : goal.returns-in_err-low
returns-in_err-low c =
    let l = c.loop-k in
    exit c.from_residual.ensures.1 (records_stop l.low l.k l.invariant.last l.invariant.fills c.args.count (omega arith) c.in_err-low.ensures.fills)
