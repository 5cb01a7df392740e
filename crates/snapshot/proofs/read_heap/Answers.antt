-- The count and the records make the heap, and then nothing may be left.
use mathlib.Core.Path.{◌∙◌}
use Rattle.semantics.specs.Refusals.{snapshot_longer}
use Rattle.semantics.specs.Formats.{snapshot, read_snapshot}
use Rattle.semantics.specs.declared.Refusal.TheVariants.{SnapshotLonger}
use Rattle.reader.proofs.Finishing.{finish_is, exit_is}
use Rattle.snapshot.proofs.HeapParts.{heap_stop, heap_broken, heap_fills}
use Rattle.snapshot.proofs.read_heap.Goals as goal

pub returns-in_err-count : goal.returns-in_err-count
unfolding read_snapshot
returns-in_err-count c =
    let count = rw c.new-reader.ensures at c.in_err-count.ensures.fills in
    record { is = exit_is c.from_residual.result snapshot_longer snapshot _ c.from_residual.ensures.1 (heap_stop count); long = count.kept.long }

pub returns-in_err-records : goal.returns-in_err-records
unfolding read_snapshot
returns-in_err-records c =
    let count = rw c.new-reader.ensures at c.in_ok-count.ensures.fills in
    let rest = rw (c.from.ensures, c.in_ok-count.ensures.number) at c.in_err-records.ensures in
    record { is = exit_is c.from_residual-in_err-records.result snapshot_longer snapshot _ c.from_residual-in_err-records.ensures.1 (heap_broken count rest); long = rest.kept.long ∙ count.kept.long }

pub returns : goal.returns
unfolding read_snapshot
returns c =
    let count = rw c.new-reader.ensures at c.in_ok-count.ensures.fills in
    let rest = rw (c.from.ensures, c.in_ok-count.ensures.number) at c.in_ok-records.ensures in
    record { is = rw c.finish.ensures (finish_is SnapshotLonger snapshot (heap_fills count rest)); long = rest.kept.long ∙ count.kept.long }
