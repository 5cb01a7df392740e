-- After k turns k records are filled, and the last address read is that of record k - 1.
use mathlib.Core.Path.{◌≡◌}
use Rattle.std.specs.Prelude.{Ok}
use Rattle.snapshot.specs.HeapLayout.{records_layout}
use Rattle.reader.specs.Layout.{Fills}
use Rattle.reader.specs.Unread.{unread}
use Rattle.snapshot.proofs.HeapParts.{last_address}
use Rattle.snapshot.proofs.records.Given as goal

abbrev pub invariant-loop-k : goal.invariant-loop-k
invariant-loop-k l = record {
  last : l.low ≡ last_address l.heap l.k;
  fills : Fills (records_layout l.k) 1 (unread l.initial.reader) (unread l.reader) l.initial.heap l.heap (Ok (tt {0}));
}
