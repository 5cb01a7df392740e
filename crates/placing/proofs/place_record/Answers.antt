-- `place_record` meets its contract. After j turns the first j fields are written and nothing else; the address and the size follow.
use mathlib.Core.List.Memᴰ
use mathlib.Core.{Path.sym}
use native.Mathlib.Omega.{arith}
use Rattle.domain.proofs.Values.{field_in}
use Rattle.placing.proofs.place_record.Goals as goal

pub position-requires : goal.position-requires
position-requires c =
    c.requires.3 _ (Memᴰ.tail (field_in c.args.heap.now c.args.k c.loop-j.j (omega arith) (sym c.record_field-value.ensures)))

pub position-requires-2 : goal.position-requires-2
position-requires-2 c =
    c.requires.3 _ (Memᴰ.head c.record_address-address.ensures)
