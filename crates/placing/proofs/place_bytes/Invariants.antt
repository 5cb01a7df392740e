-- `place_bytes` meets its contract: the bytes passed are placed, and the others are as they were.
use Rattle.placing.specs.Placed.{BytesPlaced}
use Rattle.placing.proofs.place_bytes.Given as goal

abbrev pub invariant-loop-byte : goal.invariant-loop-byte
invariant-loop-byte l = BytesPlaced l.domain l.query l.initial.bytes l.bytes 0 l.byte-index
