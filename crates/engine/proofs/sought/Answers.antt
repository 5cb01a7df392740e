-- One look through the table, for the one question or the other.
use Rattle.engine.proofs.sought.Goals as goal

pub returns-in-WholeHeap : goal.returns-in-WholeHeap
returns-in-WholeHeap c = rw c.in-WholeHeap.is c.place_of.ensures

pub returns-in-AnyPart : goal.returns-in-AnyPart
returns-in-AnyPart c = rw c.in-AnyPart.is c.place_of_any.ensures
