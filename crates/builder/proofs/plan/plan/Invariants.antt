-- `plan` goes down from the place asked for. Every marked place from i on has its line, and what those lines call is marked; what a place
-- calls stands before it, so no mark comes too late.
use Prim.Native.Nat.{◌*◌}
use mathlib.Core.Path.{◌≡◌}
use lib.ListN.{length}
use Rattle.ground.specs.Failed.{Failed}
use Rattle.builder.proofs.Planning.{PlannedFrom}
use Rattle.builder.proofs.plan.plan.Given as goal

abbrev pub invariant-loop-i : goal.invariant-loop-i
invariant-loop-i l =
    (length l.space ≡ 3 * length l.table) × PlannedFrom l.rules l.records l.n l.table l.at l.i l.space × Failed l.rules l.records l.table l.memory
