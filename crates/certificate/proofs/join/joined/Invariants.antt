-- `joined` passes the points-to atoms one by one. The invariant: all atoms and calls join exactly if those that are left join to the
-- records used now. Only the first record as asked for counts, so what the search finds is the one.
use mathlib.Core.Logic.{◌↔◌}
use Prim.Native.Nat.{◌≤◌, ◌<◌}
use Rattle.certificate.specs.Line.{given_by, CallsOf, JoinOf}
use Rattle.certificate.proofs.Passing.{AtomsFrom}
use Rattle.certificate.proofs.join.joined.Given as goal

abbrev pub invariant-loop-g : goal.invariant-loop-g
invariant-loop-g l =
    (l.g ≤ l.count) × (l.used < 65536)
    × (JoinOf l.rules l.rule l.records l.words l.k ↔ AtomsFrom l.rules l.rule l.records (given_by l.word) (CallsOf l.rules l.rule l.words l.k) l.g l.used)
