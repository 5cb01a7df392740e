-- `calls_join` passes the calls one by one. The invariant: all calls join to what was used at the start exactly if those that are left join
-- to what is used now.
use mathlib.Core.{Logic.◌↔◌}
use Prim.Native.Nat.{◌≤◌, ◌<◌}
use Rattle.semantics.specs.{Certificate.fact_at, Fact.part_of}
use Rattle.certificate.specs.Line.{given_by, CallsOf}
use Rattle.certificate.proofs.{Passing.CallsFrom}
use Rattle.certificate.proofs.join.calls_join.Given as goal

abbrev pub invariant-loop-c : goal.invariant-loop-c
invariant-loop-c l =
    (l.c ≤ l.count) × (l.sum < 65536)
    × (CallsOf l.rules l.rule l.words l.k l.used ↔ CallsFrom l.rules l.rule l.words l.k (given_by l.word) (part_of (fact_at l.words l.k)) l.c l.lines l.sum)
