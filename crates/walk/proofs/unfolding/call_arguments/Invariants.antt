-- `call_arguments` writes the values of the call's terms one after the other over zeros.
use Prim.Native.Nat.{◌≤◌}
use Rattle.semantics.specs.Tree.{value_of}
use Rattle.block.specs.Layout.{term_as, fixed_in, call_term}
use Rattle.walk.proofs.{Arguments.Written}
use Rattle.walk.proofs.unfolding.call_arguments.Given as goal

abbrev pub invariant-loop-j : goal.invariant-loop-j
invariant-loop-j l =
    (l.j ≤ l.count) × Written l.j (λ k. value_of l.values (term_as (fixed_in l.given) (call_term l.rules l.rule l.c k))) l.arguments
