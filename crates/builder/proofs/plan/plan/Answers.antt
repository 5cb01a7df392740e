-- `plan` goes down from the place asked for. Every marked place from i on has its line, and what those lines call is marked; what a place
-- calls stands before it, so no mark comes too late.
use Prim.Native.Nat.{suc, ◌-◌}
use mathlib.Core.Path.{◌≡◌, sym, ◌∙◌}
use native.Mathlib.Omega.{arith}
use Rattle.builder.proofs.Planning.{planned_all, planned_skip, planned_visit}
use Rattle.builder.proofs.plan.plan.Goals as goal

pub loop-i-preserved-then-space-i-ne0 : goal.loop-i-preserved-then-space-i-ne0
loop-i-preserved-then-space-i-ne0 c =
    let l = c.loop-i in
    let v = c.visit in
    let e : l.i ≡ suc (l.i - 1) = omega (arith, c.loop-i-test.true) in (
      v.auto.space ∙ l.invariant.0,
      planned_visit (l.i - 1) l.space (omega (arith, l.auto.i, c.loop-i-test.true)) (rw e at l.invariant.1) v.new.space
          (omega (arith, l.invariant.0, l.auto.i, c.requires.0.place)) v.ensures.0 c.if-space-i-ne0.true,
      v.ensures.1,
    )

pub loop-i-preserved : goal.loop-i-preserved
loop-i-preserved c =
    let l = c.loop-i in
    let e : l.i ≡ suc (l.i - 1) = omega (arith, c.loop-i-test.true) in
    (l.invariant.0, planned_skip (l.i - 1) l.space (omega (arith, l.auto.i, c.loop-i-test.true)) (rw e at l.invariant.1) c.if-space-i-ne0.false, l.invariant.2)

pub returns : goal.returns
returns c =
    let l = c.loop-i in
    let e : l.i ≡ 0 = omega (arith, c.loop-i-test.false) in
    planned_all (l.invariant.0 ∙ sym c.requires.0.three) (rw e at l.invariant.1)
