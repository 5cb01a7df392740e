-- `descend` meets its contract. Without fuel there is no tree; without a choice a plain rule set has none. Else the calls of the chosen rule are
-- unfolded one after the other: what those that are left come to from the mask of the moment, all come to from the mask after the choice. The
-- fuel is the measure.
use mathlib.Core.{Path.◌∙◌}
use native.Mathlib.Omega.{arith}
use Rattle.std.specs.Prelude.{None, Some}
use Rattle.semantics.proofs.{WalkSteps.fuel_stop, WalkSteps.node_stop, WalkLoops.left_start, WalkLoops.left_end, WalkLoops.left_stop, WalkLoops.left_next}
use Rattle.block.specs.Layout.{fixed_in}
use Rattle.walk.proofs.Descending.{call_here, calls_past, call_outcome, chosen_outcome}
use Rattle.walk.proofs.unfolding.+descend.Goals as goal

-- ---- before the loop
pub returns-then-fuel-eq0 : goal.returns-then-fuel-eq0
returns-then-fuel-eq0 t c = record { outcome = rw c.if-fuel-eq0.true (fuel_stop _ _) }

pub choose-requires : goal.choose-requires
choose-requires t c = c.requires

pub returns-in_err-choice : goal.returns-in_err-choice
returns-in_err-choice t c = rw c.from_residual.ensures (record { outcome = node_stop _ _ (λ plain rule. c.in_err-choice.ensures rule plain) })

pub call_count-count-requires : goal.call_count-count-requires
call_count-count-requires t c = c.in_ok-choice.ensures.place.formed.inside

pub loop-c-init : goal.loop-c-init
loop-c-init t c = (omega arith, left_start)

-- ---- a turn
pub call_predicate-requires : goal.call_predicate-requires
call_predicate-requires t c =
    let f = c.in_ok-choice.ensures.place.formed in
    (f.inside, omega (arith, c.loop-c-test.true, c.call_count-count.ensures.0, f.ready.calls_few))

pub call_arguments-below-requires : goal.call_arguments-below-requires
call_arguments-below-requires t c =
    let made = c.in_ok-choice.ensures in (
      made.place,
      omega (arith, c.loop-c-test.true, c.call_count-count.ensures.0),
      made.all_known,
      c.requires.0.rules_read,
    )

pub descend-requires : goal.descend-requires
descend-requires t c =
    let f = c.in_ok-choice.ensures.place.formed in
    let named = f.ready.call_named c.loop-c.c (omega (arith, c.loop-c-test.true, c.call_count-count.ensures.0)) in (
      omega (arith, c.decreases, c.if-fuel-eq0.false),
      (
        c.requires.0,
        omega (arith, named, c.from-called.ensures, c.call_predicate.ensures),
        c.call_arguments-below.ensures.all_known,
      ),
    )

pub returns-in_err-after : goal.returns-in_err-after
returns-in_err-after t c =
    let g = c.args in
    let here = call_here (fixed_in g.given.now) g.rules.now c.in_ok-choice.choice.rule c.loop-c.c (omega (arith, c.loop-c-test.true, c.call_count-count.ensures.0)) in
    let called =
    call_outcome g.given.now g.rules.now g.heap.now c.in_ok-choice.choice.rule c.loop-c.c _ None
    (c.from-called.ensures ∙ c.call_predicate.ensures) c.call_arguments-below.ensures c.in_err-after.ensures in
    rw c.from_residual-in_err-after.ensures (record { outcome = chosen_outcome c.requires.0 c.if-fuel-eq0.false c.in_ok-choice.ensures (left_stop c.loop-c.invariant.1 here called) })

pub loop-c-preserved : goal.loop-c-preserved
loop-c-preserved t c =
    let g = c.args in
    let here = call_here (fixed_in g.given.now) g.rules.now c.in_ok-choice.choice.rule c.loop-c.c (omega (arith, c.loop-c-test.true, c.call_count-count.ensures.0)) in
    let called =
    call_outcome g.given.now g.rules.now g.heap.now c.in_ok-choice.choice.rule c.loop-c.c _ (Some c.in_ok-after.after)
    (c.from-called.ensures ∙ c.call_predicate.ensures) c.call_arguments-below.ensures c.in_ok-after.ensures in
    (omega (arith, c.loop-c-test.true), left_next c.loop-c.invariant.1 here c.requires.0.heap_formed.ordered called)

-- ---- after it
pub returns : goal.returns
returns t c =
    let g = c.args in
    let past = calls_past (fixed_in g.given.now) g.rules.now c.in_ok-choice.choice.rule c.loop-c.c (omega (arith, c.call_count-count.ensures.0)) in
    record { outcome = chosen_outcome c.requires.0 c.if-fuel-eq0.false c.in_ok-choice.ensures (left_end c.loop-c.invariant.1 past) }
