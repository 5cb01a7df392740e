-- `take` passes the atoms one by one: what the atoms that are left take from the mask of the moment, all take from the first mask.
use native.Mathlib.Omega.{arith}
use Rattle.semantics.proofs.WalkLoops.{atoms_start, atoms_end}
use Rattle.block.specs.Layout.{fixed_in}
use Rattle.walk.proofs.TakingRecords.{atom_here, atoms_past, taken_next, stuck_stop}
use Rattle.walk.proofs.taking.take.Goals as goal

pub loop-g-init : goal.loop-g-init
loop-g-init c = (omega arith, atoms_start)

pub returns-in_err-after : goal.returns-in_err-after
returns-in_err-after c =
    let g = c.args in
    rw c.from_residual.ensures
    (stuck_stop c.loop-g.invariant.1 (atom_here (fixed_in g.given.now) g.rules.now g.rule c.loop-g.g (omega (arith, c.atom_count-count.ensures.0))) c.in_err-after.ensures)

pub loop-g-preserved : goal.loop-g-preserved
loop-g-preserved c =
    let g = c.args in (
      omega arith,
      taken_next c.loop-g.invariant.1 (atom_here (fixed_in g.given.now) g.rules.now g.rule c.loop-g.g (omega (arith, c.atom_count-count.ensures.0))) c.requires.1.ordered
          c.in_ok-after.ensures,
    )

pub returns : goal.returns
returns c =
    let g = c.args in
    atoms_end c.loop-g.invariant.1 (atoms_past (fixed_in g.given.now) g.rules.now g.rule c.loop-g.g (omega (arith, c.atom_count-count.ensures.0)))
