-- `joined` passes the points-to atoms one by one. The invariant: all atoms and calls join exactly if those that are left join to the
-- records used now. Only the first record as asked for counts, so what the search finds is the one.
use mathlib.Core.Path.{◌≡◌}
use Prim.Native.Nat.{◌+◌, ◌<◌}
use native.Mathlib.Omega.{arith}
use Rattle.block.specs.Layout.{atom_count}
use Rattle.words.proofs.{Answers.told_false, Answers.told_as, Disjoint.sum_small}
use Rattle.certificate.proofs.Passing.{atoms_step, atoms_first, atoms_done}
use Rattle.certificate.proofs.join.joined.Goals as goal

pub loop-g-init : goal.loop-g-init
loop-g-init c = let e = c.positions_at-word.ensures in (omega arith, omega arith, rw e (λ p. p, λ p. p))

pub returns-in_default : goal.returns-in_default
returns-in_default c =
    let s = c.args in
    told_false
    (λ p.
    let (i, f) = (atoms_step s.rules.now s.rule c.loop-g.g (omega (arith, c.atom_count-count.ensures))).0 (c.loop-g.invariant.2.0 p) in
    c.in_default.ensures i f.takes.below f.takes.is)

pub returns-then-shares : goal.returns-then-shares
returns-then-shares c =
    let s = c.args in
    told_false
    (λ p.
    (atoms_first s.rules.now s.rule c.loop-g.g (omega (arith, c.atom_count-count.ensures)) c.in-Some.ensures (c.loop-g.invariant.2.0 p)).disjoint
    (rw (← c.bit-here.ensures) (c.shares.ensures.so c.if-shares.true)))

pub overflow_add-used : goal.overflow_add-used
overflow_add-used c =
    let small = sum_small c.bit-here.result c.loop-g.used (omega (arith, c.bit-here.type_inv)) c.loop-g.invariant.1 (c.shares.ensures.not_so c.if-shares.false) in
    record { fits = omega (arith, small) }

pub loop-g-preserved : goal.loop-g-preserved
loop-g-preserved c =
    let s = c.args in
    let h : c.loop-g.g < atom_count s.rules.now s.rule = omega (arith, c.atom_count-count.ensures) in
    let e = c.bit-here.ensures in
    let t : c.loop-g.used + c.bit-here.result ≡ c.bit-here.result + c.loop-g.used = omega arith in
    let small = sum_small c.bit-here.result c.loop-g.used (omega (arith, c.bit-here.type_inv)) c.loop-g.invariant.1 (c.shares.ensures.not_so c.if-shares.false) in (
      omega arith,
      omega (arith, small),
      (
        λ p. rw (t, e) (atoms_first s.rules.now s.rule c.loop-g.g h c.in-Some.ensures (c.loop-g.invariant.2.0 p)).rest,
        λ p. c.loop-g.invariant.2.1 ((atoms_step s.rules.now s.rule c.loop-g.g h).1 (
          _,
          record { takes = c.in-Some.ensures; disjoint = rw (← e) (c.shares.ensures.not_so c.if-shares.false); rest = rw (← e) (rw t at p) },
        )),
      ),
    )

pub returns : goal.returns
returns c =
    let s = c.args in
    let done = atoms_done s.rules.now s.rule c.loop-g.g (omega (arith, c.atom_count-count.ensures)) in
    told_as (λ p. c.loop-g.invariant.2.1 (done.1 p)) (λ p. done.0 (c.loop-g.invariant.2.0 p)) c.calls_join.ensures
