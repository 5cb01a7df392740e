-- `positions_fit` passes the positions of a word one by one. The invariant: the whole word fits exactly if what is left of it does.
use native.Mathlib.Omega.{arith}
use mathlib.Core.Path.{◌≡◌}
use Prim.Native.Nat.{◌+◌, ◌-◌}
use Rattle.words.proofs.Answers.{told_false, told_equal}
use Rattle.certificate.proofs.Positions.{positions_step, positions_done}
use Rattle.certificate.proofs.line.positions_fit.Goals as goal

pub loop-init : goal.loop-init
loop-init c = let e : c.args.variables - 0 ≡ c.args.variables = omega arith in rw e (λ p. p, λ p. p)

pub returns-then-n-rest : goal.returns-then-n-rest
returns-then-n-rest c =
    let l = c.loop in
    told_false (λ p. omega (arith, ((positions_step c.args.n (c.args.variables - l.counter) l.rest (omega arith)).0 (l.invariant.0 p)).0))

pub loop-preserved : goal.loop-preserved
loop-preserved c =
    let l = c.loop in
    let step = positions_step c.args.n (c.args.variables - l.counter) l.rest (omega arith) in
    let e : c.args.variables - l.counter - 1 ≡ c.args.variables - (l.counter + 1) = omega arith in
    (λ p. rw e at (step.0 (l.invariant.0 p)).1, λ p. l.invariant.1 (step.1 (omega arith, rw e p)))

pub returns : goal.returns
returns c =
    let l = c.loop in
    let done = positions_done c.args.n (c.args.variables - l.counter) l.rest (omega arith) in
    told_equal l.rest 0 (λ e. l.invariant.1 (done.1 e)) (λ p. done.0 (l.invariant.0 p))
