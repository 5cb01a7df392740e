-- `exchange_calls` exchanges byte by byte. Invariant: the first j bytes of both calls have changed places.
use Prim.Native.Nat.{◌+◌}
use mathlib.Core.Path.{◌≡◌, refl}
use native.Mathlib.Omega.{arith}
use Rattle.block.proofs.Exchange.{traded_none, traded_more, traded_all}
use Rattle.block.proofs.exchange_calls.Goals as goal

pub loop-j-init : goal.loop-j-init
loop-j-init c = (omega arith, traded_none c.args.rules.now _)

pub loop-j-preserved : goal.loop-j-preserved
loop-j-preserved c =
    let l = c.loop-j in
    (omega arith, traded_more c.args.rules.now l.rules (c.args.rule + 56 + 5) l.j _ _ c.loop-j-test.true (omega (arith, c.requires.0, c.requires.1)) l.invariant.1 refl refl)

pub returns : goal.returns
returns c =
    let l = c.loop-j in
    let five : l.j ≡ 5 = omega (arith, c.loop-j-test.false, l.invariant.0) in
    traded_all c.args.rules.now l.rules c.args.rule (c.args.rule + 56 + 5) (omega arith) (rw five at l.invariant.1)
