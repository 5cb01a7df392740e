-- `fix` marks the terms one by one.
use mathlib.Core.Path.{◌≡◌}
use native.Mathlib.Omega.{arith}
use Rattle.plain.proofs.Links.{given_none, given_more}
use Rattle.plain.proofs.fixing.fix.Goals as goal

pub loop-j-init : goal.loop-j-init
loop-j-init c = let g = c.args in (omega arith, given_none g.rules.now g.terms g.values.now, c.requires.2)

pub learn-left-requires : goal.learn-left-requires
learn-left-requires c =
    (c.requires.0.scoped c.loop-j.j (omega arith), omega arith, c.loop-j.invariant.2)

pub loop-j-preserved : goal.loop-j-preserved
loop-j-preserved c =
    let g = c.args in (
      omega arith,
      given_more g.rules.now g.terms c.loop-j.j g.values.now c.loop-j.values c.learn-left.new.values c.loop-j.invariant.1 c.loop-j.invariant.2.eight c.learn-left.ensures.0,
      c.learn-left.ensures.1,
    )

pub returns : goal.returns
returns c =
    let l = c.loop-j in
    let all : l.j ≡ c.args.count = omega arith in
    (rw (← all) l.invariant.1, l.invariant.2)
