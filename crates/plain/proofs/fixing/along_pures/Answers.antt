-- `along_pures` goes along the conditions one by one.
use mathlib.Core.Path.{◌≡◌}
use native.Mathlib.Omega.{arith}
use Rattle.block.specs.Layout.{pure_count}
use Rattle.finding.specs.{Links.PureClosed}
use Rattle.finding.proofs.Equalities.{pure_stays}
use Rattle.plain.proofs.Links.{along_none, along_more}
use Rattle.plain.proofs.fixing.along_pures.Goals as goal

pub loop-k-init : goal.loop-k-init
loop-k-init c =
    (omega arith, along_none c.args.rules.now c.args.rule (PureClosed c.args.rules.now c.args.rule) c.args.values.now, c.requires.1)

pub along_pure-left-requires : goal.along_pure-left-requires
along_pure-left-requires c =
    (c.requires.0, omega (arith, c.pure_count-count.ensures.0), c.loop-k.invariant.2)

pub loop-k-preserved : goal.loop-k-preserved
loop-k-preserved c =
    let g = c.args in (
      omega arith,
      along_more g.rules.now g.rule (PureClosed g.rules.now g.rule) (pure_stays g.rules.now g.rule) c.loop-k.k g.values.now c.loop-k.values
          c.along_pure-left.new.values c.loop-k.invariant.1 c.along_pure-left.ensures.0,
      c.along_pure-left.ensures.1,
    )

pub returns : goal.returns
returns c =
    let l = c.loop-k in
    let all : l.k ≡ pure_count c.args.rules.now c.args.rule = omega (arith, c.pure_count-count.ensures.0) in
    (rw (← all) l.invariant.1, l.invariant.2)
