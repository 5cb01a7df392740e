-- `along_pures` goes along the conditions one by one.
use mathlib.Core.Path.{◌≡◌}
use native.Mathlib.Omega.{arith}
use Rattle.block.specs.Layout.{pure_count, fixed_in}
use Rattle.block.specs.Ready.{variables_in}
use Rattle.finding.specs.Links.{PureMet, PureClosed}
use Rattle.finding.proofs.Learning.{along_none, along_more}
use Rattle.finding.proofs.Equalities.{pure_stays}
use Rattle.finding.proofs.links.along_pures.Goals as goal

pub loop-k-init : goal.loop-k-init
loop-k-init c =
    let rules = c.args.rules.now in
    let rule = c.args.rule in
    (omega arith, along_none (variables_in rules rule) (PureMet (fixed_in c.args.given.now) rules rule) (PureClosed rules rule) c.args.values.now, c.requires.1)

pub along_pure-left-requires : goal.along_pure-left-requires
along_pure-left-requires c =
    (c.requires.0, omega (arith, c.pure_count-count.ensures.0), c.loop-k.invariant.2, c.requires.2)

pub loop-k-preserved : goal.loop-k-preserved
loop-k-preserved c =
    let rules = c.args.rules.now in
    let rule = c.args.rule in (
      omega arith,
      along_more (variables_in rules rule) (PureMet (fixed_in c.args.given.now) rules rule) (PureClosed rules rule) (pure_stays rules rule) c.loop-k.k c.args.values.now
          c.loop-k.values c.along_pure-left.new.values c.loop-k.invariant.1 c.along_pure-left.ensures.0,
      c.along_pure-left.ensures.1,
    )

pub returns : goal.returns
returns c =
    let l = c.loop-k in
    let all : l.k ≡ pure_count c.args.rules.now c.args.rule = omega (arith, c.pure_count-count.ensures.0) in
    (rw (← all) l.invariant.1, l.invariant.2)
