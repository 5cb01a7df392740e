-- `along_atoms` goes along the points-to atoms one by one.
use mathlib.Core.Path.{◌≡◌}
use native.Mathlib.Omega.{arith}
use Rattle.block.specs.Layout.{atom_count}
use Rattle.block.specs.Ready.{variables_in}
use Rattle.finding.specs.Links.{AtomHas, AtomClosed}
use Rattle.finding.proofs.Learning.{along_none, along_more}
use Rattle.finding.proofs.Fields.{atom_stays}
use Rattle.finding.proofs.links.along_atoms.Goals as goal

pub loop-g-init : goal.loop-g-init
loop-g-init c =
    let rules = c.args.rules.now in
    let rule = c.args.rule in
    let heap = c.args.heap.now in
    (omega arith, λ value. along_none (variables_in rules rule) (AtomHas value rules rule heap) (AtomClosed rules rule heap) c.args.values.now, c.requires.2)

pub along_atom-left-requires : goal.along_atom-left-requires
along_atom-left-requires c =
    (c.requires.0, omega (arith, c.atom_count-count.ensures.0), c.requires.1, c.loop-g.invariant.2)

pub loop-g-preserved : goal.loop-g-preserved
loop-g-preserved c =
    let rules = c.args.rules.now in
    let rule = c.args.rule in
    let heap = c.args.heap.now in (
      omega arith,
      λ value. along_more (variables_in rules rule) (AtomHas value rules rule heap) (AtomClosed rules rule heap) (atom_stays rules rule heap) c.loop-g.g c.args.values.now
          c.loop-g.values c.along_atom-left.new.values (c.loop-g.invariant.1 value) (c.along_atom-left.ensures.0 value),
      c.along_atom-left.ensures.1,
    )

pub returns : goal.returns
returns c =
    let l = c.loop-g in
    let all : l.g ≡ atom_count c.args.rules.now c.args.rule = omega (arith, c.atom_count-count.ensures.0) in
    (rw (← all) l.invariant.1, l.invariant.2)
