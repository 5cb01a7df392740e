-- `along_atoms` passes each points-to atom from its address to its fields.
use mathlib.Core.Path.{◌≡◌}
use Prim.Native.Nat.{◌<◌}
use native.Mathlib.Omega.{arith}
use Rattle.block.specs.Layout.{atom_count}
use Rattle.block.proofs.Scopes.{formed_address, formed_fields}
use Rattle.plain.specs.Fixing.{AtomClosed}
use Rattle.plain.proofs.Links.{along_none, along_more, along_fields, atom_stays}
use Rattle.plain.proofs.fixing.along_atoms.Goals as goal

pub loop-g-init : goal.loop-g-init
loop-g-init c =
    (omega arith, along_none c.args.rules.now c.args.rule (AtomClosed c.args.rules.now c.args.rule) c.args.values.now, c.requires.1)

pub pass-left-requires : goal.pass-left-requires
pass-left-requires c =
    let below : c.loop-g.g < atom_count c.args.rules.now c.args.rule = omega (arith, c.atom_count-count.ensures.0, c.loop-g-test.true) in (
      rw c.atom_address.ensures (formed_address c.requires.0 c.loop-g.g below),
      rw c.atom_fields.ensures (formed_fields c.requires.0 c.loop-g.g _ below c.atom_size.ensures.0),
      omega (arith, c.atom_size.ensures.0, c.requires.0.ready.atom_count_lem c.loop-g.g below),
      c.loop-g.invariant.2,
    )

pub loop-g-preserved : goal.loop-g-preserved
loop-g-preserved c =
    let a = c.args in
    let after = c.pass-left.new.values in (
      omega arith,
      along_more a.rules.now a.rule (AtomClosed a.rules.now a.rule) (atom_stays a.rules.now a.rule) c.loop-g.g a.values.now c.loop-g.values after c.loop-g.invariant.1
          (along_fields c.requires.0 c.loop-g.g (omega (arith, c.atom_count-count.ensures.0, c.loop-g-test.true)) _ _ _
          c.atom_address.ensures c.atom_fields.ensures c.atom_size.ensures.0 c.loop-g.values after c.pass-left.ensures.0),
      c.pass-left.ensures.1,
    )

pub returns : goal.returns
returns c =
    let l = c.loop-g in
    let all : l.g ≡ atom_count c.args.rules.now c.args.rule = omega (arith, c.atom_count-count.ensures.0) in
    (rw (← all) l.invariant.1, l.invariant.2)
