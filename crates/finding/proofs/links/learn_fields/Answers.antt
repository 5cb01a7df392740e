-- `learn_fields` gives the terms their fields one by one.
use mathlib.Core.Path.{◌≡◌}
use native.Mathlib.Omega.{arith}
use Rattle.finding.specs.Links.{FieldIs, FieldKnown}
use Rattle.finding.proofs.Learning.{learnt_along, along_none, along_more}
use Rattle.finding.proofs.Fields.{field_stays}
use Rattle.finding.proofs.links.learn_fields.Goals as goal

pub loop-j-init : goal.loop-j-init
loop-j-init c =
    let g = c.args in
    (omega arith, λ value n. along_none n (FieldIs value g.rules.now g.terms g.heap.now g.i) (FieldKnown g.rules.now g.terms) g.values.now, c.requires.3)

pub learn-left-requires : goal.learn-left-requires
learn-left-requires c =
    (c.requires.0.scoped c.loop-j.j (omega arith), c.field.ensures.1, c.loop-j.invariant.2)

pub loop-j-preserved : goal.loop-j-preserved
loop-j-preserved c =
    let g = c.args in (
      omega arith,
      λ value n.
          along_more n (FieldIs value g.rules.now g.terms g.heap.now g.i) (FieldKnown g.rules.now g.terms) (field_stays g.rules.now g.terms)
          c.loop-j.j g.values.now c.loop-j.values c.learn-left.new.values (c.loop-j.invariant.1 value n)
          (learnt_along value c.loop-j.invariant.2.eight (omega (arith, c.field.ensures)) (rw c.field.ensures.0 at c.learn-left.ensures.0) n),
      c.learn-left.ensures.1,
    )

pub returns : goal.returns
returns c =
    let l = c.loop-j in
    let all : l.j ≡ c.args.count = omega arith in
    (rw (← all) l.invariant.1, l.invariant.2)
