-- `build` takes the steps of the builder one after the other; each keeps the space's length.
use mathlib.Core.Path.{◌∙◌}
use native.Mathlib.Omega.{arith}
use Rattle.builder.proofs.Building.{plan_numberable, named_lined, lines_inside, builds}
use Rattle.builder.proofs.build.Goals as goal

pub gather-requires : goal.gather-requires
gather-requires c =
    let r = plan_numberable c.requires c.clear_part.auto.words c.prepare.ensures in
    (c.requires.place, named_lined r c.number-lines.ensures)

pub overflow_mul-lines : goal.overflow_mul-lines
overflow_mul-lines c =
    let p = c.prepare.ensures in
    let m = c.number-lines.ensures in
    let r = plan_numberable c.requires c.clear_part.auto.words p in
    omega (arith, lines_inside r m, m.long, p.long, c.clear_part.auto.words, c.requires.three, c.requires.lines)

pub clear_from-requires : goal.clear_from-requires
clear_from-requires c =
    let r = plan_numberable c.requires c.clear_part.auto.words c.prepare.ensures in
    omega (arith, lines_inside r c.number-lines.ensures, c.gather.ensures.long)

pub returns : goal.returns
returns c =
    let long = c.clear_part.auto.words in
    let p = c.prepare.ensures in
    let m = c.number-lines.ensures in
    let g = c.gather.ensures in
    builds c.requires p (plan_numberable c.requires long p) m g c.clear_from.new.words (g.long ∙ m.long ∙ p.long ∙ long) c.clear_from.ensures
