-- `pass` marks the terms if the one that it comes from is marked.
use mathlib.Core.Path.{refl}
use Rattle.plain.specs.Fixing.{Passes}
use Rattle.plain.proofs.fixing.pass.Goals as goal

pub returns-then-fixed : goal.returns-then-fixed
returns-then-fixed c = (Passes.passes (c.fixed.ensures.so c.if-fixed.true) c.fix.ensures.0, c.fix.ensures.1)

pub returns-else-fixed : goal.returns-else-fixed
returns-else-fixed c = (Passes.stays (c.fixed.ensures.not_so c.if-fixed.false) refl, c.requires.3)
