-- `join` meets its contract: the cases of `Joined`, one for each return.
use mathlib.Core.Path.{refl}
use Rattle.plain.specs.Classes.{Joined}
use Rattle.plain.proofs.classes.join.Goals as goal

pub returns-then-x-y : goal.returns-then-x-y
returns-then-x-y c = (Joined.same refl c.if-x-y.true refl, c.requires)

pub returns-then-x-ge-OPEN : goal.returns-then-x-ge-OPEN
returns-then-x-ge-OPEN c = (Joined.left refl c.if-x-ge-OPEN.true c.replace.ensures.0, c.replace.ensures.1)

pub returns-then-y-ge-OPEN : goal.returns-then-y-ge-OPEN
returns-then-y-ge-OPEN c = (Joined.right refl c.if-y-ge-OPEN.true c.replace-then-y-ge-OPEN.ensures.0, c.replace-then-y-ge-OPEN.ensures.1)

pub returns : goal.returns
returns c = (Joined.clash refl c.if-x-ge-OPEN.false c.if-y-ge-OPEN.false c.if-x-y.false, c.requires)
