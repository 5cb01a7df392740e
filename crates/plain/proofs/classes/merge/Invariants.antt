-- `merge` merges the equalities one by one: what follows the classes is what meets those merged so far.
use mathlib.Core.{Path.◌≡◌}
use Prim.Native.Nat.{◌≤◌}
use lib.ListN.{length}
use Rattle.block.specs.Layout.{fixed_in}
use Rattle.plain.specs.Classes.{EqualsMet}
use Rattle.plain.proofs.Merging.{MergedTo}
use Rattle.plain.proofs.classes.merge.Given as goal

abbrev pub invariant-loop-k : goal.invariant-loop-k
invariant-loop-k l =
    (l.k ≤ l.count) × (length l.classes ≡ 16) × MergedTo (EqualsMet (fixed_in l.given) l.rules l.rule l.shared l.k) l.initial.classes l.classes
