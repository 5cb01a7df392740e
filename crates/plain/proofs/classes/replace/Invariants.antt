-- `replace` passes the entries one by one: each x becomes y, and those that are left are as they were.
use mathlib.Core.Path.{◌≡◌}
use Prim.Native.Nat.{ℕ, ◌≤◌, ◌<◌}
use lib.ListN.{length, get_or}
use Rattle.plain.specs.Classes.{moved}
use Rattle.plain.proofs.classes.replace.Given as goal

abbrev pub invariant-loop-entry : goal.invariant-loop-entry
invariant-loop-entry l =
    (length l.classes ≡ 16)
    × ((j : ℕ) → j < l.entry-index → get_or l.classes j 0 ≡ moved l.x l.y (get_or l.initial.classes j 0))
    × ((j : ℕ) → l.entry-index ≤ j → get_or l.classes j 0 ≡ get_or l.initial.classes j 0)
