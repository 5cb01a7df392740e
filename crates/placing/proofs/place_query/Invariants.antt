-- `place_query` meets its contract. After i turns the first i positions are written and the others are 0.
use Prim.Native.Nat.{ℕ, ◌≤◌, ◌<◌}
use mathlib.Core.{Path.◌≡◌}
use lib.{ListN.length, ListN.get_or}
use Rattle.semantics.specs.Fact.{position}
use Rattle.placing.proofs.place_query.Given as goal

abbrev pub invariant-loop-i : goal.invariant-loop-i
invariant-loop-i s =
    (s.i ≤ length s.values) × (length s.positions ≡ 4) × ((l : ℕ) → l < s.i → get_or s.positions l 0 ≡ position s.domain (get_or s.values l 0))
    × ((l : ℕ) → s.i ≤ l → get_or s.positions l 0 ≡ 0)
