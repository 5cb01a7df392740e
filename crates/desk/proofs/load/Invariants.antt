-- The words so far are those of their bytes.
use Rattle.std.proofs.Common.{◌≡◌, ℕ, ◌<◌, [], length, get_or}
use Rattle.std.specs.Int.{w64, from_le_bytes}
use Rattle.desk.proofs.load.Given as goal

abbrev pub invariant-loop-k : goal.invariant-loop-k
invariant-loop-k l = (length l.words ≡ 3072) × ((k : ℕ) → k < l.k → get_or l.words k 0 ≡ from_le_bytes w64 (get_or l.chunks k []))
