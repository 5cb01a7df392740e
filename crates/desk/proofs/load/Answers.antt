-- The words that were read are those of all the bytes.
use Rattle.std.proofs.Common.{◌≡◌, ℕ, ◌<◌, ◌*◌, [], length, get_or, arith}
use Rattle.std.proofs.lemmas.Bool.Decides.{nat_tests}
use Rattle.std.specs.Int.{w64, from_le_bytes}
use Rattle.std.specs.Simd.{first_chunks}
use Rattle.desk.specs.Words.{Loaded}
use Rattle.desk.proofs.Bytes.{loads}
use Rattle.desk.proofs.load.Goals as goal

pub returns : goal.returns
returns c =
    let bytes = c.args.bytes.now in
    let cut = c.as_chunks.ensures in
    let n = length c.as_chunks.result.0.now in
    let whole : length bytes ≡ 8 * n = grind (arith, nat_tests) in
    let at : (k : ℕ) → k < n → get_or c.loop-k.words k 0 ≡ from_le_bytes w64 (get_or (first_chunks 8 n bytes) k []) =
    λ k h. rw (cut.front_len, ← cut.front) (c.loop-k.invariant.1 k (omega arith)) in
    Loaded.loaded (loads n bytes c.loop-k.words whole (omega arith) (λ i. omega (arith, c.type_inv.bytes i)) at) (omega arith)
