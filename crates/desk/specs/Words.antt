-- Words that come as bytes.
use mathlib.Core.{List.List, List.[], Path.◌≡◌}
use Rattle.std.specs.Prelude.{ℕ, ◌*◌, ◌≤◌, ◌<◌, length}
use Rattle.semantics.specs.{Lists.◌among◌, Contract.bytes_of}

-- The words are those of the bytes.
pub record Loads (bytes words : List ℕ) : Type 0 where
  pub are_bytes : bytes_of words ≡ bytes
  pub small : (w : ℕ) → w among words → w < 18446744073709551616

-- All the bytes are the words, or they are more than the entry takes or no whole words, and then none is loaded.
pub data Loaded (bytes words : List ℕ) : Type 0 where
  loaded : Loads bytes words → length bytes ≤ 24576 → Loaded bytes words
  beyond : 24576 < length bytes → words ≡ [] → Loaded bytes words
  broken : ((k : ℕ) → length bytes ≡ 8 * k → ⊥) → words ≡ [] → Loaded bytes words
