-- A record by its address: addresses ascend.
use mathlib.Core.{List.List, Logic.◌≢◌, Path.◌≡◌}
use Rattle.std.specs.Prelude.{ℕ, ◌≤◌, ◌<◌, Option, MatchOption}
use Rattle.block.specs.Layout.{record_count, record_address}

-- The records below r are those whose address is below a value.
pub record FirstFrom (heap : List ℕ) (address r : ℕ) : Type 0 where
  pub few : r ≤ record_count heap
  pub below : (i : ℕ) → i < r → record_address heap i < address
  pub above : (i : ℕ) → r ≤ i → i < record_count heap → address ≤ record_address heap i

-- The record at an address, by its number, or that there is none.
abbrev pub RecordAt : List ℕ → ℕ → Option ℕ → Type 0
RecordAt heap address r =
    MatchOption r ((i : ℕ) → i < record_count heap → record_address heap i ≢ address) (λ i. (i < record_count heap) × (record_address heap i ≡ address))
