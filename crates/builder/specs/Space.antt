-- The unfolding space while a certificate is built: three words for each place of the table. The first is the place's mark, and later its
-- line's number; the second and the third are its line's, with places counted from 1 where line numbers come.
use mathlib.Core.{Bool.true, Bool.false, List.List, List.map, Logic.◌⊎◌, Logic.◌≢◌, Path.◌≡◌}
use Rattle.std.specs.Prelude.{ℕ, zero, suc, ◌+◌, ◌*◌, ◌%◌, ◌≤◌, ◌<◌}
use lib.{ListN.get_or, Dec.eqb}
use Rattle.semantics.specs.Lists.{digits}
use Rattle.table.specs.Layered.{round_at}
use Rattle.ground.specs.Grounded.{called_in, called_at}

abbrev pub mark_at : List ℕ → ℕ → ℕ
mark_at space i = get_or space (3 * i) 0

abbrev pub positions_in : List ℕ → ℕ → ℕ
positions_in space i = get_or space (3 * i + 1) 0

abbrev pub names_in : List ℕ → ℕ → ℕ
names_in space i = get_or space (3 * i + 2) 0

-- A place of an earlier round than that of place i, and before it.
pub record Earlier (table : List ℕ) (i j : ℕ) : Type 0 where
  pub before : j < i
  pub round : round_at table j < round_at table i

-- The marked places up to `at`, which is one of them. A marked place calls only marked places before it, and each but `at` is called from
-- a marked place after it.
pub record Planned (at : ℕ) (space : List ℕ) : Type 0 where
  pub root : mark_at space at ≢ 0
  pub calls : (i : ℕ) → i ≤ at → mark_at space i ≢ 0 → (k : ℕ) → k < 3
      → (called_at (names_in space i) k ≡ 0) ⊎ ((j : ℕ) × (j < i) × (mark_at space j ≢ 0) × (called_at (names_in space i) k ≡ suc j))
  pub used : (i : ℕ) → i < at → mark_at space i ≢ 0
      → (j : ℕ) × (i < j) × (j ≤ at) × (mark_at space j ≢ 0) × (k : ℕ) × (k < 3) × (called_at (names_in space j) k ≡ suc i)

-- How many places below n are marked.
unfoldable pub count : List ℕ → ℕ → ℕ
count space zero = 0
count space (suc n) = elim (eqb (mark_at space n) 0) [ true ↦ count space n | false ↦ suc (count space n) ]

-- The number of the line of a place counted from 1; 0 for none.
unfoldable pub line_of : List ℕ → ℕ → ℕ
line_of space zero = 0
line_of space (suc i) = suc (count space i)

-- A third word with line numbers for places.
abbrev pub renamed : List ℕ → ℕ → ℕ
renamed space names = names % 256 + 256 * digits 65536 (map (line_of space) (called_in names))
