-- What the steps of the builder do to the space: marking, numbering, gathering.
use mathlib.Core.{List.List, Logic.◌≢◌, Path.◌≡◌}
use Rattle.std.specs.Prelude.{ℕ, zero, suc, ◌+◌, ◌-◌, ◌*◌, ◌%◌, ◌≤◌, ◌<◌, length, set}
use Rattle.semantics.specs.Certificate.{fact_at, positions_at, rule_at}
use Rattle.table.specs.Layered.{code_at, round_at}
use Rattle.builder.specs.Space.{mark_at, positions_in, names_in, Planned, count, renamed}

-- The space with a place marked that is counted from 1; 0 is none.
abbrev pub marking : List ℕ → ℕ → List ℕ
marking space zero = space
marking space (suc j) = set space (3 * j) 1

-- Marked places that can be numbered: three words for each, calls that lead to earlier marked places, and numbers of sixteen bits.
pub record Numberable (at : ℕ) (space : List ℕ) : Type 0 where
  pub planned : Planned at space
  pub inside : 3 * at + 3 ≤ length space
  pub few : at < 65535

-- Each marked place has its line's number, and its third word line numbers for places.
pub record LinesNamed (at : ℕ) (before after : List ℕ) (lines : ℕ) : Type 0 where
  pub counted : lines ≡ count before (suc at)
  pub long : length after ≡ length before
  pub free : (i : ℕ) → i ≤ at → mark_at before i ≡ 0 → mark_at after i ≡ 0
  pub marked : (i : ℕ) → i ≤ at → mark_at before i ≢ 0 → mark_at after i ≡ suc (count before i)
  pub positions : (i : ℕ) → i ≤ at → positions_in after i ≡ positions_in before i
  pub names : (i : ℕ) → i ≤ at → mark_at before i ≢ 0 → names_in after i ≡ renamed before (names_in before i)

-- Line numbers that rise with the places, and none of them beyond its place.
pub record Lined (at : ℕ) (space : List ℕ) : Type 0 where
  pub inside : 3 * at + 3 ≤ length space
  pub low : (i : ℕ) → i ≤ at → mark_at space i ≤ suc i
  pub rises : (i j : ℕ) → i < j → j ≤ at → mark_at space j ≢ 0 → mark_at space i < mark_at space j

-- Each numbered place's line stands where its number says.
pub record Gathered (table : List ℕ) (at : ℕ) (before after : List ℕ) : Type 0 where
  pub long : length after ≡ length before
  pub facts : (i : ℕ) → i ≤ at → mark_at before i ≢ 0 → fact_at after (mark_at before i) ≡ code_at table i
  pub positions : (i : ℕ) → i ≤ at → mark_at before i ≢ 0 → positions_at after (mark_at before i) ≡ positions_in before i
  pub names : (i : ℕ) → i ≤ at → mark_at before i ≢ 0 → rule_at after (mark_at before i) ≡ names_in before i

-- The line number at a place counted from 1; 0 for none.
abbrev pub number_at : List ℕ → ℕ → ℕ
number_at space zero = 0
number_at space (suc j) = mark_at space j % 65536

-- The space with the three words of a line written, the line counted from 1.
abbrev pub putting : List ℕ → ℕ → ℕ → ℕ → ℕ → List ℕ
putting space line fact positions names = set (set (set space (3 * line - 3) fact) (3 * line - 2) positions) (3 * line - 1) names

-- The first place of the round of place i, looking back from it.
pub record Opens (table : List ℕ) (i first : ℕ) : Type 0 where
  pub upto : first ≤ i
  pub before : 0 < first → round_at table (first - 1) < round_at table i
  pub within : (j : ℕ) → first ≤ j → j < i → ¬ (round_at table j < round_at table i)
