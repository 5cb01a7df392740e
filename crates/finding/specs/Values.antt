-- The values of a rule's variables while they are sought, as a program holds them: eight entries, each a value, or open. Every value that
-- was read is below 2^32, so an entry from there on is none.
use mathlib.Core.{Bool.true, Bool.false, List.List, List.[], List.◌∷◌, List.map, Option.Option, Option.none, Option.some, Path.◌≡◌}
use Rattle.std.specs.Prelude.{ℕ, suc, ◌≤◌, ◌<◌}
use lib.{ListN.length, ListN.get_or, ListN.set, ListN.take, Dec.ltb}
use Rattle.semantics.specs.Found.{Known}
use Rattle.block.specs.Ready.{FormedRule}

-- The least number that is no value.
abbrev pub open_entry : ℕ
open_entry = 4294967296

-- A term's byte has a value: a variable's entry has one, and a fixed value is one.
abbrev pub Valued : List ℕ → ℕ → Type 0
Valued values t = t < 128 → get_or values t 0 < open_entry

-- What the first n entries say of n variables.
abbrev pub told_by : ℕ → Option ℕ
told_by x = elim (ltb x open_entry) [ true ↦ some x | false ↦ none ]

abbrev pub known_in : List ℕ → ℕ → Known
known_in values n = map told_by (take n values)

-- How many entries are open.
unfoldable pub opens : List ℕ → ℕ
opens [] = 0
opens (x ∷ xs) = elim (ltb x open_entry) [ true ↦ opens xs | false ↦ suc (opens xs) ]

-- Eight entries, so many of them open.
pub record Counted (values : List ℕ) (unknown : ℕ) : Type 0 where
  pub eight : length values ≡ 8
  pub is : unknown ≡ opens values

-- A term has been given a value; one that had a value has kept it.
pub data Learnt (t x : ℕ) (before after : List ℕ) : Type 0 where
  kept : Valued before t → after ≡ before → Learnt t x before after
  given : t < 8 → open_entry ≤ get_or before t 0 → after ≡ set before t x → Learnt t x before after

-- A rule's bytes, of whose fixed values nothing is asked.
abbrev pub Shaped : List ℕ → ℕ → Type 0
Shaped rules at = FormedRule (λ b. Unit {0}) rules at
