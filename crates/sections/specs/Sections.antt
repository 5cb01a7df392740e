-- How an input is cut into its sections.
use mathlib.Core.{List.List, Path.◌≡◌}
use Rattle.std.specs.Prelude.{ℕ, ◌+◌, ◌-◌, ◌≤◌, length}
use Rattle.semantics.specs.Contract.{first_section, other_sections}

-- The section that starts with its length: its bytes, and what stands after it. Both lie behind the two bytes of the length.
pub record IsSection (bytes section rest : List ℕ) : Type 0 where
  pub within : length section + length rest ≤ length bytes - 2
  pub is_first : section ≡ first_section bytes
  pub is_rest : rest ≡ other_sections bytes

-- Book, snapshot and question, each from where the one before ends, and what stands after them.
pub record Splits (input book snapshot question rest : List ℕ) : Type 0 where
  pub is_book : IsSection input book (other_sections input)
  pub is_snapshot : IsSection (other_sections input) snapshot (other_sections (other_sections input))
  pub is_question : IsSection (other_sections (other_sections input)) question rest
