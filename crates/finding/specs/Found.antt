-- All that can be found of a rule's variables, from the arguments of its head: once all links have been gone along without a gain, there is
-- no more.
use mathlib.Core.{List.List, Path.◌≡◌}
use Rattle.std.specs.Prelude.{ℕ, ◌≤◌, ◌<◌, get_or, take}
use Rattle.semantics.specs.Found.{AllFound}
use Rattle.block.specs.Layout.{rule_as, rule_set_read, fixed_in, heap_in, head_arity}
use Rattle.block.specs.Ready.{variables_in}
use Rattle.finding.specs.Values.{open_entry, known_in}

-- ---- the beginning: the entries from one up to another are open, the others stay

pub record Opened (from upto : ℕ) (before after : List ℕ) : Type 0 where
  pub opened : (v : ℕ) → from ≤ v → v < upto → get_or after v 0 ≡ open_entry
  pub earlier : (v : ℕ) → v < from → get_or after v 0 ≡ get_or before v 0
  pub later : (v : ℕ) → upto ≤ v → get_or after v 0 ≡ get_or before v 0

-- ---- all that can be found, from the arguments of the head; an entry that is no variable's has a value

pub record FoundIn (given rules : List ℕ) (at : ℕ) (heap arguments after : List ℕ) : Type 0 where
  pub is : AllFound (rule_set_read given rules) (heap_in heap) (rule_as (fixed_in given) rules at) (take (head_arity rules at) arguments) (known_in after (variables_in rules at))
  pub later : (v : ℕ) → variables_in rules at ≤ v → get_or after v 0 < open_entry
