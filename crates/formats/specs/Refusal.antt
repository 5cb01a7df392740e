-- What `read` and the reader of a question promise.
use mathlib.Core.{List.List, Path.◌≡◌}
use Rattle.std.specs.Prelude.{ℕ, ◌≤◌, ◌<◌, length, get_or, Result}
use Rattle.semantics.specs.Formats.{Query, read_query, ladder}
use Rattle.block.specs.Layout.{constants_place, query_predicate, query_place, query_values, input_in, rule_set_size}
use Rattle.reader.specs.Answer.{result_of}
use Rattle.semantics.specs.declared.Refusal.{Refusal}

-- What the reader of a question promises, where the rule set has these arities.
abbrev pub query_in : List ℕ → Query
query_in block = record { predicate = query_predicate block; values = query_values block }

pub record QueryRead (arities question block block' : List ℕ) (r : Result (Unit {0}) Refusal) : Type 0 where
  pub is : read_query arities question ≡ result_of r (query_in block')
  pub kept : (i : ℕ) → constants_place ≤ i → i < query_place block → get_or block' i 0 ≡ get_or block i 0
  pub long : length block' ≡ length block

-- What `read` promises: the answer is the ladder's, and what is accepted is what the three blocks hold.
pub record Read (book snapshot question rules heap query : List ℕ) (r : Result (Unit {0}) Refusal) : Type 0 where
  pub is : ladder book snapshot question ≡ result_of r (input_in rules heap query)
  pub long : length rules ≡ rule_set_size
