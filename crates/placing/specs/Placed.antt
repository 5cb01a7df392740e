-- Values replaced by their positions in the domain: a record, the heap, the query, the rules.
use mathlib.Core.{List.List, List.map, Path.◌≡◌, Logic.◌⊎◌, Logic.◌≢◌}
use Rattle.std.specs.Prelude.{ℕ, ◌+◌, ◌-◌, ◌≤◌, ◌<◌, length, get_or}
use Rattle.semantics.specs.{Lists.◌among◌, Fact.position, Placed.placed_rules, Placed.placed_heap}
use Rattle.words.specs.Entries.{entries}
use Rattle.domain.specs.Insertion.{Parts}
use Rattle.block.specs.Layout.{record_place, record_address, record_size, record_field, heap_in, rule_set_in, rule_set_read, constants_place, constant_count, fixed_in, first_constant, first_given, first_rule, rule_set_size, heap_size}

-- The listed values are in the domain, which ascends: then each has one position.
abbrev pub Placeable : List ℕ → List ℕ → Type 0
Placeable domain values = (v : ℕ) → v among values → v among domain

-- Record k of the block `records` is that of the block `heap` in positions.
pub record RecordPlaced (domain heap records : List ℕ) (k : ℕ) : Type 0 where
  pub address : record_address records k ≡ position domain (record_address heap k)
  pub size : record_size records k ≡ record_size heap k
  pub fields : (j : ℕ) → j < record_size heap k → record_field records k j ≡ position domain (record_field heap k j)

-- Record k was placed, and its entries are all that changed.
pub record OnePlaced (domain heap before after : List ℕ) (k : ℕ) : Type 0 where
  pub long : length after ≡ heap_size
  pub placed : RecordPlaced domain heap after k
  pub others : (i : ℕ) → (i < record_place k) ⊎ (record_place (k + 1) ≤ i) → get_or after i 0 ≡ get_or before i 0

-- The heap in positions.
pub record HeapPlaced (domain heap records : List ℕ) : Type 0 where
  pub long : length records ≡ heap_size
  pub is : heap_in records ≡ placed_heap domain (heap_in heap)

-- The query's values in positions; unused places are 0.
pub record QueryPlaced (domain values positions : List ℕ) : Type 0 where
  pub is : entries positions 0 (length values) ≡ map (position domain) values
  pub unused : (i : ℕ) → length values ≤ i → get_or positions i 0 ≡ 0

-- A byte below 128 stays, and any other becomes 128 and the place in the domain of the fixed value whose number it has.
pub record BytePlaced (domain query : List ℕ) (before after : ℕ) : Type 0 where
  pub low : before < 128 → after ≡ before
  pub high : 128 ≤ before → 128 ≤ after
  pub place : 128 ≤ before → Parts domain (fixed_in query (before - 128)) (after - 128)
  pub there : 128 ≤ before → fixed_in query (before - 128) among domain → after - 128 ≡ position domain (fixed_in query (before - 128))

-- The bytes from `start` up to `end` are placed, and nothing else is changed.
pub record BytesPlaced (domain query before after : List ℕ) (start end : ℕ) : Type 0 where
  pub long : length after ≡ length before
  pub placed : (k : ℕ) → start ≤ k → k < end → BytePlaced domain query (get_or before k 0) (get_or after k 0)
  pub front : (k : ℕ) → k < start → get_or after k 0 ≡ get_or before k 0
  pub rest : (k : ℕ) → end ≤ k → get_or after k 0 ≡ get_or before k 0

-- The first k constants are in positions, their number is written, and nothing else is changed.
pub record ConstantsPlaced (domain query before after : List ℕ) (k : ℕ) : Type 0 where
  pub long : length after ≡ rule_set_size
  pub count : constant_count after ≡ constant_count query
  pub placed : (j : ℕ) → j < k → get_or after (first_constant + j) 0 ≡ position domain (get_or query (first_given + j) 0)
  pub others : (i : ℕ) → i ≢ constants_place → (i < first_constant) ⊎ (first_rule ≤ i) → get_or after i 0 ≡ get_or before i 0

-- The rules in positions, with the constants.
pub record RulesPlaced (domain query before after : List ℕ) : Type 0 where
  pub long : length after ≡ rule_set_size
  pub is : rule_set_in after ≡ placed_rules domain (rule_set_read query before)
