-- How the entries of a snapshot are read and where they lie in a block of numbers.
use mathlib.Core.{List.List, Path.◌≡◌}
use Rattle.std.specs.Prelude.{ℕ, ◌+◌, ◌≤◌, length, get_or, Result}
use Rattle.semantics.specs.{Heap.Record, Heap.Heap, Reader.Reader, Reader.◌>>=◌, Reader.give, Reader.counted}
use Rattle.semantics.specs.Formats.{value, address, records, read_snapshot}
use Rattle.semantics.specs.declared.Refusal.{Refusal}
use Rattle.block.specs.Layout.{record_in, heap_in, record_room}
use Rattle.reader.specs.{Answer.result_of, Outcome.ranged_byte, Outcome.Within}
use Rattle.reader.specs.Layout.{Layout, single, row, Any}

-- An address above `low`, and a count of at most `most`.
abbrev pub address_layout : ℕ → Layout ℕ
address_layout low = single (address low) (λ v. v) Any

abbrev pub size_layout : ℕ → Layout ℕ
size_layout most = single (ranged_byte 5 6 0 most) (λ v. v) (Within 0 most)

-- One record, whose address is above `low`.
abbrev pub record_above : ℕ → Reader Record
record_above low = do
  a ← address low
  fs ← counted 5 6 4 (value 5)
  give (record { address = a; fields = fs })

abbrev pub record_layout : ℕ → Layout Record
record_layout low = record { read = record_above low; held = record_in; Sized = λ block at. get_or block (at + 1) 0 ≤ 4; width = record_room; low = 0 }

-- Records in order, from the start of the heap.
abbrev pub records_layout : ℕ → Layout Heap
records_layout count = row count (records count 0) (record_layout 0)

-- What the reader of a snapshot promises.
pub record HeapRead (snapshot block block' : List ℕ) (r : Result (Unit {0}) Refusal) : Type 0 where
  pub is : read_snapshot snapshot ≡ result_of r (heap_in block')
  pub long : length block' ≡ length block
