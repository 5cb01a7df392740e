-- The refusals' numbers (paper 01: the ladder), each under a name. A call gives the number of the first fault that it meets, in its own
-- order; nothing else writes such a number.
use Rattle.std.specs.Prelude.{ℕ}

-- A byte of the book is due, and there is none.
abbrev pub book_ends : ℕ
book_ends = 1

-- A count of the book or a number of arguments is out of range, or a rule has more than 8 variables.
abbrev pub book_count : ℕ
book_count = 2

-- A byte of the book is no predicate, no kind of condition or no term, or an atom's address is no variable.
abbrev pub book_name : ℕ
book_name = 3

-- The book has bytes after its rules.
abbrev pub book_longer : ℕ
book_longer = 4

-- A byte of the snapshot is due, and there is none.
abbrev pub snapshot_ends : ℕ
snapshot_ends = 5

-- There are too many records, or too many fields in one.
abbrev pub snapshot_count : ℕ
snapshot_count = 6

-- An address is nil or the end mark, or does not ascend.
abbrev pub snapshot_address : ℕ
snapshot_address = 7

-- The snapshot has bytes after its records.
abbrev pub snapshot_longer : ℕ
snapshot_longer = 8

-- The question names no predicate, or has other than that predicate's values.
abbrev pub question_mismatch : ℕ
question_mismatch = 9

-- The lent memory has not the size that the call asks for.
abbrev pub memory_size : ℕ
memory_size = 10

-- More facts hold than the table has lines.
abbrev pub too_many_facts : ℕ
too_many_facts = 11

-- The book is not plain: only the walk asks for it.
abbrev pub book_not_plain : ℕ
book_not_plain = 12
