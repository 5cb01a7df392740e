-- The numbers of the refusals that the code names.
use Rattle.std.specs.Prelude.{ℕ}
use Rattle.semantics.specs.Refusals.{book_ends, book_count, book_name, book_longer, snapshot_ends, snapshot_count, snapshot_address, snapshot_longer, question_mismatch, memory_size, too_many_facts, book_not_plain}
use Rattle.semantics.specs.declared.Refusal.{Refusal}
use Rattle.semantics.specs.declared.Refusal.TheVariants.{BookEnds, BookCount, BookName, BookLonger, SnapshotEnds, SnapshotCount, SnapshotAddress, SnapshotLonger, QuestionMismatch, MemorySize, TooManyFacts, BookNotPlain}

abbrev pub number_of : Refusal → ℕ
number_of BookEnds = book_ends
number_of BookCount = book_count
number_of BookName = book_name
number_of BookLonger = book_longer
number_of SnapshotEnds = snapshot_ends
number_of SnapshotCount = snapshot_count
number_of SnapshotAddress = snapshot_address
number_of SnapshotLonger = snapshot_longer
number_of QuestionMismatch = question_mismatch
number_of MemorySize = memory_size
number_of TooManyFacts = too_many_facts
number_of BookNotPlain = book_not_plain
