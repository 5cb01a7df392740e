-- After k turns k arities are filled.
use Rattle.book.specs.BookLayout.{count_layout}
use Rattle.reader.specs.Unread.{unread}
use Rattle.reader.proofs.Section.{Filled}
use Rattle.book.proofs.arities.Given as goal

abbrev pub invariant-loop-k : goal.invariant-loop-k
invariant-loop-k l = Filled (count_layout 0 4) 8 (unread l.initial.reader) l.initial.block l.k (unread l.reader) l.block
