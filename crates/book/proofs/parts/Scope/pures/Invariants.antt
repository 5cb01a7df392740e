-- After k turns k conditions are filled.
use Rattle.book.specs.BookLayout.{pure_layout}
use Rattle.reader.specs.Unread.{unread}
use Rattle.reader.proofs.Section.{Filled}
use Rattle.book.proofs.parts.Scope.pures.Given as goal

abbrev pub invariant-loop-k : goal.invariant-loop-k
invariant-loop-k l = Filled (pure_layout l.self.given.now l.self.variables) l.from (unread l.initial.reader) l.initial.block l.k (unread l.reader) l.block
