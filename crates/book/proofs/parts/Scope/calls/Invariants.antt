-- After k turns k calls are filled; the arities stand below them and stay.
use Rattle.book.specs.BookLayout.{arities_in, call_layout}
use Rattle.reader.specs.Unread.{unread}
use Rattle.reader.proofs.Section.{Filled}
use Rattle.book.proofs.parts.Scope.calls.Given as goal

abbrev pub invariant-loop-k : goal.invariant-loop-k
invariant-loop-k l = Filled (call_layout (arities_in l.initial.block) l.self.given.now l.self.variables) l.from (unread l.initial.reader) l.initial.block l.k (unread l.reader) l.block
