-- After k turns k atoms are filled.
use Rattle.book.specs.BookLayout.{atom_layout}
use Rattle.reader.specs.Unread.{unread}
use Rattle.reader.proofs.Section.{Filled}
use Rattle.book.proofs.parts.Scope.atoms.Given as goal

abbrev pub invariant-loop-k : goal.invariant-loop-k
invariant-loop-k l = Filled (atom_layout l.self.given.now l.self.variables) l.from (unread l.initial.reader) l.initial.block l.k (unread l.reader) l.block
