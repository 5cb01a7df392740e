-- After k turns k rules are filled; the arities stand below them and stay.
use Rattle.book.specs.BookLayout.{arities_in, rule_layout}
use Rattle.reader.specs.Unread.{unread}
use Rattle.reader.proofs.Section.{Filled}
use Rattle.book.proofs.rules.Given as goal

abbrev pub invariant-loop-k : goal.invariant-loop-k
invariant-loop-k l = Filled (rule_layout (arities_in l.initial.block) l.given) l.from (unread l.initial.reader) l.initial.block l.k (unread l.reader) l.block
