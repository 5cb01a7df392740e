-- After k turns k values are filled.
use Rattle.semantics.specs.Numbered.{number_of}
use Rattle.reader.specs.Layout.{value_layout}
use Rattle.reader.specs.Unread.{unread}
use Rattle.reader.proofs.{Section.Filled}
use Rattle.reader.proofs.fields.values.Given as goal

abbrev pub invariant-loop-k : goal.invariant-loop-k
invariant-loop-k l = Filled (value_layout (number_of l.short)) l.from (unread l.initial.reader) l.initial.block l.k (unread l.reader) l.block
