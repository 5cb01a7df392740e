-- `visit` meets its contract. `ground` gives a line from the facts of earlier rounds, which are those before the first place of the
-- round; its words are written and its called places marked.
use mathlib.Core.Path.{◌≡◌}
use Rattle.builder.proofs.Planning.{marked_upto}
use Rattle.builder.proofs.plan.visit.Given as goal

abbrev pub invariant-loop-k : goal.invariant-loop-k
invariant-loop-k l = l.space ≡ marked_upto l.initial.space l.line.names l.k
