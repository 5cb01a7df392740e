-- `gather` meets its contract. After i turns the lines of the first i places stand where their numbers say. A number is never beyond its
-- place, so a line that is written never hits a place that is still to be read.
use native.Mathlib.Omega.{arith}
use Rattle.builder.proofs.Gathering.{gathered_free, gathered_more}
use Rattle.builder.proofs.marked.gather.Goals as goal
use Rattle.builder.proofs.marked.gather.Goals.{else-line-gt0, then-line-gt0}

pub loop-i-preserved : goal.loop-i-preserved
loop-i-preserved c =
    let l = c.loop-i in
    (elim c.if-line-gt0.branch [ then-line-gt0 w ↦ rw w.space-is (gathered_more c.requires.1 (omega arith) l.invariant (omega (arith, w.if-line-gt0.true)) (rw (← w.code_of.ensures) w.put.ensures)) | else-line-gt0 w ↦ rw w.space-is (gathered_free c.requires.1 (omega arith) l.invariant (omega (arith, w.if-line-gt0.false))) ])
