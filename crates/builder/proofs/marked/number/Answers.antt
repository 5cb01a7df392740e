-- `number` meets its contract. After i turns the marked places below i have their line numbers, and their third words name lines. A place
-- calls only marked places before it, whose numbers are there already.
use native.Mathlib.Omega.{arith}
use Rattle.builder.proofs.Numbering.{numbered_none, numbered_free, numbered_more}
use Rattle.builder.proofs.marked.number.Goals as goal
use Rattle.builder.proofs.marked.number.Goals.{else-space-i-ne0, then-space-i-ne0}

pub loop-i-init : goal.loop-i-init
loop-i-init c = numbered_none c.requires

pub loop-i-preserved : goal.loop-i-preserved
loop-i-preserved c =
    let l = c.loop-i in
    (elim c.if-space-i-ne0.branch [ then-space-i-ne0 w ↦ rw (w.space-is, w.lines-is) (numbered_more c.requires (omega arith) l.invariant w.if-space-i-ne0.true w.renamed-names.result w.renamed-names.ensures) | else-space-i-ne0 w ↦ rw (w.space-is, w.lines-is) (numbered_free c.requires (omega arith) l.invariant w.if-space-i-ne0.false) ])
