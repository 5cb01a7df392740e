-- `arguments_of` writes the values one after the other over zeros.
use mathlib.Core.Path.{◌≡◌, ◌∙◌}
use native.Mathlib.Omega.{arith}
use lib.ListN.{length}
use Rattle.words.proofs.Tabulate.{tabulate-get_or}
use Rattle.walk.proofs.Arguments.{written_none, written_more, written_take, written_counted}
use Rattle.walk.proofs.arguments_of.Goals as goal

pub loop-i-init : goal.loop-i-init
loop-i-init c = (omega arith, written_none _)

pub loop-i-preserved : goal.loop-i-preserved
loop-i-preserved c =
    (omega arith, written_more c.loop-i.invariant.1 (omega (arith, c.requires)) c.from.ensures (omega (arith, c.from.ensures)))

pub returns : goal.returns
returns c =
    let given = c.args.given.now in
    let all : c.loop-i.i ≡ length given = omega arith in
    (rw all at (written_take c.loop-i.invariant.1 (omega (arith, c.requires))) ∙ tabulate-get_or given 0, written_counted c.loop-i.invariant.1)
