-- After k turns k values are filled.
use native.Mathlib.Omega.{arith}
use Rattle.reader.proofs.{Section.none, Section.more, Section.broken, Words.value_local, Keep.exit}
use Rattle.reader.proofs.fields.values.Goals as goal

pub loop-k-init : goal.loop-k-init
loop-k-init c = none

pub loop-k-preserved : goal.loop-k-preserved
loop-k-preserved c = more (value_local _) (omega arith) c.loop-k.invariant c.in_ok-value.ensures (omega arith)

pub returns-in_err-value : goal.returns-in_err-value
returns-in_err-value c = exit c.from_residual.ensures.1 (broken c.args.count c.loop-k.invariant c.in_err-value.ensures (omega arith) (omega arith))
