-- The reply is small, so the sum fits.
use Rattle.std.proofs.Common.{arith}
use Rattle.semantics.specs.Lists.{zeros}
use Rattle.engine.proofs.Demands.{refusal_most, verdict_most}
use Rattle.desk.proofs.desk_decide.Goals as goal

pub overflow_mul-result : goal.overflow_mul-result
overflow_mul-result c = omega (arith, refusal_most c.args.book.now c.args.snapshot.now c.args.question.now (zeros 1024) (zeros 3072) c.decide-reply.ensures)

pub overflow_add-result : goal.overflow_add-result
overflow_add-result c =
    let ensured = c.decide-reply.ensures in
    omega (arith, refusal_most c.args.book.now c.args.snapshot.now c.args.question.now (zeros 1024) (zeros 3072) ensured, verdict_most c.args.book.now c.args.snapshot.now c.args.question.now (zeros 1024) (zeros 3072) ensured)
