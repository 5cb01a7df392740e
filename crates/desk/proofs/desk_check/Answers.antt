-- The check gets exactly what was loaded; its reply is small, so the sum fits.
use Rattle.std.proofs.Common.{arith}
use Rattle.engine.proofs.Demands.{check_refusal_most, taken_most}
use Rattle.desk.proofs.Numbers.{desk_checked}
use Rattle.desk.proofs.desk_check.Goals as goal

pub overflow_mul-result : goal.overflow_mul-result
overflow_mul-result c = omega (arith, check_refusal_most c.args.book.now c.args.snapshot.now c.args.question.now _ c.check-reply.ensures)

pub overflow_add-result : goal.overflow_add-result
overflow_add-result c =
    let ensured = c.check-reply.ensures in
    omega (arith, check_refusal_most c.args.book.now c.args.snapshot.now c.args.question.now _ ensured, taken_most c.args.book.now c.args.snapshot.now c.args.question.now _ ensured)

pub returns : goal.returns
returns c = desk_checked c.args.book.now c.args.snapshot.now c.args.question.now c.load.ensures c.check-reply.ensures
