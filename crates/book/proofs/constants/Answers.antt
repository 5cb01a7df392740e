-- Count and values make the constants.
use Rattle.book.proofs.Whole.{no_constant_count, constants_fill}
use Rattle.book.proofs.constants.Goals as goal

pub returns-in_err-count : goal.returns-in_err-count
returns-in_err-count c = no_constant_count c.from_residual.ensures.1 c.in_err-count.ensures.reads

pub returns : goal.returns
returns c =
    let count = c.in_ok-count.ensures in
    constants_fill _ c.requires count.reads count.within (rw c.from.ensures) (rw c.from-2.ensures at c.values.ensures)
