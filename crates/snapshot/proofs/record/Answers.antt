-- Address, count and fields make the record, and each leaves alone what the others wrote.
use Rattle.reader.proofs.Keep.{exit_gives}
use Rattle.snapshot.proofs.HeapParts.{no_count, no_fields, record_read}
use Rattle.snapshot.proofs.record.Goals as goal

pub returns-in_err-fields : goal.returns-in_err-fields
returns-in_err-fields c =
    exit_gives c.from_residual-in_err-fields.ensures.1 (no_count c.args.low c.args.at c.in_ok-here.ensures c.in_err-fields.ensures.fills)

pub returns-in_err-values : goal.returns-in_err-values
returns-in_err-values c =
    exit_gives c.from_residual-in_err-values.ensures.1
    (no_fields c.args.low c.args.at c.in_ok-here.ensures c.in_ok-fields.ensures.fills (rw (c.from.ensures, c.in_ok-fields.ensures.number) at c.in_err-values.ensures))

pub returns : goal.returns
returns c =
    record_read c.args.low c.args.at c.in_ok-here.ensures c.in_ok-fields.ensures.fills (rw (c.from.ensures, c.in_ok-fields.ensures.number) at c.in_ok-values.ensures)
