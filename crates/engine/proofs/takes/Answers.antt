-- `takes` meets its contract: the checker tells it of the placed input, so of the input.
use Rattle.words.proofs.Answers.{told_as}
use Rattle.evaluation.proofs.Standing.{represents_of, last_placed, same_certificate}
use Rattle.engine.proofs.takes.Goals as goal

pub check-requires : goal.check-requires
check-requires c = represents_of c.place-asked.ensures

pub returns : goal.returns
returns c =
    let s = c.place-asked.ensures in
    told_as (same_certificate s).1 (same_certificate s).0 (c.check.ensures.exact _ _ _ (last_placed s))
