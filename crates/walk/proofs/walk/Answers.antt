-- `walk` meets its contract: what the reader refuses is refused, and what it accepts `respond` answers.
use native.Mathlib.Omega.{arith}
use Rattle.formats.proofs.Answers.{is_accepted, well_formed, block_long, unread, answered}
use Rattle.walk.proofs.Verdicts.{constants_fit}
use Rattle.walk.proofs.walk.Goals as goal

pub respond-requires : goal.respond-requires
respond-requires c =
    let read = c.read.ensures in (
      well_formed read c.in-Ok.is,
      block_long read c.in-Ok.is,
      constants_fit _ _ _ _ _ _ (is_accepted (rw c.in-Ok.is at read)) (λ i. omega (arith, c.shared_slice_known-1.given i))
          (λ i. omega (arith, c.shared_slice_known-2-1.given i)) (λ i. omega (arith, c.shared_slice_known-3-1.given i)),
    )

pub returns-in-Err : goal.returns-in-Err
returns-in-Err c = unread c.read.ensures c.in-Err.is c.refuse.ensures

pub returns-in-Ok : goal.returns-in-Ok
returns-in-Ok c =
    answered c.read.ensures c.in-Ok.is tt c.respond.ensures
