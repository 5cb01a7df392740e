-- `check_for` meets its contract: what the reader refuses is refused, and of what it accepts `takes` tells whether the words are a
-- certificate.
use mathlib.Core.Path.{refl}
use Rattle.words.proofs.Answers.{told_as}
use Rattle.formats.proofs.Answers.{well_formed, block_long, unread, answered}
use Rattle.engine.proofs.Answers.{few_records, chosen_taken, checks_told}
use Rattle.engine.proofs.check_for.Goals as goal

pub chosen-part-requires : goal.chosen-part-requires
chosen-part-requires c = few_records _ _ _ (well_formed c.read-read.ensures c.in_default.is)

pub takes-taken-requires : goal.takes-taken-requires
takes-taken-requires c = (well_formed c.read-read.ensures c.in_default.is, block_long c.read-read.ensures c.in_default.is)

pub returns-in-Err : goal.returns-in-Err
returns-in-Err c = unread c.read-read.ensures c.in-Err.is (rw c.from.ensures refl)

pub returns : goal.returns
returns c =
    let same = chosen_taken c.args.part _ _ _ _ c.chosen-part.ensures in
    answered c.read-read.ensures c.in_default.is tt (checks_told _ (told_as same.0 same.1 c.takes-taken.ensures) c.from-2.ensures)
