-- `decide_for` meets its contract: what the reader refuses is refused, then memory that does not fit together; otherwise the reply is that of
-- `answer`.
use mathlib.Core.Path.{refl}
use Rattle.formats.proofs.Answers.{well_formed, block_long, unread, unlent, answered}
use Rattle.engine.proofs.decide_for.Goals as goal

pub answer-requires : goal.answer-requires
answer-requires c = (
  well_formed c.read-read.ensures c.in_default.is,
  block_long c.read-read.ensures c.in_default.is,
  c.lends.ensures.so c.if-not-lends.false,
)

pub returns-in-Err : goal.returns-in-Err
returns-in-Err c =
    unread c.read-read.ensures c.in-Err.is (record { is_reply = c.refuse.ensures; same_table = refl; same_space = refl })

pub returns-then-not-lends : goal.returns-then-not-lends
returns-then-not-lends c =
    unlent c.read-read.ensures c.in_default.is (c.lends.ensures.not_so c.if-not-lends.true)
    (record { is_reply = c.refuse-then-not-lends.ensures; same_table = refl; same_space = refl })

pub returns : goal.returns
returns c =
    answered c.read-read.ensures c.in_default.is (c.lends.ensures.so c.if-not-lends.false) c.answer.ensures
