-- The question about the whole heap: a reply without a part.
use Rattle.engine.proofs.Answers.{whole_decided}
use Rattle.engine.proofs.decide.Goals as goal

pub returns : goal.returns
returns c = let a = c.args in whole_decided a.book.now a.snapshot.now a.question.now a.table.now a.space.now c.decide_for-reply.ensures
