-- What is asked of the three sections is what is asked of the input.
use Rattle.sections.proofs.answer.Goals as goal

pub returns : goal.returns
returns c =
    let s = c.split.ensures in
    rw (s.is_book.is_first, s.is_snapshot.is_first, s.is_question.is_first) at c.answer.ensures
