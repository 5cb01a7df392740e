-- `answer` meets its contract: the rounds fill the table, with the start of the unfolding space lent for its index; then comes the verdict,
-- or refusal 11.
use mathlib.Core.Path.{◌∙◌}
use Rattle.block.specs.Layout.{input_in}
use Rattle.engine.proofs.{Answering.lent_same, Answering.answered, Answering.over_answered, Answers.few_records, Answers.every_part}
use Rattle.evaluation.proofs.Standing.{represents_of}
use Rattle.engine.proofs.answer.Goals as goal

pub every_record-every-requires : goal.every_record-every-requires
every_record-every-requires c =
    few_records c.args.rules.now c.args.heap.now c.args.query.now c.requires.0

pub saturate-requires : goal.saturate-requires
saturate-requires c =
    (represents_of c.place-asked.ensures, c.requires.2)

pub conclude-requires : goal.conclude-requires
conclude-requires c =
    let a = c.saturate in
    record {
      represents = represents_of c.place-asked.ensures;
      saturated = c.in-Ok.ensures.0.1;
      lent = lent_same a.auto.table c.in-Ok.ensures.2 c.requires.2;
    }

pub returns-in_default : goal.returns-in_default
returns-in_default c =
    over_answered _ _ _ _ _ (input_in c.args.rules.now c.args.heap.now c.args.query.now) c.place-asked.ensures (every_part _ _ _ c.every_record-every.ensures) c.args.scope
    c.in_default.ensures.0.1 c.saturate.auto.table (c.in_default.ensures.2 ∙ c.requires.2.three) c.refuse.ensures
    c.clear.ensures c.clear-in_default.ensures

pub returns : goal.returns
returns c =
    rw (← c.saturate.auto.table)
    (answered _ _ _ _ _ (input_in c.args.rules.now c.args.heap.now c.args.query.now) c.place-asked.ensures (every_part _ _ _ c.every_record-every.ensures) c.conclude.ensures)
