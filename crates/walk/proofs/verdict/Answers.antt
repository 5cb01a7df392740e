-- `verdict` walks from the query with no record taken and fuel for one more than there can be.
use mathlib.Core.Path.{◌∙◌}
use native.Mathlib.Omega.{arith}
use Rattle.words.proofs.Tabulate.{tabulate-length}
use Rattle.block.specs.Layout.{query_count, query_value}
use Rattle.block.proofs.{HeapInBlock.records_few, InputInBlock.valid, InputInBlock.values_few, InputInBlock.constants_few, InputInBlock.predicate_few}
use Rattle.walk.proofs.Verdicts.{readable, named, verdict_fits, verdict_part, verdict_none}
use Rattle.walk.proofs.verdict.Goals as goal

pub query_values-requires : goal.query_values-requires
query_values-requires c =
    let g = c.args in
    (constants_few g.rules.now g.heap.now g.query.now c.requires.0, values_few g.rules.now g.heap.now g.query.now c.requires.0)

pub arguments_of-arguments-requires : goal.arguments_of-arguments-requires
arguments_of-arguments-requires c =
    let g = c.args in
    rw c.query_values.ensures (omega (arith, tabulate-length (query_count g.query.now) (query_value g.query.now), values_few g.rules.now g.heap.now g.query.now c.requires.0))

pub query_predicate-requires : goal.query_predicate-requires
query_predicate-requires c =
    omega (arith, predicate_few c.args.rules.now c.args.heap.now c.args.query.now c.requires.0)

pub descend-requires : goal.descend-requires
descend-requires c =
    let g = c.args in (
      readable g.rules.now g.heap.now g.query.now c.requires.0 c.requires.1 c.requires.2,
      omega (arith, c.from-predicate.ensures, c.query_predicate.ensures, named g.rules.now g.heap.now g.query.now c.requires.0),
      c.arguments_of-arguments.ensures.1,
    )

pub all_taken-requires : goal.all_taken-requires
all_taken-requires c =
    let g = c.args in
    omega (arith, c.record_count.ensures.0, records_few g.heap.now (valid g.rules.now g.heap.now g.query.now c.requires.0).heap_formed)

pub returns-in-Some : goal.returns-in-Some
returns-in-Some c =
    let g = c.args in
    verdict_fits g.rules.now g.heap.now g.query.now c.requires.0 c.requires.3 (rw c.query_values.ensures at c.arguments_of-arguments.ensures.0)
    (c.from-predicate.ensures ∙ c.query_predicate.ensures) c.descend.ensures (omega arith) c.in-Some.is
    ((rw c.record_count.ensures.0 at c.all_taken.ensures).so c.if-all_taken.true)

pub returns-in_default : goal.returns-in_default
returns-in_default c =
    let g = c.args in
    verdict_part g.rules.now g.heap.now g.query.now c.requires.0 c.requires.3 (rw c.query_values.ensures at c.arguments_of-arguments.ensures.0)
    (c.from-predicate.ensures ∙ c.query_predicate.ensures) c.descend.ensures (omega arith) c.in-Some.is
    ((rw c.record_count.ensures.0 at c.all_taken.ensures).not_so c.if-all_taken.false)

pub returns-in_default-2 : goal.returns-in_default-2
returns-in_default-2 c =
    let g = c.args in
    verdict_none g.rules.now g.heap.now g.query.now c.requires.0 c.requires.3 (rw c.query_values.ensures at c.arguments_of-arguments.ensures.0)
    (c.from-predicate.ensures ∙ c.query_predicate.ensures) c.descend.ensures (omega arith) c.in_default.is
