-- `find_record` finds the first record as asked for.
use native.Mathlib.Omega.{arith}
use mathlib.Core.Path.{◌≡◌}
use Rattle.std.proofs.Common.{rules}
use Rattle.words.proofs.Ranges.{told_first, option_as}
use Rattle.semantics.specs.{Heap.Record, Tree.asked}
use Rattle.block.specs.Layout.{atom_in, record_in, atom_place, record_place}
use Rattle.certificate.specs.Line.{given_by}
use Rattle.certificate.proofs.rule.find_record.Goals as goal

pub returns : goal.returns
returns c =
    let g = c.args in
    let wanted : Record = asked (given_by g.word) (atom_in g.rules.now (atom_place g.rule g.g)) in
    option_as c.find.result (λ n i h. n i (omega arith) (omega (arith, c.record_count.ensures)))
    (λ i f. record { below = omega (arith, f.1, c.record_count.ensures); is = f.2; first = λ j h. f.3 j (omega arith) h })
    (told_first _ _ _ _ (λ i. record_in g.records.now (record_place i) ≡ wanted) c.find.ensures.ran (λ x q b k. (search rules, search rules)))
