-- `fields_match` compares each field with the value of its term.
use mathlib.Core.Path.{◌≡◌}
use Prim.Native.Nat.{ℕ, ◌+◌}
use native.Mathlib.Omega.{arith}
use lib.ListN.{get_or}
use Rattle.std.proofs.Common.{rules, tests}
use Rattle.semantics.specs.Tree.{value_of}
use Rattle.block.specs.Layout.{term_as, fixed_in, record_place, record_field}
use Rattle.block.proofs.TermsInBlock.{fields_are}
use Rattle.words.proofs.{Answers.told_as, Ranges.told_all}
use Rattle.walk.proofs.taking.fields_match.Goals as goal

pub returns : goal.returns
returns c =
    let g = c.args in
    let same = fields_are (fixed_in g.given.now) g.rules.now g.values.now g.terms g.count g.heap.now (record_place g.i + 2) in
    told_as (λ p. same.1 (λ j h. p j (omega arith) h)) (λ e j low high. same.0 e j high)
    (told_all _ _ _ _ (λ (j : ℕ). record_field g.heap.now g.i j ≡ value_of g.values.now (term_as (fixed_in g.given.now) (get_or g.rules.now (g.terms + j) 0))) c.all.ensures.ran
    (λ x q b k. (search rules, record { so = λ e. grind (arith, tests); not_so = λ e p. grind (arith, tests) })))
