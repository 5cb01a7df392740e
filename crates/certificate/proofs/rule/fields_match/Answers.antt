-- `fields_match` compares each field with the position of its term.
use mathlib.Core.Path.{◌≡◌}
use Prim.Native.Nat.{ℕ, ◌+◌}
use native.Mathlib.Omega.{arith}
use lib.ListN.{get_or}
use Rattle.std.proofs.Common.{rules, tests}
use Rattle.semantics.specs.Tree.{value_of}
use Rattle.block.specs.Layout.{term_in}
use Rattle.block.proofs.TermsInBlock.{fields_are}
use Rattle.words.proofs.Answers.{told_as}
use Rattle.certificate.specs.Line.{given_by}
use Rattle.words.proofs.Ranges.{told_all}
use Rattle.certificate.proofs.rule.fields_match.Goals as goal

pub returns : goal.returns
returns c =
    let g = c.args in
    let same = fields_are (λ v. v) g.rules.now (given_by g.word) g.terms g.count g.records.now g.fields in
    told_as (λ p. same.1 (λ j h. p j (omega arith) h)) (λ e j low high. same.0 e j high)
    (told_all _ _ _ _ (λ (j : ℕ). get_or g.records.now (g.fields + j) 0 ≡ value_of (given_by g.word) (term_in (get_or g.rules.now (g.terms + j) 0))) c.all.ensures.ran (λ x q b k. (search rules, record { so = λ e. grind (arith, tests); not_so = λ e p. grind (arith, tests) })))
