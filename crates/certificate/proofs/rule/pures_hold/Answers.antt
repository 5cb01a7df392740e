-- `pures_hold` tests each condition.
use Prim.Native.Nat.{ℕ}
use native.Mathlib.Omega.{arith}
use Rattle.std.proofs.Common.{rules}
use Rattle.semantics.specs.Tree.{Meets}
use Rattle.block.specs.Layout.{pure_in, pure_place}
use Rattle.words.proofs.Answers.{told_as}
use Rattle.certificate.specs.Line.{given_by}
use Rattle.words.proofs.Ranges.{told_all}
use Rattle.certificate.proofs.rule.pures_hold.Goals as goal

pub returns : goal.returns
returns c =
    let g = c.args in
    told_as (λ p. record { each = λ k h. p k (omega arith) (omega (arith, c.pure_count.ensures)) }) (λ p k low high. p.each k (omega (arith, c.pure_count.ensures)))
    (told_all _ _ _ _ (λ (k : ℕ). Meets (given_by g.word) (pure_in g.rules.now (pure_place g.rule k))) c.all.ensures.ran (λ x q b k. (search rules, search rules)))
