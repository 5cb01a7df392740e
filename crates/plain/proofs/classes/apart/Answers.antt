-- `apart` tests each condition.
use Prim.Native.Nat.{ℕ}
use native.Mathlib.Omega.{arith}
use Rattle.std.proofs.Common.{rules}
use Rattle.block.specs.Layout.{fixed_in}
use Rattle.words.proofs.{Answers.told_as, Ranges.told_all}
use Rattle.plain.specs.Classes.{entries_of, UnequalMet}
use Rattle.plain.proofs.classes.apart.Goals as goal

pub returns : goal.returns
returns c =
    let g = c.args in
    told_as (λ p k h. p k (omega arith) (omega (arith, c.pure_count.ensures))) (λ p k low high. p k (omega (arith, c.pure_count.ensures)))
    (told_all _ _ _ _ (λ (k : ℕ). UnequalMet (fixed_in g.given.now) g.rules.now g.rule g.shared k (entries_of g.classes.now)) c.all.ensures.ran (λ x q b k. (search rules, search rules)))
