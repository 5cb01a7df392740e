-- `plain` tests each rule.
use Prim.Native.Nat.{ℕ}
use native.Mathlib.Omega.{arith}
use Rattle.std.proofs.Common.{rules}
use Rattle.block.specs.Layout.{rule_set_read}
use Rattle.words.proofs.{Answers.told_as, Ranges.told_all}
use Rattle.plain.specs.Plain.{PlainRule}
use Rattle.plain.proofs.Conclusion.{plain_all, plain_each}
use Rattle.plain.proofs.plain.Goals as goal

pub returns : goal.returns
returns c =
    let g = c.args in
    told_as (λ p. plain_all c.requires (λ r h. p r (omega arith) (omega (arith, c.rule_count.ensures)))) (λ plain r low high. plain_each c.requires plain r (omega (arith, c.rule_count.ensures)))
    (told_all _ _ _ _ (λ (r : ℕ). PlainRule (rule_set_read g.given.now g.rules.now) r) c.all.ensures.ran (λ x q b k. (search rules, search rules)))
