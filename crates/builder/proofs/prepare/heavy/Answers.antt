-- `heavy` asks of each call that the rule lies within the block.
use Prim.Native.Nat.{◌<◌}
use native.Mathlib.Omega.{arith}
use Rattle.std.proofs.Common.{rules}
use Rattle.std.proofs.lemmas.Iterator.{serves_from_Range}
use Rattle.block.proofs.ReadyBlocks.{ready_of}
use Rattle.builder.proofs.prepare.heavy.Goals as goal

pub any-requires-clause-callable : goal.any-requires-clause-callable
any-requires-clause-callable c =
    let a = c.args in
    serves_from_Range (λ x q k. search rules)
    (λ x low high. let few : x < 16 = omega (arith, high, c.rule_count.ensures.0, (ready_of a.rules.now a.records.now a.n c.requires).rules_few) in (search rules, search rules))
