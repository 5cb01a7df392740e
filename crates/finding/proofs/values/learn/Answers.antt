-- `learn` gives a variable's open entry the value, which takes one off the count; any other term has a value.
use mathlib.Core.{Path.refl, Path.ap, Path.◌∙◌, Logic.⊎_elim}
use Prim.Native.Nat.{ℕ, ◌<◌}
use native.Mathlib.Omega.{arith}
use lib.ListN.{length-set, get_or}
use Rattle.block.specs.Ready.{Scoped}
use Rattle.finding.specs.Values.Learnt.{kept, given}
use Rattle.finding.proofs.Opens.{opens_less}
use Rattle.finding.proofs.values.learn.Goals.{else-v-lt128-via-then-v-lt128+else-values-v-ge-OPEN, else-v-lt128-via-else-v-lt128}
use Rattle.finding.proofs.values.learn.Goals as goal

-- a variable is one of eight
few : (t : ℕ) → Scoped t → t < 128 → t < 8
few t s h = ⊎_elim (λ l. l) (λ g. absurd (omega arith)) s

pub overflow_sub-result : goal.overflow_sub-result
overflow_sub-result c =
    let l = few c.args.term c.requires.0 (omega (arith, c.if-v-lt128.true)) in
    omega (arith, opens_less c.args.values.now c.from-v.result c.args.x (omega (arith, c.requires.2.eight)) c.if-values-v-ge-OPEN.true c.requires.1, c.requires.2.is)

pub returns-then-values-v-ge-OPEN : goal.returns-then-values-v-ge-OPEN
returns-then-values-v-ge-OPEN c =
    let l = few c.args.term c.requires.0 (omega (arith, c.if-v-lt128.true)) in
    let less = opens_less c.args.values.now c.from-v.result c.args.x (omega (arith, c.requires.2.eight)) c.if-values-v-ge-OPEN.true c.requires.1 in (
      given l (rw c.from-v.ensures at c.if-values-v-ge-OPEN.true) (rw c.from-v.ensures refl),
      record {
        eight = length-set c.args.values.now c.from-v.result c.args.x ∙ c.requires.2.eight;
        is = omega (arith, less, c.requires.2.is);
      },
    )

pub returns-else-v-lt128 : goal.returns-else-v-lt128
returns-else-v-lt128 c =
    elim c.else-v-lt128.branch [
      | else-v-lt128-via-then-v-lt128+else-values-v-ge-OPEN w ↦ (kept (λ l. omega (arith, w.if-values-v-ge-OPEN.false, ap (λ (v : ℕ). get_or c.args.values.now v 0) c.from-v.ensures)) refl, c.requires.2)
      | else-v-lt128-via-else-v-lt128 w ↦ (kept (λ l. absurd (omega (arith, w.if-v-lt128.false))) refl, c.requires.2)
    ]
