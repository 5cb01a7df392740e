-- `merge` merges the equalities one by one: what follows the classes is what meets those merged so far.
use borrow.Author.{Count.below_more}
use mathlib.Core.{Path.◌≡◌, Path.refl}
use Prim.Native.Nat.{◌+◌}
use native.Mathlib.Omega.{arith}
use Rattle.block.specs.Layout.{fixed_in, pure_count}
use Rattle.plain.specs.Classes.{EqualMet, EqualsMet, Merged}
use Rattle.plain.proofs.Merging.{merged_more, merged_never}
use Rattle.plain.proofs.classes.merge.Goals as goal

pub loop-k-init : goal.loop-k-init
loop-k-init c = (omega arith, c.requires.2, record { out = λ σ f. (f, λ k h. absurd (omega arith)); into = λ σ f m. f })

pub merge_pure-requires : goal.merge_pure-requires
merge_pure-requires c =
    (c.requires.0, omega (arith, c.pure_count-count.ensures.0), c.requires.1, c.loop-k.invariant.1)

pub loop-k-preserved : goal.loop-k-preserved
loop-k-preserved c =
    let g = c.args in (
      omega arith,
      c.merge_pure.ensures.1,
      merged_more {Met = EqualsMet (fixed_in g.given.now) g.rules.now g.rule g.shared c.loop-k.k} {Next = EqualMet (fixed_in g.given.now) g.rules.now g.rule g.shared c.loop-k.k}
          {All = EqualsMet (fixed_in g.given.now) g.rules.now g.rule g.shared (c.loop-k.k + 1)}
          (λ σ a j h. a j (omega arith)) (λ σ a. a c.loop-k.k (omega arith)) c.loop-k.invariant.2 (λ σ m n. below_more _ _ m n) c.if-not-merge_pure.false c.merge_pure.ensures.0,
    )

pub returns-then-not-merge_pure : goal.returns-then-not-merge_pure
returns-then-not-merge_pure c =
    let g = c.args in (
      Merged.never refl
          (merged_never {Met = EqualsMet (fixed_in g.given.now) g.rules.now g.rule g.shared c.loop-k.k} {Next = EqualMet (fixed_in g.given.now) g.rules.now g.rule g.shared c.loop-k.k}
          {All = EqualsMet (fixed_in g.given.now) g.rules.now g.rule g.shared (pure_count g.rules.now g.rule)}
          (λ σ a j h. a j (omega (arith, c.pure_count-count.ensures.0))) (λ σ a. a c.loop-k.k (omega (arith, c.pure_count-count.ensures.0))) c.loop-k.invariant.2 c.if-not-merge_pure.true c.merge_pure.ensures.0),
      c.merge_pure.ensures.1,
    )

pub returns : goal.returns
returns c =
    let l = c.loop-k in
    let g = c.args in
    let all : l.k ≡ pure_count g.rules.now g.rule = omega (arith, c.pure_count-count.ensures.0) in
    let m = l.invariant.2 in
    (Merged.merged refl (rw (← all) m.out) (rw (← all) m.into), l.invariant.1)
