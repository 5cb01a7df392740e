-- `along_pure` passes an equality from the left to the right and back; a condition of the other kind leads nowhere.
use Rattle.block.proofs.KindTests.{kind_unequal}
use borrow.Author.Rules.{rules}
use mathlib.Core.{Path.◌≡◌, Path.ap, Path.◌∙◌, Logic.◌≢◌, List.List}
use Prim.Native.Nat.{ℕ, ◌+◌, ◌<◌}
use native.Mathlib.Omega.{arith}
use lib.ListN.{get_or}
use Rattle.block.specs.Layout.{pure_kind, pure_count, pure_place, pure_left, pure_right}
use Rattle.block.specs.Ready.{Scoped, Terms}
use Rattle.block.proofs.Scopes.{formed_left, formed_right}
use Rattle.finding.specs.Values.{Shaped}
use Rattle.plain.proofs.Links.{along_other, along_both}
use Rattle.plain.proofs.fixing.along_pure.Goals as goal

-- one term at a place of the rule
one-term : {rules : List ℕ} {rule : ℕ} → Shaped rules rule → (k place t : ℕ) → k < pure_count rules rule → place < pure_place rule k + 3 → get_or rules place 0 ≡ t → Scoped t
    → Terms rules place 1
one-term {rules} {rule} f k place t h l e s = record {
  inside = omega (arith, f.inside, f.ready.pures_few);
  scoped = λ i few. let there : place + i ≡ place = omega arith in rw (ap (λ (j : ℕ). get_or rules j 0) there ∙ e) s;
}

-- the right term stands after the left one
right-place : (rules : List ℕ) (rule k place : ℕ) → place ≡ pure_place rule k + 1 → get_or rules (place + 1) 0 ≡ pure_right rules rule k
right-place rules rule k place e = let there : place + 1 ≡ pure_place rule k + 2 = omega arith in ap (λ (j : ℕ). get_or rules j 0) there

pub returns-then-eq : goal.returns-then-eq
returns-then-eq c =
    let g = c.args in
    let other : pure_kind g.rules.now g.rule g.k ≢ 0 = ((kind_unequal c.kind_of.result c.kind_of.ensures).0 (rw c.eq.ensures at c.if-eq.true)) in
    (along_other c.requires.0 g.k c.requires.1 other g.values.now, c.requires.2)

pub pass-some-requires : goal.pass-some-requires
pass-some-requires c =
    let g = c.args in
    let place = c.pure_terms-terms.ensures in (
      rw c.pure_left.ensures (formed_left c.requires.0 g.k c.requires.1),
      one-term c.requires.0 g.k _ (pure_right g.rules.now g.rule g.k) c.requires.1 (omega (arith, place)) (right-place g.rules.now g.rule g.k _ place)
          (formed_right c.requires.0 g.k c.requires.1),
      omega arith,
      c.requires.2,
    )

pub pass-requires : goal.pass-requires
pass-requires c =
    let g = c.args in
    let place = c.pure_terms-terms.ensures in (
      rw c.pure_right.ensures (formed_right c.requires.0 g.k c.requires.1),
      one-term c.requires.0 g.k _ (pure_left g.rules.now g.rule g.k) c.requires.1 (omega (arith, place)) (ap (λ (j : ℕ). get_or g.rules.now j 0) place)
          (formed_left c.requires.0 g.k c.requires.1),
      omega arith,
      c.pass-some.ensures.1,
    )

pub returns : goal.returns
returns c =
    let g = c.args in (
      along_both c.requires.0 g.k c.requires.1 ((kind_unequal c.kind_of.result c.kind_of.ensures).1 (rw c.eq.ensures at c.if-eq.false)) _ _ _ c.pure_left.ensures
          c.pure_right.ensures c.pure_terms-terms.ensures g.values.now c.pass-some.new.values c.pass.new.values c.pass-some.ensures.0 c.pass.ensures.0,
      c.pass.ensures.1,
    )
