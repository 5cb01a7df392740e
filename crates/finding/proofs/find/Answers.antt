-- `find` goes along every link, turn by turn. A turn that learns nothing shows that no link leads further; with no variable open none could.
use mathlib.Core.{List.List, Path.◌≡◌, Path.sym, Path.◌∙◌}
use Prim.Native.Nat.{ℕ}
use native.Mathlib.Omega.{arith}
use Rattle.finding.specs.{Links.Keeps}
use Rattle.block.specs.Layout.{fixed_in}
use Rattle.finding.proofs.{Opens.opens_kept, Shapes.shaped}
use Rattle.finding.proofs.Turns.{Sought, sought_none, sought_more, turn_keeps, still_turn, still_all}
use Rattle.finding.proofs.Found.{all_found}
use Rattle.finding.proofs.find.Goals as goal

pub begin-unknown-requires : goal.begin-unknown-requires
begin-unknown-requires c = (shaped c.requires.0, c.requires.2)

pub loop-unknown-init : goal.loop-unknown-init
loop-unknown-init c =
    let g = c.args in
    (sought_none (fixed_in g.given.now) g.rules.now g.rule g.heap.now c.begin-unknown.new.values, c.begin-unknown.ensures.1)

pub along_pures-some-requires : goal.along_pures-some-requires
along_pures-some-requires c = (c.requires.0, c.loop-unknown.invariant.1, c.requires.3)

pub along_atoms-left-requires : goal.along_atoms-left-requires
along_atoms-left-requires c = (shaped c.requires.0, c.requires.1, c.along_pures-some.ensures.1)

pub returns-then-left-unknown : goal.returns-then-left-unknown
returns-then-left-unknown c =
    let g = c.args in
    let counted = c.along_atoms-left.ensures.1 in (
      all_found g.given.now g.rules.now g.rule g.heap.now g.values.now c.requires.0 c.requires.2.eight (sym c.requires.2.is)
          c.begin-unknown.new.values ((let after' : List ℕ = c.along_atoms-left.new.values in after')) counted.eight c.begin-unknown.ensures.0 ((let sought' : (let Sought-at' : List ℕ → Type 0 = λ values. let g = c.args in
          Sought (fixed_in g.given.now) g.rules.now g.rule g.heap.now c.begin-unknown.new.values values in Sought-at') ((let after' : List ℕ = c.along_atoms-left.new.values in after')) = let g = c.args in
          sought_more (fixed_in g.given.now) g.rules.now g.rule g.heap.now c.loop-unknown.values ((let middle' : List ℕ = c.along_pures-some.new.values in middle')) ((let after' : List ℕ = c.along_atoms-left.new.values in after')) c.along_pures-some.ensures.0 (c.along_atoms-left.ensures.0 (fixed_in g.given.now))
          c.begin-unknown.new.values c.loop-unknown.invariant.0 in sought'))
          (still_turn (fixed_in g.given.now) g.rules.now g.rule g.heap.now c.loop-unknown.values ((let middle' : List ℕ = c.along_pures-some.new.values in middle')) ((let after' : List ℕ = c.along_atoms-left.new.values in after')) c.along_pures-some.ensures.0
          (c.along_atoms-left.ensures.0 (fixed_in g.given.now)) (omega (arith, counted.eight, c.loop-unknown.invariant.1.eight)) (omega (arith, counted.is, c.loop-unknown.invariant.1.is, c.if-left-unknown.true))),
      record { eight = counted.eight; is = omega (arith, counted.is, c.if-left-unknown.true) },
    )

pub loop-unknown-smaller : goal.loop-unknown-smaller
loop-unknown-smaller c =
    let counted = c.along_atoms-left.ensures.1 in
    let kept = opens_kept c.loop-unknown.values ((let after' : List ℕ = c.along_atoms-left.new.values in after')) (omega (arith, counted.eight, c.loop-unknown.invariant.1.eight)) (λ v h. omega (
      arith,
      (let keeps' : Keeps c.loop-unknown.values ((let after' : List ℕ = c.along_atoms-left.new.values in after')) = let g = c.args in
          turn_keeps (fixed_in g.given.now) g.rules.now g.rule g.heap.now c.loop-unknown.values ((let middle' : List ℕ = c.along_pures-some.new.values in middle')) ((let after' : List ℕ = c.along_atoms-left.new.values in after')) c.along_pures-some.ensures.0 (c.along_atoms-left.ensures.0 (fixed_in g.given.now)) in keeps') v h,
    )) in
    omega (arith, kept, counted.is, c.loop-unknown.invariant.1.is, c.if-left-unknown.false)

pub loop-unknown-preserved : goal.loop-unknown-preserved
loop-unknown-preserved c = (
  (let sought' : (let Sought-at' : List ℕ → Type 0 = λ values. let g = c.args in
      Sought (fixed_in g.given.now) g.rules.now g.rule g.heap.now c.begin-unknown.new.values values in Sought-at') ((let after' : List ℕ = c.along_atoms-left.new.values in after')) = let g = c.args in
      sought_more (fixed_in g.given.now) g.rules.now g.rule g.heap.now c.loop-unknown.values ((let middle' : List ℕ = c.along_pures-some.new.values in middle')) ((let after' : List ℕ = c.along_atoms-left.new.values in after')) c.along_pures-some.ensures.0 (c.along_atoms-left.ensures.0 (fixed_in g.given.now))
      c.begin-unknown.new.values c.loop-unknown.invariant.0 in sought'),
  c.along_atoms-left.ensures.1,
)

pub returns : goal.returns
returns c =
    let g = c.args in
    let counted = c.loop-unknown.invariant.1 in
    let none : c.loop-unknown.unknown ≡ 0 = omega arith in (
      all_found g.given.now g.rules.now g.rule g.heap.now g.values.now c.requires.0 c.requires.2.eight (sym c.requires.2.is)
          c.begin-unknown.new.values c.loop-unknown.values counted.eight c.begin-unknown.ensures.0 c.loop-unknown.invariant.0
          (still_all g.rules.now g.rule g.heap.now c.loop-unknown.values (sym counted.is ∙ none)),
      rw (← none) counted,
    )
