-- `fixes` goes along every link, turn by turn. What is marked is fixed; a turn that marks nothing shows that the rest is not.
use mathlib.Core.{List.List, Path.refl}
use Prim.Native.Nat.{ℕ}
use native.Mathlib.Omega.{arith}
use Rattle.words.proofs.Answers.{told_true, told_false}
use Rattle.finding.specs.{Values.opens, Links.Keeps}
use Rattle.finding.proofs.{Opens.opens_kept, Learning.keeps_then}
use Rattle.plain.proofs.Links.{turn_keeps, still_turn, begins_sound, not_all_fixed, all_marked}
use Rattle.plain.proofs.fixing.fixes.Goals as goal

pub begin-unknown-requires : goal.begin-unknown-requires
unfolding opens
begin-unknown-requires c = (c.requires, record { eight = refl; is = refl })

pub loop-unknown-init : goal.loop-unknown-init
loop-unknown-init c =
    let g = c.args in
    (begins_sound g.rules.now g.rule c.begin-unknown.new.values c.begin-unknown.ensures.0, λ v h. refl, c.begin-unknown.ensures.1)

pub along_pures-some-requires : goal.along_pures-some-requires
along_pures-some-requires c = (c.requires, c.loop-unknown.invariant.2)

pub along_atoms-left-requires : goal.along_atoms-left-requires
along_atoms-left-requires c = (c.requires, c.along_pures-some.ensures.1)

pub returns-then-left-unknown : goal.returns-then-left-unknown
returns-then-left-unknown c =
    let g = c.args in
    let counted = c.along_atoms-left.ensures.1 in
    let first = c.begin-unknown.new.values in
    told_false
    (not_all_fixed g.rules.now g.rule first c.begin-unknown.ensures.0 ((let after' : List ℕ = c.along_atoms-left.new.values in after')) (keeps_then first c.loop-unknown.values ((let after' : List ℕ = c.along_atoms-left.new.values in after')) c.loop-unknown.invariant.1 ((let keeps' : Keeps c.loop-unknown.values ((let after' : List ℕ = c.along_atoms-left.new.values in after')) = let g = c.args in
    turn_keeps g.rules.now g.rule c.loop-unknown.values ((let middle' : List ℕ = c.along_pures-some.new.values in middle')) ((let after' : List ℕ = c.along_atoms-left.new.values in after')) c.along_pures-some.ensures.0 c.along_atoms-left.ensures.0 in keeps')))
    (still_turn g.rules.now g.rule c.loop-unknown.values ((let middle' : List ℕ = c.along_pures-some.new.values in middle')) ((let after' : List ℕ = c.along_atoms-left.new.values in after')) c.along_pures-some.ensures.0 c.along_atoms-left.ensures.0
    (omega (arith, counted.eight, c.loop-unknown.invariant.2.eight)) (omega (arith, counted.is, c.loop-unknown.invariant.2.is, c.if-left-unknown.true)))
    c.requires.ready.variables_few (λ e. omega (arith, counted.is, c.if-left-unknown.true, c.loop-unknown-test.true)))

pub loop-unknown-smaller : goal.loop-unknown-smaller
loop-unknown-smaller c =
    let counted = c.along_atoms-left.ensures.1 in
    let kept = opens_kept c.loop-unknown.values ((let after' : List ℕ = c.along_atoms-left.new.values in after')) (omega (arith, counted.eight, c.loop-unknown.invariant.2.eight)) (λ v h. omega (
      arith,
      (let keeps' : Keeps c.loop-unknown.values ((let after' : List ℕ = c.along_atoms-left.new.values in after')) = let g = c.args in
          turn_keeps g.rules.now g.rule c.loop-unknown.values ((let middle' : List ℕ = c.along_pures-some.new.values in middle')) ((let after' : List ℕ = c.along_atoms-left.new.values in after')) c.along_pures-some.ensures.0 c.along_atoms-left.ensures.0 in keeps') v h,
    )) in
    omega (arith, kept, counted.is, c.loop-unknown.invariant.2.is, c.if-left-unknown.false)

pub loop-unknown-preserved : goal.loop-unknown-preserved
loop-unknown-preserved c = (
  c.along_atoms-left.ensures.0.sound (c.along_pures-some.ensures.0.sound c.loop-unknown.invariant.0),
  keeps_then c.begin-unknown.new.values c.loop-unknown.values ((let after' : List ℕ = c.along_atoms-left.new.values in after')) c.loop-unknown.invariant.1 ((let keeps' : Keeps c.loop-unknown.values ((let after' : List ℕ = c.along_atoms-left.new.values in after')) = let g = c.args in
      turn_keeps g.rules.now g.rule c.loop-unknown.values ((let middle' : List ℕ = c.along_pures-some.new.values in middle')) ((let after' : List ℕ = c.along_atoms-left.new.values in after')) c.along_pures-some.ensures.0 c.along_atoms-left.ensures.0 in keeps')),
  c.along_atoms-left.ensures.1,
)

pub returns : goal.returns
returns c =
    let l = c.loop-unknown in
    let g = c.args in
    told_true (all_marked g.rules.now g.rule l.values l.invariant.0 (omega (arith, l.invariant.2.is, c.loop-unknown-test.false)))
