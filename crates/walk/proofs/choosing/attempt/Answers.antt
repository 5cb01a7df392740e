-- `attempt` asks for what a choice needs, one after the other; the first that is missing rules the choice out.
use mathlib.Core.Path.{◌≡◌}
use native.Mathlib.Omega.{arith}
use Rattle.block.specs.Layout.{head_in}
use Rattle.walk.proofs.Trying.{not_served, not_found, not_met_values, attempts_take}
use Rattle.walk.proofs.choosing.attempt.Goals.{then-find-ne0-via-then-find-ne0, then-find-ne0-via-else-find-ne0+then-not-pures_hold}
use Rattle.walk.proofs.choosing.attempt.Goals as goal

pub head-requires : goal.head-requires
head-requires c = c.requires.1.formed.inside

pub find-requires : goal.find-requires
find-requires c = (c.requires.1.formed, c.requires.0.heap_formed, c.requires.2, c.requires.0.rules_read.constants_few)

pub pures_hold-requires : goal.pures_hold-requires
pures_hold-requires c = (c.requires.1.formed, c.requires.0.rules_read.constants_few)

pub take-requires : goal.take-requires
take-requires c = (c.requires.1.formed, c.requires.0.heap_formed, c.requires.0.rules_read.constants_few)

pub returns-then-from-predicate : goal.returns-then-from-predicate
returns-then-from-predicate c =
    let g = c.args in
    not_served c.requires.1 g.heap.now g.arguments.now (λ e. omega (arith, e, c.if-from-predicate.true, c.from.ensures, c.head.ensures))

pub returns-then-find-ne0 : goal.returns-then-find-ne0
returns-then-find-ne0 c =
    let g = c.args in
    let served : head_in g.rules.now g.rule ≡ g.predicate = omega (arith, c.if-from-predicate.false, c.from.ensures, c.head.ensures) in
    elim c.then-find-ne0.branch [
      | then-find-ne0-via-then-find-ne0 w ↦ not_found c.requires.0 c.requires.1 served c.requires.2 c.find.ensures.0
          (λ e. omega (arith, w.if-find-ne0.true, c.find.ensures.1.is, e)) c.find.ensures.1.eight
      | then-find-ne0-via-else-find-ne0+then-not-pures_hold w ↦ not_met_values c.requires.0 c.requires.1 served c.requires.2 c.find.ensures.0
          (record { eight = c.find.ensures.1.eight; is = omega (arith, c.find.ensures.1.is, w.if-find-ne0.false) })
          (w.pures_hold.ensures.not_so w.if-not-pures_hold.true)
    ]

pub returns : goal.returns
returns c =
    let g = c.args in
    let served : head_in g.rules.now g.rule ≡ g.predicate = omega (arith, c.if-from-predicate.false, c.from.ensures, c.head.ensures) in
    attempts_take c.requires.0 c.requires.1 served c.requires.2 c.find.ensures.0
    (record { eight = c.find.ensures.1.eight; is = omega (arith, c.find.ensures.1.is, c.if-find-ne0.false) }) g.mask c.take.result (c.pures_hold.ensures.so c.if-not-pures_hold.false) c.take.ensures
