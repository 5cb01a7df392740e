-- `visit` meets its contract. `ground` gives a line from the facts of earlier rounds, which are those before the first place of the
-- round; its words are written and its called places marked.
use mathlib.Core.Path.{◌≡◌, ◌∙◌}
use Prim.Native.Nat.{◌≤◌}
use native.Mathlib.Omega.{arith}
use Rattle.ground.specs.Grounded.{called_at}
use Rattle.builder.proofs.Layers.{supplied_within, supplied_grounded}
use Rattle.builder.proofs.Planning.{marked_none, marked_more, marked_three, written_long}
use Rattle.builder.proofs.plan.visit.Goals as goal

pub loop-k-init : goal.loop-k-init
loop-k-init c = marked_none _ c.unwrap_or-line.result.names

pub mark-requires : goal.mark-requires
mark-requires c =
    let a = c.args in
    let h = c.requires.0 in
    let line = c.unwrap_or-line in
    let k = c.loop-k.k in
    let supplied = rw c.code_of-fact.ensures at c.ground.ensures.0 in
    let within : called_at line.result.names k ≤ c.earlier-known.result =
    rw line.ensures (supplied_within a.rules.now a.records.now a.n a.table.now a.i c.earlier-known.result c.earlier-known.ensures c.ground.result supplied k c.loop-k-test.true) in
    (c.loop-k-test.true, omega (arith, c.earlier-known.ensures.upto, h.place, h.three, c.loop-k.auto.space, written_long a.space.now a.i line.result.positions line.result.names))

pub loop-k-preserved : goal.loop-k-preserved
loop-k-preserved c = marked_more _ c.unwrap_or-line.result.names c.loop-k.k c.loop-k.invariant c.mark.ensures

pub returns : goal.returns
returns c =
    let a = c.args in
    let line = c.unwrap_or-line in
    let opens = c.earlier-known.ensures in
    let supplied = rw c.code_of-fact.ensures at c.ground.ensures.0 in
    let three : c.loop-k.k ≡ 3 = omega (arith, c.loop-k.auto.k-end, c.loop-k-test.false) in
    let within = supplied_within a.rules.now a.records.now a.n a.table.now a.i c.earlier-known.result opens c.ground.result supplied in (
      record {
        positions = line.result.positions;
        names = line.result.names;
        within = rw line.ensures (λ k l. omega (arith, within k l, opens.upto));
        is_space = (rw three at c.loop-k.invariant) ∙ marked_three a.space.now a.i line.result.positions line.result.names;
        grounds = rw line.ensures (supplied_grounded a.rules.now a.records.now a.n a.table.now a.i c.earlier-known.result opens c.ground.result supplied);
      },
      c.ground.ensures.1,
    )
