-- `take_record` looks at the one record that can be asked for: the one at the atom's address.
use mathlib.Core.Path.{◌≡◌, sym, ap, ◌∙◌}
use Prim.Native.Nat.{ℕ, ◌+◌}
use native.Mathlib.Omega.{arith}
use Rattle.words.proofs.Disjoint.{sum_small}
use Rattle.block.specs.Layout.{fixed_in}
use Rattle.block.proofs.{HeapInBlock.heap_count, HeapInBlock.record_is, HeapInBlock.records_few}
use Rattle.walk.proofs.TakingRecords.{nowhere, only}
use Rattle.walk.proofs.taking.take_record.Goals.{then-shares-via-then-shares, then-shares-via-else-shares+then-not-record_matches}
use Rattle.walk.proofs.taking.take_record.Goals as goal

pub variable-requires : goal.variable-requires
variable-requires c =
    omega (arith, c.atom_address.ensures, c.requires.0.ready.variables_few, c.requires.0.ready.atom_address_lem c.args.g c.requires.1)

pub returns-in_err-i : goal.returns-in_err-i
returns-in_err-i c =
    let g = c.args in
    let address = rw c.atom_address.ensures at c.variable.ensures in
    let none = nowhere (fixed_in g.given.now) g.rules.now g.rule g.g g.values.now g.heap.now address c.in_err-i.ensures in
    rw c.from_residual.ensures (λ k low w. absurd (none k low w))

pub bit-here-requires : goal.bit-here-requires
bit-here-requires c = omega (arith, c.in_ok-i.ensures.0, records_few c.args.heap.now c.requires.2)

pub record_matches-requires : goal.record_matches-requires
record_matches-requires c =
    let address = rw c.atom_address.ensures at c.variable.ensures in
    (c.requires.0, c.requires.1, omega (arith, c.in_ok-i.ensures.0, records_few c.args.heap.now c.requires.2), c.in_ok-i.ensures.1 ∙ address, c.requires.3)

pub returns-then-shares : goal.returns-then-shares
returns-then-shares c k low w =
    let g = c.args in
    let address = rw c.atom_address.ensures at c.variable.ensures in
    let one : k ≡ c.in_ok-i.i = only (fixed_in g.given.now) g.rules.now g.rule g.g g.values.now g.heap.now c.requires.2 c.in_ok-i.i c.in_ok-i.ensures.0 (c.in_ok-i.ensures.1 ∙ address) k low w in
    elim c.then-shares.branch [
      | then-shares-via-then-shares v ↦ rw (one, ← c.bit-here.ensures) (c.shares.ensures.so v.if-shares.true)
      | then-shares-via-else-shares+then-not-record_matches v ↦ absurd (v.record_matches.ensures.not_so v.if-not-record_matches.true (record_is g.heap.now c.in_ok-i.i c.in_ok-i.ensures.0 ∙ rw one at w))
    ]

pub overflow_add-result : goal.overflow_add-result
overflow_add-result c =
    let small = sum_small c.bit-here.result c.args.mask (omega (arith, c.bit-here.type_inv)) (omega arith) (c.shares.ensures.not_so c.if-shares.false) in
    omega (arith, small)

pub returns : goal.returns
returns c =
    let g = c.args in
    let i : ℕ = c.in_ok-i.i in
    record {
      i = i;
      below = omega (arith, c.in_ok-i.ensures.0, heap_count g.heap.now);
      is = sym (record_is g.heap.now i c.in_ok-i.ensures.0) ∙ c.record_matches.ensures.so c.if-not-record_matches.false;
      free = rw (← c.bit-here.ensures) (c.shares.ensures.not_so c.if-shares.false);
      marked = ap (λ (x : ℕ). x + g.mask) c.bit-here.ensures;
    }
