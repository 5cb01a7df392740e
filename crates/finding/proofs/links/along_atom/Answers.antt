-- `along_atom` looks for the record at the known address and learns its fields, if there are as many as the atom has.
use mathlib.Core.Path.{sym, ap, ◌∙◌}
use native.Mathlib.Omega.{arith}
use Rattle.block.specs.Layout.{record_size}
use Rattle.block.proofs.{HeapInBlock.records_few, Scopes.formed_fields}
use Rattle.finding.proofs.Learning.{along_still}
use Rattle.finding.proofs.Addresses.{one_record}
use Rattle.finding.proofs.Fields.{along_record}
use Rattle.finding.proofs.links.along_atom.Goals as goal

pub variable-address-requires : goal.variable-address-requires
variable-address-requires c =
    omega (arith, c.atom_address.ensures, c.requires.0.ready.variables_few, c.requires.0.ready.atom_address_lem c.args.g c.requires.1)

pub returns-then-address-ge-OPEN : goal.returns-then-address-ge-OPEN
returns-then-address-ge-OPEN c =
    let address = rw c.atom_address.ensures at c.variable-address.ensures in
    (λ value. along_still (record { fields = λ i h sized known is. absurd (omega (arith, address, c.if-address-ge-OPEN.true)) }), c.requires.3)

pub returns-in_default : goal.returns-in_default
returns-in_default c =
    let address = rw c.atom_address.ensures at c.variable-address.ensures in
    (λ value. along_still (record { fields = λ i h sized known is. absurd (c.in_default.ensures i h (sym is ∙ sym address)) }), c.requires.3)

pub record_size-requires : goal.record_size-requires
record_size-requires c = omega (arith, c.in-Some.ensures.0, records_few c.args.heap.now c.requires.2)

pub returns-then-record_size-count : goal.returns-then-record_size-count
returns-then-record_size-count c =
    let heap = c.args.heap.now in
    let address = rw c.atom_address.ensures at c.variable-address.ensures in (
      λ value. along_still (record {
        fields = λ i h sized known is.
            let same = one_record heap c.requires.2 c.in-Some.i i c.in-Some.ensures.0 h (c.in-Some.ensures.1 ∙ address ∙ is) in
            absurd (omega (arith, c.if-record_size-count.true, c.record_size.ensures.0, ap (record_size heap) same, c.atom_size-count.ensures.0));
      }),
      c.requires.3,
    )

pub learn_fields-requires : goal.learn_fields-requires
learn_fields-requires c =
    let g = c.args in
    let few = c.requires.0.ready.atom_count_lem g.g c.requires.1 in (
      rw c.atom_fields.ensures (formed_fields c.requires.0 g.g c.atom_size-count.result c.requires.1 c.atom_size-count.ensures.0),
      omega (arith, c.in-Some.ensures.0, records_few g.heap.now c.requires.2),
      omega (arith, c.atom_size-count.ensures.0),
      c.requires.3,
    )

pub returns : goal.returns
returns c =
    let g = c.args in
    let address = rw c.atom_address.ensures at c.variable-address.ensures in (
      λ value. along_record value g.rules.now g.rule g.heap.now g.g c.requires.0 c.requires.1 c.requires.2 g.values.now c.learn_fields.new.values
          c.in-Some.i c.in-Some.ensures.0
          (omega (arith, address, c.if-address-ge-OPEN.false)) (sym address ∙ sym c.in-Some.ensures.1)
          (rw (c.atom_fields.ensures, c.atom_size-count.ensures.0) at c.learn_fields.ensures.0),
      c.learn_fields.ensures.1,
    )
