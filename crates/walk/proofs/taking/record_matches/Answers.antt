-- `record_matches` compares the numbers of fields, then the fields; the address is given.
use native.Mathlib.Omega.{arith}
use Rattle.block.specs.Layout.{fixed_in}
use Rattle.words.proofs.Answers.{told_equal}
use Rattle.block.proofs.{Scopes.formed_fields, TermsInBlock.size_asked, TermsInBlock.record_told}
use Rattle.walk.proofs.taking.record_matches.Goals as goal

pub returns-else-record_size-count : goal.returns-else-record_size-count
returns-else-record_size-count c =
    let g = c.args in
    told_equal c.record_size.result c.atom_size-count.result (λ q. absurd (c.if-record_size-count.false q))
    (λ e. omega (arith, c.record_size.ensures.0, size_asked (fixed_in g.given.now) g.rules.now g.rule g.g g.values.now g.heap.now g.i e, c.atom_size-count.ensures.0))

pub fields_match-requires : goal.fields_match-requires
fields_match-requires c = (
  rw c.atom_fields.ensures (formed_fields c.requires.0 c.args.g c.atom_size-count.result c.requires.1 c.atom_size-count.ensures.0),
  c.requires.2,
  omega (arith, c.atom_size-count.ensures, c.requires.0.ready.atom_count_lem c.args.g c.requires.1),
  c.requires.4,
)

pub returns-then-record_size-count : goal.returns-then-record_size-count
returns-then-record_size-count c =
    let g = c.args in
    record_told (fixed_in g.given.now) g.rules.now g.rule g.g g.values.now g.heap.now g.i c.requires.3
    (omega (arith, c.record_size.ensures.0, c.if-record_size-count.true, c.atom_size-count.ensures.0))
    (rw (c.atom_fields.ensures, c.atom_size-count.ensures.0) at c.fields_match.ensures)
