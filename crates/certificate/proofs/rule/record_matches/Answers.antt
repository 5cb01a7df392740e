-- `record_matches` compares address, number of fields and fields.
use mathlib.Core.Path.{◌∙◌, sym}
use native.Mathlib.Omega.{arith}
use Rattle.words.proofs.Answers.{told_false}
use Rattle.block.proofs.TermsInBlock.{address-asked, size_asked, record_told}
use Rattle.certificate.specs.Line.{given_by}
use Rattle.certificate.proofs.rule.record_matches.Goals as goal

pub returns-then-record_address-variable : goal.returns-then-record_address-variable
returns-then-record_address-variable c =
    let g = c.args in
    told_false
    (λ e.
    c.if-record_address-variable.true
    (c.record_address.ensures ∙ address-asked (λ v. v) g.rules.now g.rule g.g (given_by g.word) g.records.now g.i e
    ∙ sym (rw c.atom_address.ensures at c.variable.ensures)))

pub returns-then-record_size-size : goal.returns-then-record_size-size
returns-then-record_size-size c =
    let g = c.args in
    told_false
    (λ e.
    c.if-record_size-size.true
    (c.record_size.ensures.0 ∙ size_asked (λ v. v) g.rules.now g.rule g.g (given_by g.word) g.records.now g.i e
    ∙ sym c.atom_size-size.ensures.0))

pub fields_match-requires : goal.fields_match-requires
fields_match-requires c =
    let few = c.requires.0.ready.atom_count_lem c.args.g c.requires.1 in
    (omega (arith, c.atom_size-size.ensures), omega (arith, c.atom_size-size.ensures))

pub returns : goal.returns
returns c =
    let g = c.args in
    record_told (λ v. v) g.rules.now g.rule g.g (given_by g.word) g.records.now g.i
    (sym c.record_address.ensures ∙ c.if-record_address-variable.false ∙ rw c.atom_address.ensures at c.variable.ensures)
    (sym c.record_size.ensures.0 ∙ c.if-record_size-size.false ∙ c.atom_size-size.ensures.0)
    (rw (c.record_fields.ensures, c.atom_fields.ensures, c.atom_size-size.ensures.0) at c.fields_match.ensures)
