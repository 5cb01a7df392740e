-- The parts make the rule; the lengths and the arities stay, so every part has its room.
use native.Mathlib.Omega.{arith}
use Rattle.book.proofs.{Heading.header_kept, RuleParts.exit_body, RuleParts.no_pure_count, RuleParts.no_pures, RuleParts.no_atom_count, RuleParts.no_atoms, RuleParts.no_call_count, RuleParts.kept₅, RuleParts.body_fills}
use Rattle.book.proofs.parts.Scope.body.Goals as goal

pub returns-in_err-pures : goal.returns-in_err-pures
returns-in_err-pures c =
    exit_body c.from_residual.ensures.1 (no_pure_count c.args.self.now.given.now c.args.self.now.variables c.args.at c.in_err-pures.ensures.fills)

pub returns-in_err-pures-2 : goal.returns-in_err-pures-2
returns-in_err-pures-2 c =
    let count₁ = c.in_ok-pures.ensures in
    exit_body c.from_residual-in_err-pures-2.ensures.1
    (no_pures c.args.self.now.given.now c.args.self.now.variables c.args.at count₁.fills (rw count₁.number at c.in_err-pures-2.ensures))

pub returns-in_err-atoms : goal.returns-in_err-atoms
returns-in_err-atoms c =
    let count₁ = c.in_ok-pures.ensures in
    exit_body c.from_residual-in_err-atoms.ensures.1
    (no_atom_count c.args.self.now.given.now c.args.self.now.variables c.args.at count₁.fills (rw count₁.number at c.in_ok-pures-2.ensures) c.in_err-atoms.ensures.fills)

pub returns-in_err-atoms-2 : goal.returns-in_err-atoms-2
returns-in_err-atoms-2 c =
    let count₁ = c.in_ok-pures.ensures in
    let count₂ = c.in_ok-atoms.ensures in
    exit_body c.from_residual-in_err-atoms-2.ensures.1
    (no_atoms c.args.self.now.given.now c.args.self.now.variables c.args.at count₁.fills (rw count₁.number at c.in_ok-pures-2.ensures)
    count₂.fills (rw count₂.number at c.in_err-atoms-2.ensures))

pub returns-in_err-calls : goal.returns-in_err-calls
returns-in_err-calls c =
    let count₁ = c.in_ok-pures.ensures in
    let count₂ = c.in_ok-atoms.ensures in
    exit_body c.from_residual-in_err-calls.ensures.1
    (no_call_count c.args.self.now.given.now c.args.self.now.variables c.args.at count₁.fills (rw count₁.number at c.in_ok-pures-2.ensures)
    count₂.fills (rw count₂.number at c.in_ok-atoms-2.ensures) c.in_err-calls.ensures.fills)

pub calls-requires : goal.calls-requires
calls-requires c =
    let count₁ = c.in_ok-pures.ensures in
    let count₂ = c.in_ok-atoms.ensures in
    let count₃ = c.in_ok-calls.ensures in
    let k = kept₅ c.args.self.now.given.now c.args.self.now.variables c.args.at count₁.fills (rw count₁.number at c.in_ok-pures-2.ensures)
    count₂.fills (rw count₂.number at c.in_ok-atoms-2.ensures) count₃.fills in
    (header_kept k (omega (arith, c.requires.1)) c.requires.0, omega (arith, c.requires.1), omega (arith, c.requires.2, count₃.fills.sized.high, count₃.number, k.long))

pub returns : goal.returns
returns c =
    let count₁ = c.in_ok-pures.ensures in
    let count₂ = c.in_ok-atoms.ensures in
    let count₃ = c.in_ok-calls.ensures in
    body_fills c.args.self.now.given.now c.args.self.now.variables c.args.at count₁.fills (rw count₁.number at c.in_ok-pures-2.ensures)
    count₂.fills (rw count₂.number at c.in_ok-atoms-2.ensures) count₃.fills c.requires.0 c.requires.1 _ (rw count₃.number at c.calls.ensures)
