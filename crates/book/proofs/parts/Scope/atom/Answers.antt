-- Address, count and fields make the atom, and each leaves alone what the others wrote.
use Rattle.book.proofs.Conditions.{no_size, atom_fills}
use Rattle.reader.proofs.Keep.{exit}
use Rattle.book.proofs.parts.Scope.atom.Goals as goal

pub returns-in_err-fields : goal.returns-in_err-fields
returns-in_err-fields c =
    exit c.from_residual-in_err-fields.ensures.1
    (no_size c.args.self.now.given.now c.args.self.now.variables c.args.at c.in_ok-named.ensures.fills c.in_err-fields.ensures.fills)

pub returns : goal.returns
returns c =
    let count = c.in_ok-fields.ensures in
    atom_fills c.args.self.now.given.now c.args.self.now.variables c.args.at c.in_ok-named.ensures.fills _ count.fills (rw count.number at c.terms.ensures)
