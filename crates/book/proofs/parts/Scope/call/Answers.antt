-- The name and the arguments make the call: the arities stand below what is written.
use Rattle.book.proofs.{Conditions.no_name, Conditions.call_fills}
use Rattle.reader.proofs.Keep.{exit}
use Rattle.book.proofs.parts.Scope.call.Goals as goal

pub returns-in_err-predicate : goal.returns-in_err-predicate
returns-in_err-predicate c =
    exit c.from_residual.ensures.1 (no_name c.args.self.now.given.now c.args.self.now.variables c.args.at c.in_err-predicate.ensures.fills)

pub returns : goal.returns
returns c =
    let name = c.in_ok-predicate.ensures in
    call_fills c.args.self.now.given.now c.args.self.now.variables c.args.at _ c.requires.0 c.requires.1 name.fills (rw (c.from.ensures, name.number) at c.terms.ensures)
