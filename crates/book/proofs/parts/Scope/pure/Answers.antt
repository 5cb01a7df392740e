-- The three parts make the condition, and each leaves alone what the others wrote.
use Rattle.book.proofs.Conditions.{no_left, pure_fills}
use Rattle.reader.proofs.Keep.{exit}
use Rattle.book.proofs.parts.Scope.pure.Goals as goal

pub returns-in_err-term : goal.returns-in_err-term
returns-in_err-term c =
    exit c.from_residual-in_err-term.ensures.1
    (no_left c.args.self.now.given.now c.args.self.now.variables c.args.at c.in_ok-named.ensures.fills c.in_err-term.ensures)

pub returns : goal.returns
returns c =
    pure_fills c.args.self.now.given.now c.args.self.now.variables c.args.at c.in_ok-named.ensures.fills _ c.in_ok-term.ensures c.term-2.ensures
