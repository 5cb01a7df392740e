-- Head, bound variables and body make the rule; the arity of the head is at most 4.
use Rattle.book.proofs.{RuleParts.no_head, RuleParts.no_bound, RuleParts.rule_fills}
use Rattle.reader.proofs.Keep.{exit}
use Rattle.book.proofs.rule.Goals as goal

pub returns-in_err-head : goal.returns-in_err-head
returns-in_err-head c = exit c.from_residual.ensures.1 (no_head c.args.given.now c.args.at c.in_err-head.ensures.fills)

pub returns-in_err-bound : goal.returns-in_err-bound
returns-in_err-bound c =
    let head = c.in_ok-head.ensures in
    let bound = rw (c.from.ensures, head.number) at c.in_err-bound.ensures.fills in
    exit c.from_residual-in_err-bound.ensures.1 (no_bound c.args.given.now c.args.at c.requires.0 c.requires.1 head.fills bound)

pub returns : goal.returns
returns c =
    let head = c.in_ok-head.ensures in
    let bound = rw (c.from.ensures, head.number) at c.in_ok-bound.ensures.fills in
    rule_fills c.args.given.now c.args.at c.requires.0 c.requires.1 head.fills bound (rw (c.from.ensures, head.number, c.in_ok-bound.ensures.number) at c.body.ensures)
