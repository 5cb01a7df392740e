-- `respond` asks whether the rule set is plain, and leaves the rest to `verdict`.
use Rattle.walk.proofs.Verdicts.{rules_readable, refuses}
use Rattle.walk.proofs.respond.Goals as goal

pub plain-requires : goal.plain-requires
plain-requires c = let g = c.args in rules_readable g.rules.now g.heap.now g.query.now c.requires.0 c.requires.2

pub verdict-requires : goal.verdict-requires
verdict-requires c = (c.requires.0, c.requires.1, c.requires.2, c.plain.ensures.so c.if-plain.true)

pub returns-then-plain : goal.returns-then-plain
returns-then-plain c = c.verdict.ensures

pub returns-else-plain : goal.returns-else-plain
returns-else-plain c =
    let g = c.args in
    refuses g.rules.now g.heap.now g.query.now c.requires.0 (c.plain.ensures.not_so c.if-plain.false) c.refuse.ensures
