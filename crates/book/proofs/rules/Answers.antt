-- After k turns k rules are filled; the arities stand below them and stay.
use native.Mathlib.Omega.{arith}
use Rattle.book.specs.BookLayout.{arities_in}
use Rattle.book.proofs.{Heading.arities_kept, Heading.header_kept, Locals.rule_local}
use Rattle.reader.proofs.{Keep.exit, Section.none, Section.more, Section.broken}
use Rattle.book.proofs.rules.Goals as goal

pub loop-k-init : goal.loop-k-init
loop-k-init c = none

pub rule-requires : goal.rule-requires
rule-requires c =
    let l = c.loop-k.invariant in
    (header_kept l.fills.kept c.requires.1 c.requires.0, omega arith, omega (arith, l.fills.kept.long), c.requires.3)

pub loop-k-preserved : goal.loop-k-preserved
loop-k-preserved c =
    let l = c.loop-k.invariant in
    let here = rw (arities_kept l.fills.kept c.requires.1 c.requires.0.few) at c.in_ok-rule.ensures in
    more (rule_local (arities_in c.args.block.now) c.args.given.now) c.requires.1 l here (omega arith)

pub returns-in_err-rule : goal.returns-in_err-rule
returns-in_err-rule c =
    let l = c.loop-k.invariant in
    let here = rw (arities_kept l.fills.kept c.requires.1 c.requires.0.few) at c.in_err-rule.ensures in
    exit c.from_residual.ensures.1 (broken c.args.count l here (omega arith) (omega arith))
