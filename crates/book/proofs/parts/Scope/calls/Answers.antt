-- After k turns k calls are filled; the arities stand below them and stay.
use native.Mathlib.Omega.{arith}
use Rattle.book.specs.BookLayout.{arities_in}
use Rattle.book.proofs.{Heading.arities_kept, Heading.header_kept, Locals.call_local}
use Rattle.reader.proofs.{Keep.exit, Section.none, Section.more, Section.broken}
use Rattle.book.proofs.parts.Scope.calls.Goals as goal

pub loop-k-init : goal.loop-k-init
loop-k-init c = none

pub call-requires : goal.call-requires
call-requires c =
    let l = c.loop-k.invariant in
    (header_kept l.fills.kept c.requires.1 c.requires.0, omega arith, omega (arith, l.fills.kept.long))

pub loop-k-preserved : goal.loop-k-preserved
loop-k-preserved c =
    let l = c.loop-k.invariant in
    let here = rw (arities_kept l.fills.kept c.requires.1 c.requires.0.few) at c.in_ok-call.ensures in
    more (call_local (arities_in c.args.block.now) c.args.self.now.given.now c.args.self.now.variables) c.requires.1 l here (omega arith)

pub returns-in_err-call : goal.returns-in_err-call
returns-in_err-call c =
    let l = c.loop-k.invariant in
    let here = rw (arities_kept l.fills.kept c.requires.1 c.requires.0.few) at c.in_err-call.ensures in
    exit c.from_residual.ensures.1 (broken c.args.count l here (omega arith) (omega arith))
