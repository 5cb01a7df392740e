-- `check` tests the number of words and the last fact, and passes the lines one by one: those passed hold. What is told of the blocks is
-- told of the input that they hold.
use borrow.Author.{Count.below_more}
use mathlib.Core.Path.{sym, ◌∙◌}
use native.Mathlib.Omega.{arith}
use Rattle.block.proofs.ReadyBlocks.{ready_of}
use Rattle.words.proofs.Answers.{told_true, told_false}
use Rattle.certificate.proofs.Lines.{checked}
use Rattle.certificate.proofs.check.Goals.{then-count-eq0-via-then-count-eq0, then-count-eq0-via-else-count-eq0+then-count-gt65535, then-count-eq0-via-else-count-eq0+else-count-gt65535+then-words-ne0}
use Rattle.certificate.proofs.check.Goals as goal

pub returns-then-count-eq0 : goal.returns-then-count-eq0
returns-then-count-eq0 c =
    checked c.requires
    (told_false
    (λ p.
    elim c.then-count-eq0.branch [
      | then-count-eq0-via-then-count-eq0 w ↦ omega (arith, p.some, w.if-count-eq0.true)
      | then-count-eq0-via-else-count-eq0+then-count-gt65535 w ↦ omega (arith, p.most, w.if-count-gt65535.true)
      | then-count-eq0-via-else-count-eq0+else-count-gt65535+then-words-ne0 w ↦ w.if-words-ne0.true (omega (arith, p.whole))
    ]))

pub returns-then-fact_at-last : goal.returns-then-fact_at-last
returns-then-fact_at-last c =
    checked c.requires (told_false (λ p. c.if-fact_at-last.true (c.fact_at.ensures ∙ p.is_last)))

pub loop-k-init : goal.loop-k-init
loop-k-init c = (omega arith, omega arith, λ j h l. absurd (omega arith))

pub line_holds-requires : goal.line_holds-requires
line_holds-requires c =
    (ready_of _ _ _ c.requires, c.loop-k.invariant.0, omega (arith, c.loop-k.invariant.1, c.loop-k-test.true))

pub loop-k-preserved : goal.loop-k-preserved
loop-k-preserved c =
    let l = c.loop-k in
    (omega arith, omega arith, below_more _ _ l.invariant.2 (λ low. c.line_holds.ensures.so c.if-not-line_holds.false))

pub returns-then-not-line_holds : goal.returns-then-not-line_holds
returns-then-not-line_holds c =
    checked c.requires
    (told_false (λ p. c.line_holds.ensures.not_so c.if-not-line_holds.true (p.each c.loop-k.k c.loop-k.invariant.0 c.loop-k-test.true)))

pub returns-else-not-line_holds : goal.returns-else-not-line_holds
returns-else-not-line_holds c =
    let l = c.loop-k in
    checked c.requires
    (told_true (record {
      some = omega (arith, c.if-count-eq0.false);
      most = omega (arith, c.if-count-gt65535.false);
      whole = omega (arith, c.if-words-ne0.false);
      is_last = sym c.fact_at.ensures ∙ c.if-fact_at-last.false;
      each = λ k low high. below_more _ _ l.invariant.2 (λ _. c.line_holds.ensures.so c.if-not-line_holds.false) k (omega arith) low;
    }))
