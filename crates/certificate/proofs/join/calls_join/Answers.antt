-- `calls_join` passes the calls one by one. The invariant: all calls join to what was used at the start exactly if those that are left join
-- to what is used now.
use mathlib.Core.{Path.◌≡◌, Path.sym, Path.ap, Path.◌∙◌}
use Prim.Native.Nat.{◌+◌, ◌%◌, ◌<◌}
use native.Mathlib.Omega.{arith}
use Rattle.semantics.specs.{Certificate.fact_at, Fact.part_of}
use Rattle.block.specs.Layout.{call_count}
use Rattle.words.proofs.{Answers.told_false, Answers.told_equal, Disjoint.sum_small}
use Rattle.certificate.proofs.{Passing.calls_step, Passing.calls_done}
use Rattle.certificate.proofs.join.calls_join.Goals as goal

pub loop-c-init : goal.loop-c-init
loop-c-init c =
    let e = c.positions_at-word.ensures in
    (omega arith, omega arith, rw (c.rule_at-lines.ensures, e) (λ p. p, λ p. p))

pub returns-then-not-calls_line : goal.returns-then-not-calls_line
returns-then-not-calls_line c =
    let g = c.args in
    told_false
    (λ p.
    c.calls_line.ensures.not_so c.if-not-calls_line.true
    ((calls_step g.rules.now g.rule c.loop-c.c (omega (arith, c.call_count-count.ensures))).0 (c.loop-c.invariant.2.0 p)).line)

pub fact_at-requires : goal.fact_at-requires
fact_at-requires c =
    let line = c.calls_line.ensures.so c.if-not-calls_line.false in
    (line.some, omega (arith, line.earlier, c.requires.2))

pub returns-then-shares : goal.returns-then-shares
returns-then-shares c =
    let g = c.args in
    let e : c.part_of-part.result ≡ part_of (fact_at g.words.now (c.loop-c.lines % 65536)) = c.part_of-part.ensures ∙ ap part_of c.fact_at.ensures in
    told_false
    (λ p.
    ((calls_step g.rules.now g.rule c.loop-c.c (omega (arith, c.call_count-count.ensures))).0 (c.loop-c.invariant.2.0 p)).disjoint
    (rw (← e) (c.shares.ensures.so c.if-shares.true)))

pub overflow_add-sum : goal.overflow_add-sum
overflow_add-sum c =
    let small = sum_small c.part_of-part.result c.loop-c.sum (omega (arith, c.part_of-part.ensures)) c.loop-c.invariant.1 (c.shares.ensures.not_so c.if-shares.false) in
    record { fits = omega (arith, small) }

pub loop-c-preserved : goal.loop-c-preserved
loop-c-preserved c =
    let g = c.args in
    let h : c.loop-c.c < call_count g.rules.now g.rule = omega (arith, c.call_count-count.ensures) in
    let e : c.part_of-part.result ≡ part_of (fact_at g.words.now (c.loop-c.lines % 65536)) = c.part_of-part.ensures ∙ ap part_of c.fact_at.ensures in
    let s : c.loop-c.sum + c.part_of-part.result ≡ c.part_of-part.result + c.loop-c.sum = omega arith in
    let small = sum_small c.part_of-part.result c.loop-c.sum (omega (arith, c.part_of-part.ensures)) c.loop-c.invariant.1 (c.shares.ensures.not_so c.if-shares.false) in
    let step = calls_step g.rules.now g.rule c.loop-c.c h in (
      omega arith,
      omega (arith, small),
      (
        λ p. rw (s, e) (step.0 (c.loop-c.invariant.2.0 p)).rest,
        λ p. c.loop-c.invariant.2.1 (step.1
            (record { line = c.calls_line.ensures.so c.if-not-calls_line.false; disjoint = rw (← e) (c.shares.ensures.not_so c.if-shares.false); rest = rw (← e) (rw s at p) })),
      ),
    )

pub returns-else-lines-eq0 : goal.returns-else-lines-eq0
returns-else-lines-eq0 c =
    let g = c.args in
    told_equal c.loop-c.lines 0 (λ e. absurd (c.if-lines-eq0.false e)) (λ p. ((calls_done g.rules.now g.rule c.loop-c.c (omega (arith, c.call_count-count.ensures))).0 (c.loop-c.invariant.2.0 p)).0)

pub returns-then-lines-eq0 : goal.returns-then-lines-eq0
returns-then-lines-eq0 c =
    let g = c.args in
    let done = calls_done g.rules.now g.rule c.loop-c.c (omega (arith, c.call_count-count.ensures)) in
    let e : c.part_of.result ≡ part_of (fact_at g.words.now g.k) = c.part_of.ensures ∙ ap part_of c.fact_at-then-lines-eq0.ensures in
    told_equal c.loop-c.sum c.part_of.result
    (λ q. c.loop-c.invariant.2.1 (done.1 (c.if-lines-eq0.true, q ∙ e)))
    (λ p. (done.0 (c.loop-c.invariant.2.0 p)).1 ∙ sym e)
