-- Each fault of the examples is met, with its number: one test that the checker computes, and the lemma that turns it into each.
use mathlib.Core.{Bool.Bool, Bool.true, Bool.false, Bool.false≢true, Path.◌≡◌, Path.refl, Path.ap}
use Prim.Native.Nat.{ℕ}
use lib.Dec.{eqb}
use borrow.Author.Tests.{eqb-true}
use Rattle.semantics.specs.{Lists.◌among◌, Lists.digits, Reader.Result, Reader.accepted, Reader.refused, Reader.times, Reader.counted, Reader.word}
use Rattle.semantics.specs.Formats.{read_rule_set, read_snapshot, records, read_query, Input, ladder}
use Rattle.semantics.proofs.{Evaluator.both, Evaluator.every, Evaluation.every_out}
use Rattle.semantics.specs.Faults.{Fault, faults}

-- the faults, computed
is_refused : ℕ → Result Input → Bool
is_refused n (accepted i) = false
is_refused n (refused m) = eqb m n

stops : Fault → Bool
stops fault = is_refused fault.refusal (ladder fault.book fault.snapshot fault.question)

faults_stop : every stops faults ≡ true
unfolding digits times counted word read_rule_set read_snapshot records read_query ladder both every is_refused stops
faults_stop = refl

-- Each fault is met, with its number.
pub faults_true : (fault : Fault) → fault among faults → ladder fault.book fault.snapshot fault.question ≡ refused fault.refusal
unfolding stops is_refused
faults_true fault m = by (ladder fault.book fault.snapshot fault.question) (every_out stops faults faults_stop fault m)
  where
    by : (r : Result Input) → is_refused fault.refusal r ≡ true → r ≡ refused fault.refusal
    by (accepted i) t = absurd (false≢true t)
    by (refused n) t = ap (λ (k : ℕ). refused k) (eqb-true n fault.refusal t)
