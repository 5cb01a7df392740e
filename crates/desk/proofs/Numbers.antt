-- From what the check says of the loaded words to what its entry says of the bytes.
use mathlib.Core.{Path.ap, List.List}
use Prim.Native.Nat.{ℕ, ◌+◌, ◌*◌}
use Rattle.semantics.specs.{Heap.whole_of, Served.Served, Contract.Checks, Contract.Checked, Contract.DeskChecks, Contract.DeskChecked}
use Rattle.semantics.specs.declared.CheckReply.{CheckReply}
use Rattle.desk.specs.Words.{Loaded}
use Rattle.desk.proofs.Takes.{desk_takes}

-- the number of the check's entry
pub desk_checked : (book snapshot question : List ℕ) {bytes words : List ℕ} {r : CheckReply} → Loaded bytes words → Checked book snapshot question words r
    → DeskChecked book snapshot question bytes (2 * r.refusal + r.taken)
desk_checked book snapshot question from (Served.unread n e a) = Served.unread n e (ap (λ (r : CheckReply). 2 * r.refusal + r.taken) a)
desk_checked book snapshot question from (Served.unlent i e l a) = absurd (l tt)
desk_checked book snapshot question {bytes} {words} {r} from (Served.answered i e l w) = Served.answered i e tt (by w)
  where
    by : Checks i (whole_of i.heap) words r → DeskChecks i bytes (2 * r.refusal + r.taken)
    by (Checks.takes t a) = DeskChecks.takes ((desk_takes i from).1 t) (ap (λ (r : CheckReply). 2 * r.refusal + r.taken) a)
    by (Checks.takes_not t a) = DeskChecks.takes_not (λ d. t ((desk_takes i from).0 d)) (ap (λ (r : CheckReply). 2 * r.refusal + r.taken) a)
