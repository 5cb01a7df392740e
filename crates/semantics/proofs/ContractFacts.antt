-- What the contracts of the check and of the desk's entries decide: everything.
use mathlib.Core.{Path.◌≡◌, Path.sym, Path.ap₂, Path.◌∙◌, List.List}
use Prim.Native.Nat.{ℕ}
use Rattle.semantics.specs.{Lists.zeros, Formats.Input}
use Rattle.semantics.specs.Contract.{Checks, CheckedFor, desk_number, DeskDecided, DeskChecks, DeskChecked}
use Rattle.semantics.proofs.{ServedFacts.served_both, EngineCall.one_ladder, EngineCall.decided_same}
use Rattle.semantics.specs.declared.CheckReply.{CheckReply}

-- the check's answer is decided
checks_same : {i : Input} {part : ℕ} {words : List ℕ} {r s : CheckReply} → Checks i part words r → Checks i part words s → r ≡ s
checks_same (Checks.takes t a) (Checks.takes t' a') = a ∙ sym a'
checks_same (Checks.takes t a) (Checks.takes_not t' a') = absurd (t' t)
checks_same (Checks.takes_not t a) (Checks.takes t' a') = absurd (t t')
checks_same (Checks.takes_not t a) (Checks.takes_not t' a') = a ∙ sym a'

desk_checks_same : {i : Input} {bytes : List ℕ} {m n : ℕ} → DeskChecks i bytes m → DeskChecks i bytes n → m ≡ n
desk_checks_same (DeskChecks.takes t a) (DeskChecks.takes t' a') = a ∙ sym a'
desk_checks_same (DeskChecks.takes t a) (DeskChecks.takes_not t' a') = absurd (t' t)
desk_checks_same (DeskChecks.takes_not t a) (DeskChecks.takes t' a') = absurd (t t')
desk_checks_same (DeskChecks.takes_not t a) (DeskChecks.takes_not t' a') = a ∙ sym a'

module _ (book snapshot question : List ℕ) where
  -- the reply of the check is decided
  pub checked_same : (part : Input → ℕ) (words : List ℕ) {r s : CheckReply} → CheckedFor book snapshot question part words r → CheckedFor book snapshot question part words s → r ≡ s
  checked_same part words d e = served_both (one_ladder book snapshot question) d e (λ n a b. a ∙ sym b) (λ i k l. checks_same k l)

  -- the desk's numbers are decided
  pub desk_decided_same : {m n : ℕ} → DeskDecided book snapshot question m → DeskDecided book snapshot question n → m ≡ n
  desk_decided_same a b =
      let s = decided_same book snapshot question (zeros 1024) (zeros 3072) a.decided b.decided in
      a.is_number ∙ ap₂ desk_number s.alike.refusals s.verdicts ∙ sym b.is_number

  pub desk_checked_same : (bytes : List ℕ) {m n : ℕ} → DeskChecked book snapshot question bytes m → DeskChecked book snapshot question bytes n → m ≡ n
  desk_checked_same bytes d e = served_both (one_ladder book snapshot question) d e (λ n a b. a ∙ sym b) (λ i k l. desk_checks_same k l)
