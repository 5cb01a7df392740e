-- For callers of `read`: what each answer says of the ladder, and the ways out of every public call whose input is book, snapshot and question.
use mathlib.Core.{Path.◌≡◌, List.List}
use Prim.Native.Nat.{ℕ}
use lib.ListN.{length}
use Rattle.std.specs.Prelude.{Result, Ok, Err}
use Rattle.semantics.specs.{Reader.Result as Reading, Reader.accepted, Reader.refused, Refusals.memory_size, Formats.Input, Formats.ladder, Formats.WellFormedInput, Served.Served}
use Rattle.semantics.proofs.FormatsFacts.{ladder_read}
use Rattle.block.specs.Layout.{input_in, rule_set_size}
use Rattle.formats.specs.Refusal.{Read}
use Rattle.semantics.specs.Numbered.{number_of}
use Rattle.semantics.specs.declared.Refusal.{Refusal}

pub is_refused_lem : {book snapshot question rules heap query : List ℕ} (e : Refusal) → Read book snapshot question rules heap query (Err e)
    → ladder book snapshot question ≡ refused (number_of e)
is_refused_lem e h = h.is

pub is_accepted : {book snapshot question rules heap query : List ℕ} → Read book snapshot question rules heap query (Ok (tt {0}))
    → ladder book snapshot question ≡ accepted (input_in rules heap query)
is_accepted h = h.is

pub accepted_long : {book snapshot question rules heap query : List ℕ} → Read book snapshot question rules heap query (Ok (tt {0})) → length rules ≡ rule_set_size
accepted_long h = h.long

module _ {book snapshot question rules heap query : List ℕ} {r : Result (Unit {0}) Refusal} where
  pub well_formed : Read book snapshot question rules heap query r → r ≡ Ok (tt {0}) → WellFormedInput (input_in rules heap query)
  well_formed h q = ladder_read book snapshot question (input_in rules heap query) (is_accepted (rw q at h))

  pub block_long : Read book snapshot question rules heap query r → r ≡ Ok (tt {0}) → length rules ≡ rule_set_size
  block_long h q = accepted_long (rw q at h)

  module _ {Lends : Type 0} {Refuses : ℕ → Type 0} {Answered : Input → Type 0} where
    pub unread : {e : Refusal} → Read book snapshot question rules heap query r → r ≡ Err e → Refuses (number_of e)
        → Served (λ (s : Reading Input). ladder book snapshot question ≡ s) Lends Refuses Answered
    unread h q k = Served.unread _ (is_refused_lem _ (rw q at h)) k

    pub unlent : Read book snapshot question rules heap query r → r ≡ Ok (tt {0}) → ¬ Lends → Refuses memory_size
        → Served (λ (s : Reading Input). ladder book snapshot question ≡ s) Lends Refuses Answered
    unlent h q n k = Served.unlent (input_in rules heap query) (is_accepted (rw q at h)) n k

    pub answered : Read book snapshot question rules heap query r → r ≡ Ok (tt {0}) → Lends → Answered (input_in rules heap query)
        → Served (λ (s : Reading Input). ladder book snapshot question ≡ s) Lends Refuses Answered
    answered h q l k = Served.answered (input_in rules heap query) (is_accepted (rw q at h)) l k
