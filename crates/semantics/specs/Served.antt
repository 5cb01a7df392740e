-- The one shape of every public call: its input is read, then the memory that it was lent is looked at, then it answers.
use Rattle.std.specs.Prelude.{ℕ}
use Rattle.semantics.specs.{Reader.Result, Reader.accepted, Reader.refused, Refusals.memory_size}

-- How a call is served. `Reads` is its own ladder: it relates the input to what was read, or to the number of the first fault. `Lends`
-- says that the memory is as the call asks (the unit type, where it asks for none). `Refuses n` says what a refusal leaves, the same for
-- every number, and `Answered` what the answer is. A call with numbers of its own before 10 has a longer ladder and numbers that come
-- after 10 belong to its answer, so a further number changes nothing here.
pub data Served {A : Type 0} (Reads : Result A → Type 0) (Lends : Type 0) (Refuses : ℕ → Type 0) (Answered : A → Type 0) : Type 0 where
  unread : (n : ℕ) → Reads (refused n) → Refuses n → Served Reads Lends Refuses Answered
  unlent : (a : A) → Reads (accepted a) → ¬ Lends → Refuses memory_size → Served Reads Lends Refuses Answered
  answered : (a : A) → Reads (accepted a) → Lends → Answered a → Served Reads Lends Refuses Answered
