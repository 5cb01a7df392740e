-- What a reader of the code answers, in terms of the readers of the definitions.
use mathlib.Core.{List.List, Path.◌≡◌}
use Rattle.std.specs.Prelude.{ℕ, ◌≤◌, ◌<◌, Result, Ok, Err, IfOk}
use lib.{Dec.leb, Dec.ltb}
use Rattle.semantics.specs.Reader.{Got, got, fault, Reader, ◌>>=◌, byte, ensure}
use Rattle.semantics.specs.Numbered.{number_of}
use Rattle.semantics.specs.declared.Refusal.{Refusal}

-- A value and the bytes that are left, or the number of the refusal.
abbrev pub outcome : {A : Type 0} → List ℕ → Result A Refusal → Got A
outcome left (Ok a) = got a left
outcome left (Err refusal) = fault (number_of refusal)

-- From the bytes before to those after it `read` reads the value, or meets the refusal.
pub record Yields {A : Type 0} (read : Reader A) (before after : List ℕ) (r : Result A Refusal) : Type 0 where
  pub is : read before ≡ outcome after r

-- The same answer, with another value.
abbrev pub valued : {A B : Type 0} → Result A Refusal → B → Result B Refusal
valued (Ok a) b = Ok b
valued (Err refusal) b = Err refusal

-- A byte from `least` to `most`.
abbrev pub ranged_byte : (short range least most : ℕ) → Reader ℕ
ranged_byte short range least most = do
  b ← byte short
  l ← ensure (leb least b) range b
  ensure (leb l most) range l

-- A byte below n.
abbrev pub byte_below : (short off n : ℕ) → Reader ℕ
byte_below short off n = do
  b ← byte short
  ensure (ltb b n) off b

-- v is from `least` to `most`.
pub record Within (least most v : ℕ) : Type 0 where
  pub low : least ≤ v
  pub high : v ≤ most

-- v is below n.
abbrev pub Names : (n v : ℕ) → Type 0
Names n v = v < n

-- What a reader of a byte promises.
pub record Ranged (short range least most : ℕ) (before after : List ℕ) (r : Result ℕ Refusal) : Type 0 where
  pub reads : Yields (ranged_byte short range least most) before after r
  pub within : IfOk r (Within least most)

pub record BelowBound (short off n : ℕ) (before after : List ℕ) (r : Result ℕ Refusal) : Type 0 where
  pub reads : Yields (byte_below short off n) before after r
  pub small : IfOk r (Names n)
