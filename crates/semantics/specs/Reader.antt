-- Reading bytes front to back: what was read with the bytes that are left, or the number of the first fault met.
use mathlib.Core.{Bool.Bool, Bool.true, Bool.false, List.List, List.[], List.◌∷◌}
use Rattle.std.specs.Prelude.{ℕ, zero, suc, leb}
use Rattle.semantics.specs.Lists.{digits}

pub data Got (A : Type 0) : Type 0 where
  got : A → List ℕ → Got A
  fault : ℕ → Got A

abbrev pub Reader : Type 0 → Type 0
Reader A = List ℕ → Got A

abbrev pub onward : {A B : Type 0} → Got A → (A → Reader B) → Got B
onward (got a rest) next = next a rest
onward (fault n) next = fault n

-- One after the other; a `do` block is a chain of these.
abbrev pub ◌>>=◌ : {A B : Type 0} → Reader A → (A → Reader B) → Reader B
◌>>=◌ read next bytes = onward (read bytes) next

abbrev pub give : {A : Type 0} → A → Reader A
give a bytes = got a bytes

-- The value if the test passes, and else this fault.
abbrev pub ensure : {A : Type 0} → Bool → ℕ → A → Reader A
ensure true n a bytes = got a bytes
ensure false n a bytes = fault n

-- One byte; `short` is the fault where there is none.
abbrev pub byte : ℕ → Reader ℕ
byte short [] = fault short
byte short (b ∷ bytes) = got b bytes

-- n entries, each read in the same way.
unfoldable pub times : {A : Type 0} → ℕ → Reader A → Reader (List A)
times zero read = give []
times (suc n) read = do
  a ← read
  rest ← times n read
  give (a ∷ rest)

-- A count of at most `most`, and as many entries.
unfoldable pub counted : {A : Type 0} → (short range most : ℕ) → Reader A → Reader (List A)
counted short range most read = do
  b ← byte short
  n ← ensure (leb b most) range b
  times n read

-- Four bytes, lowest first.
unfoldable pub word : ℕ → Reader ℕ
word short = do
  bs ← times 4 (byte short)
  give (digits 256 bs)

-- What was read of all the bytes, or a refusal's number.
pub data Result (A : Type 0) : Type 0 where
  accepted : A → Result A
  refused : ℕ → Result A

-- The whole of the bytes must be read; `more` is the refusal where bytes follow.
abbrev pub all : {A : Type 0} → ℕ → Got A → Result A
all more (got a []) = accepted a
all more (got a (b ∷ bytes)) = refused more
all more (fault n) = refused n

abbrev pub and_then : {A B : Type 0} → Result A → (A → Result B) → Result B
and_then (accepted a) next = next a
and_then (refused n) next = refused n
