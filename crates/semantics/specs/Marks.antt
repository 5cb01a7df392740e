-- Bytes that differ at most in how nil is written where a value stands: 00000000 or FFFFFFFF. Every contract says the same of both
-- (`proofs/Marks.antt`). A place is given by the bytes before it; what they say, and all that comes after, is left open, so faulty bytes are
-- meant too.
use mathlib.Core.{List.List, List.[], List.◌∷◌, List.◌++◌, Path.◌≡◌}
use Rattle.std.specs.Prelude.{ℕ, suc, ◌*◌, ◌<◌, length}

-- The two spellings of nil.
abbrev pub as_zero : List ℕ
as_zero = 0 ∷ 0 ∷ 0 ∷ 0 ∷ []

abbrev pub as_mark : List ℕ
as_mark = 255 ∷ 255 ∷ 255 ∷ 255 ∷ []

-- A count, and fewer values than it says, of four bytes each: a further value is due.
pub record ValueDue (front : List ℕ) : Type 0 where
  pub count : ℕ
  pub before : ℕ
  pub values : List ℕ
  pub is_front : front ≡ count ∷ values
  pub whole : length values ≡ 4 * before
  pub fewer : before < count

-- A constant of a book: before it stand the predicates with their argument counts, and what is counted so far.
pub record AtConstant (front : List ℕ) : Type 0 where
  pub arguments : List ℕ
  pub listed : List ℕ
  pub is_front : front ≡ length arguments ∷ (arguments ++ listed)
  pub next : ValueDue listed

-- A value of a question: before it stands the predicate.
pub record AtValue (front : List ℕ) : Type 0 where
  pub predicate : ℕ
  pub given : List ℕ
  pub is_front : front ≡ predicate ∷ given
  pub next : ValueDue given

-- One of n records and its field next: before it stand records with all their fields, then its own address and what is counted so far.
pub data AtFieldOf : ℕ → List ℕ → Type 0 where
  here : {n : ℕ} (a b c d : ℕ) (fields : List ℕ) → ValueDue fields → AtFieldOf (suc n) (a ∷ b ∷ c ∷ d ∷ fields)
  later : {n : ℕ} (a b c d count : ℕ) (fields front : List ℕ) → length fields ≡ 4 * count → AtFieldOf n front
      → AtFieldOf (suc n) (a ∷ b ∷ c ∷ d ∷ count ∷ (fields ++ front))

-- A field of a snapshot: the number of records comes first.
pub record AtField (front : List ℕ) : Type 0 where
  pub count : ℕ
  pub records : List ℕ
  pub is_front : front ≡ count ∷ records
  pub next : AtFieldOf count records

-- One spelling for the other, at any number of such places.
pub data Respelled (Place : List ℕ → Type 0) (bytes : List ℕ) : List ℕ → Type 0 where
  same : Respelled Place bytes bytes
  marked : (front back : List ℕ) → Place front → Respelled Place bytes (front ++ (as_zero ++ back)) → Respelled Place bytes (front ++ (as_mark ++ back))
  unmarked : (front back : List ℕ) → Place front → Respelled Place bytes (front ++ (as_mark ++ back)) → Respelled Place bytes (front ++ (as_zero ++ back))
