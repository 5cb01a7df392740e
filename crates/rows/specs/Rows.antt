-- Examples, no part of what must be believed: the starred rows of paper 01, two with constants and two with the end mark, each from its
-- bytes, and what it is for a row to be true.
use mathlib.Core.{Bool.Bool, Bool.true, Bool.false, List.List, List.[], List.◌∷◌, List.◌++◌, Path.◌≡◌}
use Rattle.std.specs.Prelude.{ℕ, ◌-◌, length, get_or}
use Rattle.semantics.specs.{Heap.whole_of, Reader.accepted, Formats.Input, Formats.ladder, Faults.book_l, Faults.four, Faults.asks, Marks.as_mark}
use Rattle.semantics.specs.Contract.{FitsInput, TrimmedPart, CompletedInput, house}

-- The bytes asked about, and the reply: fits or not, facts, rounds, lines. `last` has the table's last fact, where it is shown too.
pub record Row : Type 0 where
  pub book : List ℕ
  pub snapshot : List ℕ
  pub question : List ℕ
  pub fits : Bool
  pub facts : ℕ
  pub rounds : ℕ
  pub lines : ℕ
  pub last : List ℕ

abbrev pub Verdict : Bool → Type 0 → Type 0
Verdict true fits = fits
Verdict false fits = ¬ fits

-- On fits there is a certificate of the engine's kind, and every one has that many lines; otherwise the figure is 0.
abbrev pub LinesShown : Bool → ℕ → Input → Type 0
LinesShown true lines i = ((words : List ℕ) × TrimmedPart i (whole_of i.heap) words) × ((words : List ℕ) (u : TrimmedPart i (whole_of i.heap) words) → u.taken.count ≡ lines)
LinesShown false lines i = lines ≡ 0

abbrev pub LastShown : List ℕ → List ℕ → Type 0
LastShown [] table = Unit {0}
LastShown (f ∷ fs) table = get_or table (length table - 1) 0 ≡ f

-- The bytes are read, the complete table has that many facts and rounds, the query fits by hand or does not, and lines and last fact are as
-- shown.
pub record RowTrue (row : Row) : Type 0 where
  pub input : Input
  pub is_read : ladder row.book row.snapshot row.question ≡ accepted input
  pub table : List ℕ
  pub completed : CompletedInput input row.rounds table
  pub facts_counted : length table ≡ row.facts
  pub verdict : Verdict row.fits (FitsInput input)
  pub lines_shown : LinesShown row.fits row.lines input
  pub last_shown : LastShown row.last table

-- Book S: P(a) where some b other than a has Q(a, b); Q(a, b) for all a and b, of no record.
abbrev pub book_s : List ℕ
book_s =
    2 ∷ 1 ∷ 2 ∷ 0 ∷ 2
    ∷ 0 ∷ 1 ∷ 1 ∷ 1 ∷ 1 ∷ 0 ∷ 0 ∷ 1 ∷ 1 ∷ 0 ∷ 1
    ∷ 1 ∷ 0 ∷ 0 ∷ 0 ∷ 0 ∷ []

-- A record with one field.
abbrev node : ℕ → ℕ → List ℕ
node address field = four address ++ (1 ∷ four field)

abbrev pub rows : List Row
rows =
    record { book = book_l; snapshot = 0 ∷ []; question = asks 0 5 5; fits = true; facts = 5; rounds = 1; lines = 1; last = [] }
    ∷ record { book = book_l; snapshot = 0 ∷ []; question = asks 0 5 6; fits = false; facts = 6; rounds = 1; lines = 0; last = [] }
    ∷ record { book = book_l; snapshot = 1 ∷ node 10 20; question = asks 0 10 20; fits = true; facts = 7; rounds = 2; lines = 2; last = 42205185 ∷ [] }
    ∷ record { book = book_l; snapshot = 1 ∷ node 10 20; question = asks 0 10 10; fits = false; facts = 7; rounds = 2; lines = 0; last = [] }
    ∷ record { book = book_l; snapshot = 1 ∷ node 10 10; question = asks 0 10 10; fits = true; facts = 6; rounds = 2; lines = 2; last = [] }
    ∷ record { book = book_l; snapshot = 2 ∷ (node 10 20 ++ node 20 10); question = asks 0 10 10; fits = true; facts = 10; rounds = 3; lines = 3; last = [] }
    ∷ record { book = book_s; snapshot = 0 ∷ []; question = 0 ∷ 1 ∷ four 0; fits = true; facts = 12; rounds = 2; lines = 2; last = [] }
    ∷ record { book = house; snapshot = 1 ∷ node 10 0; question = asks 2 10 0; fits = true; facts = 9; rounds = 3; lines = 3; last = [] }
    ∷ record { book = house; snapshot = 1 ∷ node 10 0; question = asks 2 10 10; fits = false; facts = 9; rounds = 3; lines = 0; last = [] }
    ∷ []

-- Two rows of our own. Book C has the constants 1 and 9: P(a) if there is a record at a that holds the second. The first, which no rule
-- names, is kept too, and the spare is another number: the kept values are 0, 1, 2, 9, 10, and 10 has position 4.
abbrev pub book_c : List ℕ
book_c =
    1 ∷ 1 ∷ 2 ∷ (four 1 ++ (four 9
    ++ (1 ∷ 0 ∷ 0 ∷ 0 ∷ 1 ∷ 0 ∷ 1 ∷ 129 ∷ 0 ∷ [])))

abbrev pub constant_rows : List Row
constant_rows =
    record { book = book_c; snapshot = 1 ∷ node 10 9; question = 0 ∷ 1 ∷ four 10; fits = true; facts = 1; rounds = 1; lines = 1; last = 262145 ∷ [] }
    ∷ record { book = book_c; snapshot = 1 ∷ node 10 1; question = 0 ∷ 1 ∷ four 10; fits = false; facts = 0; rounds = 0; lines = 0; last = [] }
    ∷ []

-- And four about the end mark. The segment from 10 to nil, written as the mark in field and question: the kept values are 0, 1, 2, 3, 10, and
-- the last fact is that of the record. Book N has the mark for a constant: P(a), for any a, if the constant is nil. Kept are 0 and a spare.
-- FFFFFFFE is a number like others, as a field and as an address: kept are 0, 1, 2, 3, 10 and this one, with position 5.
abbrev pub book_n : List ℕ
book_n = 1 ∷ 1 ∷ 1 ∷ (as_mark ++ (1 ∷ 0 ∷ 0 ∷ 1 ∷ 0 ∷ 128 ∷ 255 ∷ 0 ∷ 0 ∷ []))

abbrev pub below_mark : List ℕ
below_mark = 254 ∷ 255 ∷ 255 ∷ 255 ∷ []

abbrev pub mark_rows : List Row
mark_rows =
    record { book = book_l; snapshot = 1 ∷ (four 10 ++ (1 ∷ as_mark)); question = 0 ∷ 2 ∷ (four 10 ++ as_mark); fits = true; facts = 6; rounds = 2; lines = 2; last = 262145 ∷ [] }
    ∷ record { book = book_n; snapshot = 0 ∷ []; question = 0 ∷ 1 ∷ four 0; fits = true; facts = 2; rounds = 1; lines = 1; last = 65536 ∷ [] }
    ∷ record { book = book_l; snapshot = 1 ∷ (four 10 ++ (1 ∷ below_mark)); question = 0 ∷ 2 ∷ (four 10 ++ below_mark); fits = true; facts = 7; rounds = 2; lines = 2; last = 42205185 ∷ [] }
    ∷ record { book = book_l; snapshot = 1 ∷ (below_mark ++ (1 ∷ four 10)); question = 0 ∷ 2 ∷ (below_mark ++ four 10); fits = true; facts = 7; rounds = 2; lines = 2; last = 33882113 ∷ [] }
    ∷ []
