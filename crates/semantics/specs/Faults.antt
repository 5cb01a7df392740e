-- Examples, no part of what must be believed: bytes that each number of the ladder is given for.
use Rattle.std.specs.Prelude.{List, [], ◌∷◌, ◌++◌, ℕ, take}
use Rattle.semantics.specs.Marks.{as_mark}

-- Book L: the list segment, which is the first two rules of H.
abbrev pub book_l : List ℕ
book_l =
    1 ∷ 2 ∷ 0 ∷ 2
    ∷ 0 ∷ 0 ∷ 1 ∷ 0 ∷ 0 ∷ 1 ∷ 0 ∷ 0
    ∷ 0 ∷ 1 ∷ 0 ∷ 1 ∷ 0 ∷ 1 ∷ 2 ∷ 1 ∷ 0 ∷ 2 ∷ 1 ∷ []

-- A value below 256 in four bytes; a query with two values.
abbrev pub four : ℕ → List ℕ
four v = v ∷ 0 ∷ 0 ∷ 0 ∷ []

abbrev pub asks : ℕ → ℕ → ℕ → List ℕ
asks predicate a b = predicate ∷ 2 ∷ (four a ++ four b)

-- Faults: bytes whose reading stops with this refusal. The refused halves of rows 11 to 13 are among them, and one fault at least of each
-- number.
pub record Fault : Type 0 where
  pub book : List ℕ
  pub snapshot : List ℕ
  pub question : List ℕ
  pub refusal : ℕ

abbrev in_book : List ℕ → ℕ → Fault
in_book bytes n = record { book = bytes; snapshot = []; question = []; refusal = n }

abbrev in_snapshot : List ℕ → ℕ → Fault
in_snapshot bytes n = record { book = book_l; snapshot = bytes; question = []; refusal = n }

abbrev in_question : List ℕ → ℕ → Fault
in_question bytes n = record { book = book_l; snapshot = 0 ∷ []; question = bytes; refusal = n }

abbrev pub faults : List Fault
faults =
    in_book [] 1
    ∷ in_book (take 22 book_l) 1
    ∷ in_book (1 ∷ 2 ∷ []) 1
    ∷ in_book (1 ∷ 2 ∷ 2 ∷ (four 7 ++ (7 ∷ 0 ∷ 0 ∷ []))) 1
    ∷ in_book (0 ∷ 0 ∷ []) 2
    ∷ in_book (1 ∷ 2 ∷ 9 ∷ []) 2
    ∷ in_book (1 ∷ 2 ∷ 0 ∷ 1 ∷ 0 ∷ 7 ∷ 0 ∷ 0 ∷ 0 ∷ []) 2
    ∷ in_book (1 ∷ 2 ∷ 0 ∷ 1 ∷ 1 ∷ []) 3
    ∷ in_book (1 ∷ 1 ∷ 0 ∷ 1 ∷ 0 ∷ 0 ∷ 1 ∷ 2 ∷ []) 3
    ∷ in_book (1 ∷ 1 ∷ 0 ∷ 1 ∷ 0 ∷ 0 ∷ 1 ∷ 0 ∷ 128 ∷ []) 3
    ∷ in_book (1 ∷ 1 ∷ 1 ∷ (four 7 ++ (1 ∷ 0 ∷ 0 ∷ 1 ∷ 0 ∷ 128 ∷ 129 ∷ []))) 3
    ∷ in_book (1 ∷ 1 ∷ 1 ∷ (four 7 ++ (1 ∷ 0 ∷ 0 ∷ 1 ∷ 0 ∷ 1 ∷ []))) 3
    ∷ in_book (1 ∷ 1 ∷ 0 ∷ 1 ∷ 0 ∷ 0 ∷ 0 ∷ 1 ∷ 255 ∷ 0 ∷ 0 ∷ []) 3
    ∷ in_book (1 ∷ 1 ∷ 1 ∷ (four 7 ++ (1 ∷ 0 ∷ 0 ∷ 0 ∷ 1 ∷ 128 ∷ 0 ∷ 0 ∷ []))) 3
    ∷ in_book (book_l ++ (0 ∷ [])) 4
    ∷ in_snapshot (1 ∷ 10 ∷ 0 ∷ 0 ∷ []) 5
    ∷ in_snapshot (17 ∷ []) 6
    ∷ in_snapshot (1 ∷ 10 ∷ 0 ∷ 0 ∷ 0 ∷ 5 ∷ []) 6
    ∷ in_snapshot (1 ∷ four 0) 7
    ∷ in_snapshot (2 ∷ (four 10 ++ (0 ∷ four 10))) 7
    ∷ in_snapshot (1 ∷ as_mark) 7
    ∷ in_snapshot (1 ∷ (as_mark ++ (5 ∷ []))) 7
    ∷ in_snapshot (2 ∷ (four 10 ++ (1 ∷ (as_mark ++ (as_mark ++ (0 ∷ [])))))) 7
    ∷ in_snapshot (0 ∷ 0 ∷ []) 8
    ∷ in_question (1 ∷ []) 9
    ∷ in_question (0 ∷ 1 ∷ four 10) 9
    ∷ in_question (0 ∷ 2 ∷ (four 10 ++ (10 ∷ []))) 9
    ∷ in_question (asks 0 10 20 ++ (0 ∷ [])) 9
    ∷ []
