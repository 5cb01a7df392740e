-- What `split` says, in the words of the definitions: the bytes of the three sections, which book they stand for, and so what the engine
-- was asked.
use mathlib.Core.{Path.◌≡◌, Path.ap, Path.refl, Path.sym, Path.◌∙◌, List.List, List.[], List.◌∷◌}
use Prim.Native.Nat.{ℕ, ◌<◌}
use native.Mathlib.Omega.{arith}
use lib.ListN.{length}
use Rattle.semantics.specs.Contract.{house, book_or, book_section, snapshot_section, question_section, Decided}
use Rattle.semantics.specs.declared.Reply.{Reply}
use Rattle.sections.specs.Sections.{Splits}

module _ (input : List ℕ) {book snapshot question rest : List ℕ} (s : Splits input book snapshot question rest) where
  pub snapshot_bytes : snapshot ≡ snapshot_section input
  snapshot_bytes = s.is_snapshot.is_first

  pub question_bytes : question ≡ question_section input
  question_bytes = s.is_question.is_first

  -- an empty section stands for the house book
  pub book_house : book ≡ [] → book_section input ≡ house
  book_house e = ap book_or (sym s.is_book.is_first ∙ e)

  -- any other for itself
  pub book_own : 0 < length book → book ≡ book_section input
  book_own l = own book l ∙ ap book_or s.is_book.is_first
    where
      own : (bytes : List ℕ) → 0 < length bytes → bytes ≡ book_or bytes
      own [] h = absurd (omega arith)
      own (b ∷ bytes) h = refl

-- about equal books the engine says the same
pub decided_book : (input book book' : List ℕ) {table space table' space' : List ℕ} {r : Reply} → book ≡ book'
    → Decided book (snapshot_section input) (question_section input) table space r table' space'
    → Decided book' (snapshot_section input) (question_section input) table space r table' space'
decided_book input book book' e d = rw e at d
