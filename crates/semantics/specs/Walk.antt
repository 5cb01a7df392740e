-- The quick walk (paper 02, orders 2 and 6): it tests whether the rule set is plain, and answers for those that are.
use mathlib.Core.{List.List, Path.◌≡◌}
use Rattle.std.specs.Prelude.{ℕ}
use Rattle.semantics.specs.{Reader.Result, Refusals.book_not_plain, Formats.Input, Formats.ladder, Served.Served, Contract.FitsInput, Plain.Plain}
use Rattle.semantics.specs.declared.WalkReply.{WalkReply}

-- What a refused call replies.
abbrev pub refusal_walk_reply : ℕ → WalkReply
refusal_walk_reply n = record { refusal = n; verdict = 0 }

-- Its answer to what was read. It decides both the refusal and the verdict: nothing is the program's choice.
pub data Walks (i : Input) (reply : WalkReply) : Type 0 where
  not_plain : ¬ Plain i.rule_set → reply ≡ refusal_walk_reply book_not_plain → Walks i reply
  fits : Plain i.rule_set → FitsInput i → reply ≡ record { refusal = 0; verdict = 1 } → Walks i reply
  fits_not : Plain i.rule_set → ¬ FitsInput i → reply ≡ record { refusal = 0; verdict = 0 } → Walks i reply

-- The contract of `walk`, which is lent nothing.
abbrev pub Walked : (book snapshot question : List ℕ) (reply : WalkReply) → Type 0
Walked book snapshot question reply =
    Served (λ (r : Result Input). ladder book snapshot question ≡ r) (Unit {0}) (λ (n : ℕ). reply ≡ refusal_walk_reply n) (λ (i : Input). Walks i reply)
