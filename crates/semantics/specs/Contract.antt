-- What the public calls promise: the reply, and all lent memory afterwards, on every way out.
use mathlib.Core.{List.List, List.[], List.◌∷◌, List.◌++◌, Path.◌≡◌}
use Rattle.std.specs.Prelude.{ℕ, ◌+◌, ◌-◌, ◌*◌, ◌≤◌, ◌<◌, length, get_or, take, drop}
use Rattle.semantics.specs.{Lists.◌among◌, Lists.digits_of, Lists.zeros, RuleSet.RuleSet, Heap.Heap, Heap.whole_of, Reader.Result, Refusals.too_many_facts}
use Rattle.semantics.specs.{Served.Served, Formats.Input, Formats.ladder, Tree.Fits, Tree.ByHand, Domain.domain}
use Rattle.semantics.specs.{Rounds.After, Rounds.Complete, Rounds.Holds, Rounds.MoreThan, Certificate.Certificate, Certificate.Trimmed}
use Rattle.semantics.specs.declared.{Reply.Reply, PartReply.PartReply, CheckReply.CheckReply}

-- ---- the definitions, for what was read

abbrev pub domain_of : Input → List ℕ
domain_of i = domain i.rule_set i.heap i.values

-- The facts of the least fixed point over the domain.
abbrev pub HoldsInput : Input → ℕ → Type 0
HoldsInput i = Holds i.rule_set i.heap (domain_of i)

-- The verdict fits: some finished tree for the query has all records of the heap.
abbrev pub FitsInput : Input → Type 0
FitsInput i = Fits i.rule_set i.heap i.predicate i.values

-- The query fits a part of the heap: some finished tree for it has exactly the records of the part. A part is a number of 16 bits, as in
-- a fact; and some part fits.
abbrev pub FitsPart : Input → ℕ → Type 0
FitsPart i = ByHand i.rule_set i.heap i.predicate i.values

abbrev pub SomeFits : Input → Type 0
SomeFits i = (part : ℕ) × FitsPart i part

-- The words are a certificate of the query for a part, of any kind and of the engine's kind; and for the whole heap.
abbrev pub CertificatePart : Input → ℕ → List ℕ → Type 0
CertificatePart i = Certificate i.rule_set i.heap (domain_of i) i.predicate i.values

abbrev pub TrimmedPart : Input → ℕ → List ℕ → Type 0
TrimmedPart i = Trimmed i.rule_set i.heap (domain_of i) i.predicate i.values

abbrev pub CertificateInput : Input → List ℕ → Type 0
CertificateInput i = CertificatePart i (whole_of i.heap)

-- ---- refusals 10 and 11

-- Memory as it must be lent: a table that is not empty and no longer than 65,535 words, and an unfolding space three times as long.
-- Anything else is refusal 10.
pub record Lent (lines words : ℕ) : Type 0 where
  pub some : 1 ≤ lines
  pub most : lines ≤ 65535
  pub three : words ≡ 3 * lines

-- More than n facts hold: refusal 11, where the table has n lines.
abbrev pub MoreFactsThan : Input → ℕ → Type 0
MoreFactsThan i n = MoreThan n (HoldsInput i)

-- ---- the table

-- Memory of n words that starts with xs and is 0 from there on.
abbrev pub padded : ℕ → List ℕ → List ℕ
padded n xs = xs ++ zeros (n - length xs)

-- Every fact that holds, in the order of the rounds, and how many rounds gave one.
pub record Completed (rule_set : RuleSet) (heap : Heap) (domain : List ℕ) (rounds : ℕ) (facts : List ℕ) : Type 0 where
  pub after : After rule_set heap domain rounds facts
  pub complete : Complete rule_set heap domain facts

-- A table of n lines that holds them.
pub record Filled (rule_set : RuleSet) (heap : Heap) (domain : List ℕ) (n rounds : ℕ) (facts table : List ℕ) : Type 0 where
  pub completed : Completed rule_set heap domain rounds facts
  pub room : length facts ≤ n
  pub is_table : table ≡ padded n facts

abbrev pub CompletedInput : Input → ℕ → List ℕ → Type 0
CompletedInput i = Completed i.rule_set i.heap (domain_of i)

abbrev pub FilledInput : Input → ℕ → ℕ → List ℕ → List ℕ → Type 0
FilledInput i = Filled i.rule_set i.heap (domain_of i)

-- ---- the engine

-- What a refused call replies: its number and nothing else.
abbrev pub refusal_reply : ℕ → Reply
refusal_reply n = record { refusal = n; verdict = 0; facts = 0; rounds = 0; lines = 0 }

-- What a refusal before the answer leaves: the reply of its number, and all lent memory as it was found.
pub record Refuses {R : Type 0} (refused : ℕ → R) (reply : R) (table space table' space' : List ℕ) (n : ℕ) : Type 0 where
  pub is_reply : reply ≡ refused n
  pub same_table : table' ≡ table
  pub same_space : space' ≡ space

-- The engine's answer to what was read, with n lines of table: the reply, the table and the unfolding space. `Yes` is what the verdict
-- decides, and `part` what the certificate shows on a yes; the certificate is the program's choice among those of the engine's kind, and
-- nothing else is.
pub data Answers (i : Input) (n : ℕ) (Yes : Type 0) (part : ℕ) (reply : Reply) (table space : List ℕ) : Type 0 where
  over : MoreFactsThan i n → reply ≡ refusal_reply too_many_facts → table ≡ zeros n → space ≡ zeros (3 * n) → Answers i n Yes part reply table space
  fits : (rounds : ℕ) (facts words : List ℕ) → FilledInput i n rounds facts table → Yes → (u : TrimmedPart i part words)
      → reply ≡ record { refusal = 0; verdict = 1; facts = length facts; rounds = rounds; lines = u.taken.count }
      → space ≡ padded (3 * n) words → Answers i n Yes part reply table space
  fits_not : (rounds : ℕ) (facts : List ℕ) → FilledInput i n rounds facts table → ¬ Yes
      → reply ≡ record { refusal = 0; verdict = 0; facts = length facts; rounds = rounds; lines = 0 }
      → space ≡ zeros (3 * n) → Answers i n Yes part reply table space

-- From bytes and lent memory to the reply and that memory afterwards.
abbrev pub EngineCall : (Input → Type 0) → (Input → ℕ) → (book snapshot question table space : List ℕ) (reply : Reply) (table' space' : List ℕ) → Type 0
EngineCall Yes part book snapshot question table space reply table' space' =
    Served (λ (r : Result Input). ladder book snapshot question ≡ r) (Lent (length table) (length space)) (Refuses refusal_reply reply table space table' space')
    (λ (i : Input). Answers i (length table) (Yes i) (part i) reply table' space')

-- The contract of `decide`: a yes says that the query fits, and the certificate shows every record.
abbrev pub Decided : (book snapshot question table space : List ℕ) (reply : Reply) (table' space' : List ℕ) → Type 0
Decided = EngineCall FitsInput (λ (i : Input). whole_of i.heap)

-- ---- the engine, asked about some part

-- What a refused call replies here.
abbrev pub refusal_part_reply : ℕ → PartReply
refusal_part_reply n = record { refusal = n; verdict = 0; part = 0; facts = 0; rounds = 0; lines = 0 }

-- The other numbers of such a reply, in the form of `decide`'s.
abbrev pub without_part : PartReply → Reply
without_part r = record { refusal = r.refusal; verdict = r.verdict; facts = r.facts; rounds = r.rounds; lines = r.lines }

-- The engine's answer, where a yes says that some part fits: the certificate shows the part of the reply, which is one that fits, of the
-- program's choice. Without a yes the part is 0.
pub record Finds (i : Input) (n : ℕ) (reply : PartReply) (table space : List ℕ) : Type 0 where
  pub answers : Answers i n (SomeFits i) reply.part (without_part reply) table space
  pub fits : reply.verdict ≡ 1 → FitsPart i reply.part
  pub none : reply.verdict ≡ 0 → reply.part ≡ 0

-- The contract of `find`.
abbrev pub Found : (book snapshot question table space : List ℕ) (reply : PartReply) (table' space' : List ℕ) → Type 0
Found book snapshot question table space reply table' space' =
    Served (λ (r : Result Input). ladder book snapshot question ≡ r) (Lent (length table) (length space)) (Refuses refusal_part_reply reply table space table' space')
    (λ (i : Input). Finds i (length table) reply table' space')

-- ---- the check

-- The check's answer to what was read: whether the words meet the conditions for lines, the last line with exactly this part.
pub data Checks (i : Input) (part : ℕ) (words : List ℕ) (reply : CheckReply) : Type 0 where
  takes : CertificatePart i part words → reply ≡ record { refusal = 0; taken = 1 } → Checks i part words reply
  takes_not : ¬ CertificatePart i part words → reply ≡ record { refusal = 0; taken = 0 } → Checks i part words reply

-- The contracts of `check` and `check_part`, which are lent nothing to change: with every record, and with a part that is handed in.
abbrev pub CheckedFor : (book snapshot question : List ℕ) (part : Input → ℕ) (words : List ℕ) (reply : CheckReply) → Type 0
CheckedFor book snapshot question part words reply =
    Served (λ (r : Result Input). ladder book snapshot question ≡ r) (Unit {0}) (λ (n : ℕ). reply ≡ record { refusal = n; taken = 0 })
    (λ (i : Input). Checks i (part i) words reply)

abbrev pub Checked : (book snapshot question words : List ℕ) (reply : CheckReply) → Type 0
Checked book snapshot question = CheckedFor book snapshot question (λ (i : Input). whole_of i.heap)

abbrev pub CheckedPart : (book snapshot question : List ℕ) (part : ℕ) (words : List ℕ) (reply : CheckReply) → Type 0
CheckedPart book snapshot question part = CheckedFor book snapshot question (λ (i : Input). part)

-- ---- the desk's two entries

-- What an entry for C returns: the refusal doubled, and one more where the verdict is fits or the check takes.
abbrev pub desk_number : ℕ → ℕ → ℕ
desk_number refusal second = 2 * refusal + second

-- The entry for the engine: table and unfolding space are its own and are 0 before the call, with 1,024 lines of table.
pub record DeskDecided (book snapshot question : List ℕ) (number : ℕ) : Type 0 where
  pub reply : Reply
  pub table : List ℕ
  pub space : List ℕ
  pub decided : Decided book snapshot question (zeros 1024) (zeros 3072) reply table space
  pub is_number : number ≡ desk_number reply.refusal reply.verdict

-- The bytes of words: eight for each, from its low end up.
abbrev pub bytes_of : List ℕ → List ℕ
bytes_of [] = []
bytes_of (w ∷ words) = digits_of 256 8 w ++ bytes_of words

-- Bytes that this entry takes: the words of a certificate, and at most 24,576 bytes of them.
pub record DeskTakes (i : Input) (bytes : List ℕ) : Type 0 where
  pub words : List ℕ
  pub small : (w : ℕ) → w among words → w < 18446744073709551616
  pub are_bytes : bytes ≡ bytes_of words
  pub most : length bytes ≤ 24576
  pub taken : CertificateInput i words

-- Its answer: bytes that are too many or no whole words are not taken, which is no refusal.
pub data DeskChecks (i : Input) (bytes : List ℕ) (number : ℕ) : Type 0 where
  takes : DeskTakes i bytes → number ≡ desk_number 0 1 → DeskChecks i bytes number
  takes_not : ¬ DeskTakes i bytes → number ≡ desk_number 0 0 → DeskChecks i bytes number

-- The check as an entry.
abbrev pub DeskChecked : (book snapshot question bytes : List ℕ) (number : ℕ) → Type 0
DeskChecked book snapshot question bytes number =
    Served (λ (r : Result Input). ladder book snapshot question ≡ r) (Unit {0}) (λ (n : ℕ). number ≡ desk_number n 0) (λ (i : Input). DeskChecks i bytes number)

-- ---- the bench program's input

-- How an input is cut in three sections: each has its length in front, in two bytes, the second of which counts 256s. Where the input
-- ends too soon, a length byte that is not there is 0 and a section has the bytes that are left; what comes after the third is not looked
-- at.
abbrev pub section_length : List ℕ → ℕ
section_length bytes = get_or bytes 0 0 + 256 * get_or bytes 1 0

abbrev pub first_section : List ℕ → List ℕ
first_section bytes = take (section_length bytes) (drop 2 bytes)

abbrev pub other_sections : List ℕ → List ℕ
other_sections bytes = drop (section_length bytes) (drop 2 bytes)

-- The house book H.
abbrev pub house : List ℕ
house =
    3 ∷ 2 ∷ 1 ∷ 2 ∷ 0 ∷ 4
    ∷ 0 ∷ 0 ∷ 1 ∷ 0 ∷ 0 ∷ 1 ∷ 0 ∷ 0
    ∷ 0 ∷ 1 ∷ 0 ∷ 1 ∷ 0 ∷ 1 ∷ 2 ∷ 1 ∷ 0 ∷ 2 ∷ 1
    ∷ 1 ∷ 1 ∷ 0 ∷ 1 ∷ 0 ∷ 1 ∷ 1 ∷ 1 ∷ 0 ∷ 1 ∷ 0
    ∷ 2 ∷ 0 ∷ 0 ∷ 0 ∷ 2 ∷ 0 ∷ 0 ∷ 255 ∷ 0 ∷ 1 ∷ 255 ∷ []

-- Where the section of the book has no bytes, the house book is meant.
abbrev pub book_or : List ℕ → List ℕ
book_or [] = house
book_or (b ∷ bytes) = b ∷ bytes

abbrev pub book_section : List ℕ → List ℕ
book_section input = book_or (first_section input)

abbrev pub snapshot_section : List ℕ → List ℕ
snapshot_section input = first_section (other_sections input)

abbrev pub question_section : List ℕ → List ℕ
question_section input = first_section (other_sections (other_sections input))
