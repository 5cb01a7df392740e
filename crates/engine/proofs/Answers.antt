-- What was read, for the engine: every record of it, the part that was chosen, and the reply that names no part.
use mathlib.Core.{Bool.Bool, Bool.true, Bool.false, Path.◌≡◌, Path.refl, Path.ap, Logic.◌↔◌, List.List}
use Prim.Native.Nat.{ℕ, ◌≤◌}
use lib.ListN.{length}
use mir.Val.{bool_byte}
use Rattle.words.specs.Told.{Told}
use Rattle.semantics.specs.{Formats.Input, Formats.WellFormedInput, Served.Served}
use Rattle.semantics.specs.{Heap.whole_of, Contract.CertificatePart, Contract.Checks, Contract.Decided, Contract.without_part}
use Rattle.semantics.specs.declared.PartReply.{PartReply}
use Rattle.block.specs.Layout.{input_in, heap_in}
use Rattle.std.specs.Prelude.{Option}
use Rattle.engine.specs.declared.Scope.TheVariants.{WholeHeap}
use Rattle.engine.specs.Evaluate.{part_for, chosen_part, DecidedFor}

-- What is taken for the part that was chosen, of what was read.
pub chosen_taken : (part : Option ℕ) (rules heap query words : List ℕ) {of : ℕ} → of ≡ part_for part (heap_in heap)
    → CertificatePart (input_in rules heap query) of words ↔ CertificatePart (input_in rules heap query) (chosen_part part (input_in rules heap query)) words
unfolding input_in
chosen_taken part rules heap query words e = rw e (λ t. t, λ t. t)

-- What is told of the words stands in the reply.
pub checks_told : {i : Input} {part : ℕ} {words : List ℕ} (b : Bool) {taken : ℕ} → Told b (CertificatePart i part words) → taken ≡ bool_byte b
    → Checks i part words (record { refusal = 0; taken = taken })
checks_told true t e = rw e (Checks.takes (t.so refl) refl)
checks_told false t e = rw e (Checks.takes_not (t.not_so refl) refl)

-- Every record of what was read.
pub every_part : (rules heap query : List ℕ) {part : ℕ} → part ≡ whole_of (heap_in heap) → part ≡ whole_of (input_in rules heap query).heap
unfolding input_in
every_part rules heap query e = e

pub few_records : (rules heap query : List ℕ) → WellFormedInput (input_in rules heap query) → length (heap_in heap) ≤ 16
unfolding input_in
few_records rules heap query h = h.valid.heap_formed.records_few

-- The question about the whole heap: the reply names no part.
pub whole_decided : (book snapshot question table space : List ℕ) {table' space' : List ℕ} {r : PartReply} → DecidedFor WholeHeap book snapshot question table space r table' space'
    → Decided book snapshot question table space (without_part r) table' space'
whole_decided b s q table space (Served.unread n e k) = Served.unread n e (record { is_reply = ap without_part k.is_reply; same_table = k.same_table; same_space = k.same_space })
whole_decided b s q table space (Served.unlent i e l k) = Served.unlent i e l (record { is_reply = ap without_part k.is_reply; same_table = k.same_table; same_space = k.same_space })
whole_decided b s q table space (Served.answered i e l w) = Served.answered i e l w
