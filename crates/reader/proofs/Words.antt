-- Numbers of four bytes.
use mathlib.Core.{Path.◌≡◌, Path.refl, Path.sym, Path.ap, List.List, List.[], List.◌∷◌}
use Prim.Native.Nat.{ℕ, ◌+◌, ◌<◌, ◌≤◌}
use native.Mathlib.Omega.{arith}
use lib.{ListN.length, ListN.take, ListN.drop, Seq.drop-drop}
use Rattle.std.specs.{Prelude.Ok, Prelude.Err, Int.w32, Int.from_le_bytes}
use Rattle.semantics.specs.Numbered.{number_of}
use Rattle.semantics.specs.declared.Refusal.{Refusal}
use Rattle.semantics.specs.{Lists.digits, Reader.got, Reader.times, Reader.word, Formats.value}
use Rattle.reader.specs.{Outcome.Yields, Layout.value_layout, Layout.Any}
use Rattle.reader.proofs.{Section.Local, Section.single_local}

digits_of : (x y z w : ℕ) → digits 256 (x ∷ y ∷ z ∷ w ∷ []) ≡ from_le_bytes w32 (x ∷ y ∷ z ∷ w ∷ [])
unfolding digits
digits_of x y z w = omega arith

pub word_short : (short : Refusal) (s : List ℕ) {s' : List ℕ} → length s < 4 → Yields (word (number_of short)) s s' (Err short)
unfolding word times
word_short short [] l = record { is = refl }
word_short short (x ∷ []) l = record { is = refl }
word_short short (x ∷ y ∷ []) l = record { is = refl }
word_short short (x ∷ y ∷ z ∷ []) l = record { is = refl }
word_short short (x ∷ y ∷ z ∷ w ∷ s) l = absurd (omega arith)

word_taken : (short : ℕ) (s : List ℕ) → 4 ≤ length s → word short s ≡ got (from_le_bytes w32 (take 4 s)) (drop 4 s)
unfolding word times
word_taken short [] l = absurd (omega arith)
word_taken short (x ∷ []) l = absurd (omega arith)
word_taken short (x ∷ y ∷ []) l = absurd (omega arith)
word_taken short (x ∷ y ∷ z ∷ []) l = absurd (omega arith)
word_taken short (x ∷ y ∷ z ∷ w ∷ s) l = ap (λ (v : ℕ). got v s) (digits_of x y z w)

pub word_read : (short : ℕ) (s : List ℕ) {taken left : List ℕ} {v : ℕ} → taken ≡ take 4 s → left ≡ drop 4 s → 4 ≤ length s → v ≡ from_le_bytes w32 taken
    → Yields (word short) s left (Ok v)
word_read short s t l n e = record { is = rw (e, t, l) (word_taken short s n) }

-- the same from a place of the bytes on
pub word_behind : (short : ℕ) (bytes : List ℕ) (at : ℕ) {taken : List ℕ} {v : ℕ} → taken ≡ take 4 (drop at bytes) → 4 ≤ length (drop at bytes)
    → v ≡ from_le_bytes w32 taken → Yields (word short) (drop at bytes) (drop (at + 4) bytes) (Ok v)
word_behind short bytes at t n e = word_read short (drop at bytes) t (sym (drop-drop 4 at bytes)) n e

pub value_local : (short : ℕ) → Local (value_layout short)
value_local short = single_local (value short) (λ v. v) Any
