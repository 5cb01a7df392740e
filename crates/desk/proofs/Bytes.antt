-- The words that are read from bytes, eight at a time, have those bytes.
use mathlib.Core.List.Memᴰ
use mathlib.Core.{Logic.⊎_elim, Path.◌≡◌, Path.refl, Path.sym, Path.ap, Path.ap₂, Path.◌∙◌, List.List, List.[], List.◌∷◌, List.◌++◌, List.append_assoc}
use Prim.Native.Nat.{ℕ, zero, suc, ◌+◌, ◌*◌, ◌/◌, ◌%◌, ◌^◌, ◌≤◌, ◌<◌}
use native.Mathlib.{Omega.arith, Decide.dec_lt, Nat.pow-suc, Nat.div-div-eq-div-mul}
use lib.ListN.{length, get_or, take, drop, length-take, length-drop}
use lib.Seq.{get_or-drop}
use Rattle.std.specs.Int.{w64, from_le_bytes, bytes_low_first}
use Rattle.std.specs.Simd.{first_chunks}
use Rattle.std.proofs.lemmas.{Nat.le_bytes_8, List.take-append-drop, List.get_or-take, List.get_or_past}
use Rattle.semantics.specs.{Lists.digits_of, Contract.bytes_of}
use Rattle.desk.specs.Words.{Loads}

abbrev AllBytes : List ℕ → Type 0
AllBytes bytes = (i : ℕ) → get_or bytes i 0 < 256

pub bytes_of-append : (xs ys : List ℕ) → bytes_of (xs ++ ys) ≡ bytes_of xs ++ bytes_of ys
bytes_of-append [] ys = refl
bytes_of-append (x ∷ xs) ys = ap (λ (l : List ℕ). digits_of 256 8 x ++ l) (bytes_of-append xs ys) ∙ sym (append_assoc (digits_of 256 8 x) (bytes_of xs) (bytes_of ys))

low_first : (k i w : ℕ) → digits_of 256 k (w / 256 ^ suc i) ≡ bytes_low_first (suc i) k w
unfolding digits_of
low_first zero i w = refl
low_first (suc k) i w =
    let e : w / 256 ^ suc i / 256 ≡ w / 256 ^ suc (suc i) = div-div-eq-div-mul w (256 ^ suc i) 256 ∙ ap (λ (p : ℕ). w / p) (sym (pow-suc 256 (suc i))) in
    ap (λ (l : List ℕ). w / 256 ^ suc i % 256 ∷ l) (ap (digits_of 256 k) e ∙ low_first k (suc i) w)

eight : (bytes : List ℕ) {w : ℕ} → length bytes ≡ 8 → AllBytes bytes → w ≡ from_le_bytes w64 bytes → digits_of 256 8 w ≡ bytes
unfolding digits_of
eight bytes {w} long all e = ap (λ (l : List ℕ). w % 256 ∷ l) (low_first 7 0 w) ∙ le_bytes_8 bytes w long all e

front_bytes : (bytes : List ℕ) → AllBytes bytes → AllBytes (take 8 bytes)
front_bytes bytes all i = by (dec_lt i 8)
  where
    by : Dec (i < 8) → get_or (take 8 bytes) i 0 < 256
    by (yes l) = rw (get_or-take 8 bytes i 0 l) (all i)
    by (no n) = rw (get_or_past (take 8 bytes) i 0 (omega (arith, length-take 8 bytes))) (omega arith)

pub loads : (n : ℕ) (bytes words : List ℕ) → length bytes ≡ 8 * n → n ≤ length words → AllBytes bytes
    → ((k : ℕ) → k < n → get_or words k 0 ≡ from_le_bytes w64 (get_or (first_chunks 8 n bytes) k [])) → Loads bytes (take n words)
loads zero [] words long room all at = record { are_bytes = refl; small = λ v m. absurd (Memᴰ.not-nil m) }
loads zero (b ∷ bytes) words long room all at = absurd (omega arith)
loads (suc n) bytes [] long room all at = absurd (omega arith)
loads (suc n) bytes (w ∷ words) long room all at =
    let front = front_bytes bytes all in
    let first = at 0 (omega arith) in
    let others =
    loads n (drop 8 bytes) words (omega (arith, length-drop 8 bytes)) (omega arith) (λ i. rw get_or-drop (all (8 + i))) (λ k h. at (suc k) (omega arith)) in
    record {
      are_bytes =
          ap₂ (λ (xs ys : List ℕ). xs ++ ys) (eight (take 8 bytes) (omega (arith, length-take 8 bytes)) front first) others.are_bytes ∙ take-append-drop 8 bytes;
      small = λ v m. ⊎_elim (λ e. omega (arith, e, first, front 0, front 1, front 2, front 3, front 4, front 5, front 6, front 7)) (others.small v) (Memᴰ.cases_cons m);
    }
