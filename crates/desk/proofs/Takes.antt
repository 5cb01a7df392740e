-- What the check's entry takes is what the check takes of the loaded words.
use mathlib.Core.List.Memᴰ
use mathlib.Core.{Path.◌≡◌, Path.refl, Path.sym, Path.ap, Path.ap₂, Path.◌∙◌, Logic.◌↔◌, List.List, List.[], List.◌∷◌}
use Prim.Native.Nat.{ℕ, zero, suc, ◌*◌, ◌^◌, ◌/◌, ◌<◌}
use native.Mathlib.{Omega.arith, Nat.pow-suc}
use lib.{ListN.length, ListN.take, ListN.drop, ListN.length-append, Seq.take_at, Seq.drop_at}
use Rattle.semantics.specs.{Lists.◌among◌, Lists.digits, Lists.digits_of, Formats.Input, Contract.CertificateInput, Contract.DeskTakes, Contract.bytes_of}
use Rattle.semantics.proofs.Digits.{digits_of-length}
use Rattle.desk.specs.Words.{Loaded}

-- a word is the number of its bytes
word_back : (n w : ℕ) → w < 256 ^ n → digits 256 (digits_of 256 n w) ≡ w
unfolding digits digits_of
word_back zero w h = omega arith
word_back (suc n) w h = let e = word_back n (w / 256) (omega (arith, pow-suc 256 n)) in omega (arith, e)

bytes_length : (words : List ℕ) → length (bytes_of words) ≡ 8 * length words
bytes_length [] = refl
bytes_length (w ∷ words) = omega (arith, length-append (digits_of 256 8 w) (bytes_of words), digits_of-length 256 8 w, bytes_length words)

abbrev Small : List ℕ → Type 0
Small words = (w : ℕ) → w among words → w < 18446744073709551616

-- bytes decide their words
bytes_decide : (xs ys : List ℕ) → Small xs → Small ys → bytes_of xs ≡ bytes_of ys → xs ≡ ys
bytes_decide [] [] hx hy e = refl
bytes_decide [] (y ∷ ys) hx hy e = absurd (omega (arith, ap length e, bytes_length (y ∷ ys)))
bytes_decide (x ∷ xs) [] hx hy e = absurd (omega (arith, ap length e, bytes_length (x ∷ xs)))
bytes_decide (x ∷ xs) (y ∷ ys) hx hy e =
    let first : digits_of 256 8 x ≡ digits_of 256 8 y =
    sym (take_at (digits_of 256 8 x) (bytes_of xs) 8 (digits_of-length 256 8 x)) ∙ ap (take 8) e ∙ take_at (digits_of 256 8 y) (bytes_of ys) 8 (digits_of-length 256 8 y) in
    let rest : bytes_of xs ≡ bytes_of ys =
    sym (drop_at (digits_of 256 8 x) (bytes_of xs) 8 (digits_of-length 256 8 x)) ∙ ap (drop 8) e ∙ drop_at (digits_of 256 8 y) (bytes_of ys) 8 (digits_of-length 256 8 y) in
    ap₂ (λ (w : ℕ) (ws : List ℕ). w ∷ ws)
    (sym (word_back 8 x (omega (arith, hx x (Memᴰ.head refl)))) ∙ ap (digits 256) first ∙ word_back 8 y (omega (arith, hy y (Memᴰ.head refl))))
    (bytes_decide xs ys (λ w m. hx w (Memᴰ.tail m)) (λ w m. hy w (Memᴰ.tail m)) rest)

nothing : (i : Input) → CertificateInput i [] → ⊥
nothing i t = omega (arith, t.some, t.whole)

pub desk_takes : (i : Input) {bytes words : List ℕ} → Loaded bytes words → DeskTakes i bytes ↔ CertificateInput i words
desk_takes i {bytes} {words} (Loaded.loaded h most) = (
  λ d. rw (bytes_decide words d.words h.small d.small (h.are_bytes ∙ d.are_bytes)) d.taken,
  λ t. record { words = words; small = h.small; are_bytes = sym h.are_bytes; most = most; taken = t },
)
desk_takes i {bytes} (Loaded.beyond more e) = (λ d. absurd (omega (arith, d.most)), λ t. absurd (nothing i (rw e at t)))
desk_takes i {bytes} (Loaded.broken never e) = (
  λ d. absurd (never (length d.words) (ap length d.are_bytes ∙ bytes_length d.words)),
  λ t. absurd (nothing i (rw e at t)),
)
