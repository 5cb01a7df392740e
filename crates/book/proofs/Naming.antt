-- Bytes that name something: terms and kinds, as read and as they lie in a block.
use mathlib.Core.{Path.◌≡◌, Path.refl, Path.ap, List.List, List.[], List.◌∷◌}
use Prim.Native.Nat.{ℕ, zero, suc, ◌+◌, ◌-◌, ◌≤◌, ◌<◌}
use native.Mathlib.{Decide.dec_lt, Omega.arith}
use lib.{ListN.length, ListN.get_or}
use borrow.Author.Tests.{lt-ltb, le-ltb, ne_eqb}
use Rattle.std.specs.Prelude.{Result, Ok, Err}
use Rattle.semantics.specs.{RuleSet.fixed, Reader.got, Reader.onward, Reader.give}
use Rattle.semantics.specs.Formats.{named, term_of, kind}
use Rattle.semantics.specs.declared.Refusal.{Refusal}
use Rattle.semantics.specs.declared.Refusal.TheVariants.{BookName}
use Rattle.block.specs.Layout.{term_as, kind_in, constant_count, fixed_in, constants_in}
use Rattle.words.proofs.Tabulate.{entries-length}
use Rattle.reader.specs.Outcome.{Yields, valued}
use Rattle.reader.proofs.Chain.{close, alike}
use Rattle.book.specs.BookLayout.{Held}

-- what a byte says as a term
module _ (given : List ℕ) (n b : ℕ) (other : b ≡ 255 → ⊥) where
  known : length (constants_in given) ≡ constant_count given
  known = entries-length given 3 (constant_count given)

  pub constant_held : 128 ≤ b → b - 128 < constant_count given → Held given n b (Ok (b + 1))
  constant_held high l bytes =
      let next : suc (b - 128) ≡ b + 1 - 128 = omega arith in
      let is : get_or (constants_in given) (b - 128) 0 ≡ fixed_in given (b + 1 - 128) = ap (fixed_in given) next in
      record {
        is =
            rw (ne_eqb b 255 other, le-ltb b 128 high, lt-ltb (b - 128) (length (constants_in given)) (omega (arith, known)), le-ltb (b + 1) 128 (omega arith), term_of, term_as)
            (ap (λ (v : ℕ). got (fixed v) bytes) is);
      }

  pub nothing_held : n ≤ b → (128 ≤ b → constant_count given ≤ b - 128) → Held given n b (Err BookName)
  nothing_held l k bytes = go (dec_lt b 128)
    where
      go : Dec (b < 128) → Yields (term_of (constants_in given) n b) bytes bytes (Err BookName)
      go (yes low) = record { is = rw (ne_eqb b 255 other, lt-ltb b 128 low, le-ltb b n l, term_of) }
      go (no high) =
          record {
            is =
                rw (ne_eqb b 255 other, le-ltb b 128 (omega arith), le-ltb (b - 128) (length (constants_in given)) (omega (arith, known, k (omega arith))), term_of);
          }

-- a kind is one of two names
kind-named : (bytes : List ℕ) → kind bytes ≡ onward (named 2 bytes) (λ v. give (kind_in v))
kind-named [] = refl
kind-named (zero ∷ bytes) = refl
kind-named (suc zero ∷ bytes) = refl
kind-named (suc (suc b) ∷ bytes) = rw (le-ltb (suc (suc b)) 2 (omega arith))

pub kind_read : {s s' : List ℕ} (v : ℕ) {A : Type 0} (r : Result A Refusal) → Yields (named 2) s s' (valued r v) → Yields kind s s' (valued r (kind_in v))
kind_read v r h = alike kind kind-named (close v r kind_in h)
