-- Pure conditions, points-to atoms and calls: their parts, read one after the other into one place of the block, make the whole.
use mathlib.Core.{Path.◌≡◌, Path.sym, Path.ap, Path.◌∙◌, Logic.inl, List.List, List.map}
use Prim.Native.Nat.{ℕ, ◌+◌, ◌*◌, ◌≤◌, ◌<◌}
use native.Mathlib.Omega.{arith}
use lib.ListN.{get_or}
use Rattle.std.specs.Prelude.{Result, Ok, Err}
use Rattle.semantics.specs.{Reader.times, Formats.term}
use Rattle.semantics.specs.declared.Refusal.{Refusal}
use Rattle.words.proofs.Tabulate.{tabulate-map}
use Rattle.words.specs.Entries.{tabulate, entries}
use Rattle.block.specs.Layout.{term_as, fixed_in, constants_in, first_rule}
use Rattle.reader.specs.Layout.{Fills, many}
use Rattle.book.specs.BookLayout.{count_layout, name_layout, term_layout, pure_layout, atom_layout, Header, arities_in, call_layout}
use Rattle.book.proofs.{Heading.arities_length, Heading.name_small, Heading.arity_few, Heading.arity_read, Naming.kind_read}
use Rattle.reader.proofs.{Chain.chain, Chain.stop, Chain.close, Chain.turn, Counting.counted_read, Counting.counted_stop, Keep.kept_none, Keep.kept_both, Keep.stops, Keep.on_ok, Section.ones}

module _ (given : List ℕ) (n at : ℕ) {s s₁ s₂ b b₁ b₂ : List ℕ} {x : ℕ} (name : Fills (name_layout 2) at s s₁ b b₁ (Ok x)) where
  pub no_left : {e : Refusal} → Fills {B = Unit {0}} (term_layout given n) (at + 1) s₁ s₂ b₁ b₂ (Err e) → Fills {B = Unit {0}} (pure_layout given n) at s s₂ b b₂ (Err e)
  no_left left =
      stops (pure_layout given n) (chain _ (kind_read _ (Ok x) name.reads) (stop _ left.reads)) (kept_both at (at + 3) name.kept left.kept (omega arith))

  pub pure_fills : {s₃ b₃ : List ℕ} (r : Result (Unit {0}) Refusal) → Fills (term_layout given n) (at + 1) s₁ s₂ b₁ b₂ (Ok (tt {0}))
      → Fills (term_layout given n) (at + 2) s₂ s₃ b₂ b₃ r → Fills (pure_layout given n) at s s₃ b b₃ r
  pure_fills {b₃ = b₃} r left right =
      let k : get_or b₃ at 0 ≡ get_or b₁ at 0 = right.kept.same at (inl (omega arith)) ∙ left.kept.same at (inl (omega arith)) in
      let l : get_or b₃ (at + 1) 0 ≡ get_or b₂ (at + 1) 0 = right.kept.same (at + 1) (inl (omega arith)) in
      record {
        reads = rw (k, l) (chain _ (kind_read _ (Ok x) name.reads) (chain _ left.reads (close _ r _ right.reads)));
        sized = on_ok r tt;
        kept = kept_both at (at + 3) (kept_both at (at + 3) name.kept left.kept (omega arith)) right.kept (omega arith);
      }

-- terms side by side, as the blocks have them
terms_held : (given b : List ℕ) (from m : ℕ) → tabulate m (λ (k : ℕ). term_as (fixed_in given) (get_or b (from + 1 * k) 0)) ≡ map (term_as (fixed_in given)) (entries b from m)
terms_held given b from m =
    sym (tabulate-map (term_as (fixed_in given)) m (λ (k : ℕ). get_or b (from + 1 * k) 0)) ∙ ap (λ (xs : List ℕ). map (term_as (fixed_in given)) xs) (ones b from m)

module _ (given : List ℕ) (n at : ℕ) {s s₁ s₂ b b₁ b₂ : List ℕ} {x : ℕ} (name : Fills (name_layout n) at s s₁ b b₁ (Ok x)) where
  pub no_size : {e : Refusal} → Fills {B = ℕ} (count_layout 0 4) (at + 1) s₁ s₂ b₁ b₂ (Err e) → Fills {B = Unit {0}} (atom_layout given n) at s s₂ b b₂ (Err e)
  no_size count =
      stops (atom_layout given n) (chain _ name.reads (stop _ (counted_stop 1 2 4 (term (constants_in given) n) count.reads)))
      (kept_both at (at + 6) name.kept count.kept (omega arith))

  pub atom_fills : {s₃ b₃ : List ℕ} {m : ℕ} (r : Result (Unit {0}) Refusal) → Fills (count_layout 0 4) (at + 1) s₁ s₂ b₁ b₂ (Ok m)
      → Fills (many (get_or b₂ (at + 1) 0) (term_layout given n)) (at + 2) s₂ s₃ b₂ b₃ r → Fills (atom_layout given n) at s s₃ b b₃ r
  atom_fills {b₃ = b₃} r count fields =
      let a : get_or b₃ at 0 ≡ get_or b₁ at 0 = fields.kept.same at (inl (omega arith)) ∙ count.kept.same at (inl (omega arith)) in
      let m : get_or b₃ (at + 1) 0 ≡ get_or b₂ (at + 1) 0 = fields.kept.same (at + 1) (inl (omega arith)) in
      record {
        reads =
            rw (a, m, ← terms_held given b₃ (at + 2) (get_or b₂ (at + 1) 0))
            (chain _ name.reads (close _ r _ (counted_read 1 2 4 (term (constants_in given) n) count.reads fields.reads)));
        sized = on_ok r (rw m count.sized.high);
        kept = kept_both at (at + 6) (kept_both at (at + 6) name.kept count.kept (omega arith)) fields.kept (omega (arith, count.sized.high));
      }

pub no_name : (given : List ℕ) (n at : ℕ) {s s' b b' : List ℕ} {e : Refusal} → Fills {B = ℕ} (name_layout (get_or b 0 0)) at s s' b b' (Err e)
    → Fills {B = Unit {0}} (call_layout (arities_in b) given n) at s s' b b' (Err e)
no_name given n at {b = b} name =
    stops (call_layout (arities_in b) given n) (rw (arities_length b) (stop _ name.reads)) (kept_both at (at + 5) name.kept (kept_none at at _) (omega arith))

pub call_fills : (given : List ℕ) (n at : ℕ) {s s₁ s₂ b b₁ b₂ : List ℕ} {x : ℕ} (r : Result (Unit {0}) Refusal) → Header b → first_rule ≤ at
    → Fills (name_layout (get_or b 0 0)) at s s₁ b b₁ (Ok x) → Fills (many (get_or b₁ (8 + get_or b₁ at 0) 0) (term_layout given n)) (at + 1) s₁ s₂ b₁ b₂ r
    → Fills (call_layout (arities_in b) given n) at s s₂ b b₂ r
call_fills given n at {b = b} {b₁} {b₂} r header low name arguments =
    let p : get_or b₁ at 0 < get_or b 0 0 = name_small at header low name in
    let e : get_or b₂ at 0 ≡ get_or b₁ at 0 = arguments.kept.same at (inl (omega arith)) in
    let m : get_or b₂ (8 + get_or b₁ at 0) 0 ≡ get_or b₁ (8 + get_or b₁ at 0) 0 = arguments.kept.same (8 + get_or b₁ at 0) (inl (omega (arith, header.few))) in
    let few : get_or b₁ (8 + get_or b₁ at 0) 0 ≤ 4 = arity_few at header low name in
    let terms = turn (ap (λ (m : ℕ). times m (term (constants_in given) n)) (sym (arity_read at header low name))) arguments.reads in
    record {
      reads = rw (e, m, ← terms_held given b₂ (at + 1) (get_or b₁ (8 + get_or b₁ at 0) 0), arities_length b) (chain _ name.reads (close _ r _ terms));
      sized = on_ok r (record { name = rw e (omega (arith, header.few)); few = rw (e, m) few });
      kept = kept_both at (at + 5) name.kept arguments.kept (omega arith);
    }
