-- A rule: its parts, read one after the other into its place of the block, make the rule. What is written later lies apart from what was
-- written before, so every part is still there at the end.
use mathlib.Core.{Path.◌≡◌, Path.refl, Path.sym, Path.ap, Path.◌∙◌, Logic.inl, Logic.inr, Bool.Bool, Bool.true, Bool.false, List.List, List.[], List.◌∷◌}
use Prim.Native.Nat.{ℕ, ◌+◌, ◌-◌, ◌≤◌}
use native.Mathlib.{Decide.dec_le, Omega.arith}
use borrow.Author.Tests.{le-leb, lt-leb}
use lib.{Dec.leb, ListN.length, ListN.get_or}
use Rattle.std.specs.Prelude.{Result, Ok, Err, IsErrAnd}
use Rattle.semantics.specs.{RuleSet.Call, RuleSet.Rule, Reader.Reader, Reader.onward, Reader.◌>>=◌, Reader.byte, Reader.ensure, Reader.times}
use Rattle.semantics.specs.Formats.{named, pure, atom, call, body}
use Rattle.semantics.specs.declared.Refusal.{Refusal}
use Rattle.block.specs.Layout.{rule_as, fixed_in, constants_in, first_rule, rule_size}
use Rattle.reader.specs.{Outcome.Yields, Outcome.ranged_byte, Layout.Layout, Layout.KeptOutside, Layout.Fills, Layout.many}
use Rattle.book.specs.BookLayout.{count_layout, name_layout, pure_layout, atom_layout, call_layout, Header, arities_in, Body, rule_layout}
use Rattle.book.proofs.{Heading.arities_length, Heading.arities_kept, Heading.arity_few, Heading.arity_read, Locals.pure_local, Locals.atom_local}
use Rattle.reader.proofs.{Chain.chain, Chain.stop, Chain.done, Chain.become, Chain.alike, Chain.turn, Counting.counted_read, Counting.counted_stop, Keep.kept_none, Keep.kept_both, Keep.stops, Section.many_local}

-- at the exit of a `?`
pub exit_body : {at n : ℕ} {given s s' b b' : List ℕ} {e : Refusal} {r : Result (Unit {0}) Refusal} → IsErrAnd r (λ y. y ≡ e)
    → Yields (body (arities_in b) (constants_in given) (get_or b at 0) (get_or b (at + 1) 0) n) s s' (Err e) × KeptOutside (at + 2) (at + rule_size) b b'
    → Body at n given s s' b b' r
exit_body {r = Ok x} i h = absurd i
exit_body {r = Err y} i h = record { reads = rw i h.0; sized = tt; kept = h.1 }

pub no_pure_count : (given : List ℕ) (n at : ℕ) {s s' b b' : List ℕ} {e : Refusal} → Fills {B = ℕ} (count_layout 0 8) (at + 2) s s' b b' (Err e)
    → Yields (body (arities_in b) (constants_in given) (get_or b at 0) (get_or b (at + 1) 0) n) s s' (Err e) × KeptOutside (at + 2) (at + rule_size) b b'
no_pure_count given n at count = (stop _ (counted_stop 1 2 8 (pure (constants_in given) n) count.reads), kept_both _ _ count.kept (kept_none (at + 2) (at + 2) _) (omega arith))

-- what the parts up to each have read, and keep
module _ (given : List ℕ) (n at : ℕ) {s s₁ b b₁ : List ℕ} {x₁ : ℕ} (count₁ : Fills (count_layout 0 8) (at + 2) s s₁ b b₁ (Ok x₁)) where
  abbrev Reads : List ℕ → Refusal → Type 0
  Reads s' e = Yields (body (arities_in b) (constants_in given) (get_or b at 0) (get_or b (at + 1) 0) n) s s' (Err e)

  abbrev Keeps : List ℕ → Type 0
  Keeps b' = KeptOutside (at + 2) (at + rule_size) b b'

  pub no_pures : {s₂ b₂ : List ℕ} {e : Refusal} → Fills {B = Unit {0}} (many (get_or b₁ (at + 2) 0) (pure_layout given n)) (at + 8) s₁ s₂ b₁ b₂ (Err e)
      → Reads s₂ e × Keeps b₂
  no_pures pures = (stop _ (counted_read 1 2 8 (pure (constants_in given) n) count₁.reads pures.reads), kept_both _ _ count₁.kept pures.kept (omega (arith, count₁.sized.high)))

  module _ {s₂ b₂ : List ℕ} (pures : Fills (many (get_or b₁ (at + 2) 0) (pure_layout given n)) (at + 8) s₁ s₂ b₁ b₂ (Ok (tt {0}))) where
    kept₂ : Keeps b₂
    kept₂ = kept_both _ _ count₁.kept pures.kept (omega (arith, count₁.sized.high))

    pub no_atom_count : {s₃ b₃ : List ℕ} {e : Refusal} → Fills {B = ℕ} (count_layout 0 4) (at + 3) s₂ s₃ b₂ b₃ (Err e) → Reads s₃ e × Keeps b₃
    no_atom_count count = (
      chain _ (counted_read 1 2 8 (pure (constants_in given) n) count₁.reads pures.reads) (stop _ (counted_stop 1 2 4 (atom (constants_in given) n) count.reads)),
      kept_both _ _ kept₂ count.kept (omega arith),
    )

    module _ {s₃ b₃ : List ℕ} {x₂ : ℕ} (count₂ : Fills (count_layout 0 4) (at + 3) s₂ s₃ b₂ b₃ (Ok x₂)) where
      kept₃ : Keeps b₃
      kept₃ = kept_both _ _ kept₂ count₂.kept (omega arith)

      pub no_atoms : {s₄ b₄ : List ℕ} {e : Refusal} → Fills {B = Unit {0}} (many (get_or b₃ (at + 3) 0) (atom_layout given n)) (at + 32) s₃ s₄ b₃ b₄ (Err e)
          → Reads s₄ e × Keeps b₄
      no_atoms atoms = (
        chain _ (counted_read 1 2 8 (pure (constants_in given) n) count₁.reads pures.reads)
            (stop _ (counted_read 1 2 4 (atom (constants_in given) n) count₂.reads atoms.reads)),
        kept_both _ _ kept₃ atoms.kept (omega (arith, count₂.sized.high)),
      )

      module _ {s₄ b₄ : List ℕ} (atoms : Fills (many (get_or b₃ (at + 3) 0) (atom_layout given n)) (at + 32) s₃ s₄ b₃ b₄ (Ok (tt {0}))) where
        kept₄ : Keeps b₄
        kept₄ = kept_both _ _ kept₃ atoms.kept (omega (arith, count₂.sized.high))

        pub no_call_count : {s₅ b₅ : List ℕ} {e : Refusal} → Fills {B = ℕ} (count_layout 0 3) (at + 4) s₄ s₅ b₄ b₅ (Err e) → Reads s₅ e × Keeps b₅
        no_call_count count = (
          chain _ (counted_read 1 2 8 (pure (constants_in given) n) count₁.reads pures.reads)
              (chain _ (counted_read 1 2 4 (atom (constants_in given) n) count₂.reads atoms.reads)
              (stop _ (counted_stop 1 2 3 (call (arities_in b) (constants_in given) n) count.reads))),
          kept_both _ _ kept₄ count.kept (omega arith),
        )

        module _ {s₅ b₅ : List ℕ} {x₃ : ℕ} (count₃ : Fills (count_layout 0 3) (at + 4) s₄ s₅ b₄ b₅ (Ok x₃)) where
          -- up to the calls
          pub kept₅ : Keeps b₅
          kept₅ = kept_both _ _ kept₄ count₃.kept (omega arith)

          module _ (header : Header b) (low : first_rule ≤ at) where
            called : {r : Result (List Call) Refusal} {s₆ : List ℕ} → Yields (times (get_or b₅ (at + 4) 0) (call (arities_in b₅) (constants_in given) n)) s₅ s₆ r
                → Yields (times (get_or b₅ (at + 4) 0) (call (arities_in b) (constants_in given) n)) s₅ s₆ r
            called h = turn (ap (λ (arities : List ℕ). times (get_or b₅ (at + 4) 0) (call arities (constants_in given) n)) (arities_kept kept₅ (omega arith) header.few)) h

            pub no_calls : {s₆ b₆ : List ℕ} {e : Refusal} → Fills {B = Unit {0}} (many (get_or b₅ (at + 4) 0) (call_layout (arities_in b₅) given n)) (at + 56) s₅ s₆ b₅ b₆ (Err e)
                → Reads s₆ e × Keeps b₆
            no_calls calls = (
              chain _ (counted_read 1 2 8 (pure (constants_in given) n) count₁.reads pures.reads)
                  (chain _ (counted_read 1 2 4 (atom (constants_in given) n) count₂.reads atoms.reads)
                  (stop _ (counted_read 1 2 3 (call (arities_in b) (constants_in given) n) count₃.reads (called calls.reads)))),
              kept_both _ _ kept₅ calls.kept (omega (arith, count₃.sized.high)),
            )

            module _ {s₆ b₆ : List ℕ} (calls : Fills (many (get_or b₅ (at + 4) 0) (call_layout (arities_in b₅) given n)) (at + 56) s₅ s₆ b₅ b₆ (Ok (tt {0}))) where
              kept₆ : Keeps b₆
              kept₆ = kept_both _ _ kept₅ calls.kept (omega (arith, count₃.sized.high))

              -- the counts, the conditions and the atoms lie apart from what is written after them
              m₃ : get_or b₆ (at + 4) 0 ≡ get_or b₅ (at + 4) 0
              m₃ = calls.kept.same _ (inl (omega arith))

              m₂ : get_or b₆ (at + 3) 0 ≡ get_or b₃ (at + 3) 0
              m₂ = calls.kept.same _ (inl (omega arith)) ∙ count₃.kept.same _ (inl (omega arith)) ∙ atoms.kept.same _ (inl (omega arith))

              m₁ : get_or b₆ (at + 2) 0 ≡ get_or b₁ (at + 2) 0
              m₁ =
                  calls.kept.same _ (inl (omega arith)) ∙ count₃.kept.same _ (inl (omega arith)) ∙ atoms.kept.same _ (inl (omega arith))
                  ∙ count₂.kept.same _ (inl (omega arith)) ∙ pures.kept.same _ (inl (omega arith))

              abbrev Stays : {A : Type 0} → Layout A → ℕ → List ℕ → List ℕ → Type 0
              Stays layout from x y = (layout.held y from ≡ layout.held x from) × layout.Sized y from

              atoms_stay : Stays (many (get_or b₃ (at + 3) 0) (atom_layout given n)) (at + 32) b₄ b₆
              atoms_stay =
                  let few = count₂.sized.high in
                  (many_local _ (atom_layout given n) (atom_local given n)).same b₄ b₆ (at + 32) (λ i l. absurd (omega arith))
                  (λ i l₁ l₂. calls.kept.same i (inl (omega arith)) ∙ count₃.kept.same i (inr (omega arith))) atoms.sized

              pures_stay : Stays (many (get_or b₁ (at + 2) 0) (pure_layout given n)) (at + 8) b₂ b₆
              pures_stay =
                  let few = count₁.sized.high in
                  (many_local _ (pure_layout given n) (pure_local given n)).same b₂ b₆ (at + 8) (λ i l. absurd (omega arith))
                  (λ i l₁ l₂. calls.kept.same i (inl (omega arith)) ∙ count₃.kept.same i (inr (omega arith)) ∙ atoms.kept.same i (inl (omega arith))
                  ∙ count₂.kept.same i (inr (omega arith))) pures.sized

              rule_stays : ◌≡◌ {A = Rule} (record {
                head = get_or b at 0;
                bound = get_or b (at + 1) 0;
                pures = (many (get_or b₁ (at + 2) 0) (pure_layout given n)).held b₂ (at + 8);
                points_to = (many (get_or b₃ (at + 3) 0) (atom_layout given n)).held b₄ (at + 32);
                calls = (many (get_or b₅ (at + 4) 0) (call_layout (arities_in b₅) given n)).held b₆ (at + 56);
              }) (rule_as (fixed_in given) b₆ at)
              rule_stays = rw (m₁, m₂, m₃, kept₆.same at (inl (omega arith)), kept₆.same (at + 1) (inl (omega arith)), pures_stay.0, atoms_stay.0)

              body_read : Body at n given s s₆ b b₆ (Ok (tt {0}))
              body_read = record {
                reads =
                    become (ap (λ (r : Rule). Ok r) rule_stays)
                    (chain _ (counted_read 1 2 8 (pure (constants_in given) n) count₁.reads pures.reads)
                    (chain _ (counted_read 1 2 4 (atom (constants_in given) n) count₂.reads atoms.reads)
                    (chain _ (counted_read 1 2 3 (call (arities_in b) (constants_in given) n) count₃.reads (called calls.reads)) (done s₆ _))));
                sized = record {
                  pures = rw m₁ count₁.sized.high;
                  atoms = rw m₂ count₂.sized.high;
                  fields = rw m₂ atoms_stay.1;
                  calls = rw m₃ count₃.sized.high;
                  called = rw m₃ calls.sized;
                };
                kept = kept₆;
              }

            pub body_fills : {s₆ b₆ : List ℕ} (r : Result (Unit {0}) Refusal) → Fills (many (get_or b₅ (at + 4) 0) (call_layout (arities_in b₅) given n)) (at + 56) s₅ s₆ b₅ b₆ r
                → Body at n given s s₆ b b₆ r
            body_fills (Ok done) calls = body_read calls
            body_fills (Err e) calls = let (h, k) = no_calls calls in record { reads = h; sized = tt; kept = k }

-- Head and bound variables are at most 8 together: the test of the definition, and the one on the bound variables alone.
same_test : (arity b : ℕ) → arity ≤ 8 → leb (arity + b) 8 ≡ leb b (8 - arity)
same_test arity b few = go (dec_le (arity + b) 8)
  where
    go : Dec (arity + b ≤ 8) → leb (arity + b) 8 ≡ leb b (8 - arity)
    go (yes l) = le-leb (arity + b) 8 l ∙ sym (le-leb b (8 - arity) (omega arith))
    go (no l) = lt-leb (arity + b) 8 (omega arith) ∙ sym (lt-leb b (8 - arity) (omega arith))

module _ {A : Type 0} {s s' : List ℕ} {r : Result A Refusal} (arity : ℕ) (next : ℕ → ℕ → Reader A) (few : arity ≤ 8) where
  bound_then : Yields (◌>>=◌ (ranged_byte 1 2 0 (8 - arity)) (λ b. next b (arity + b))) s s' r
      → Yields (◌>>=◌ (byte 1) (λ b. ◌>>=◌ (ensure (leb (arity + b) 8) 2 (arity + b)) (next b))) s s' r
  bound_then h = alike _ same h
    where
      tested : (t : Bool) (b : ℕ) (bytes : List ℕ) → onward (ensure t 2 (arity + b) bytes) (next b) ≡ onward (ensure t 2 b bytes) (λ b. next b (arity + b))
      tested true b bytes = refl
      tested false b bytes = refl

      same : (bytes : List ℕ) → onward (byte 1 bytes) (λ b. ◌>>=◌ (ensure (leb (arity + b) 8) 2 (arity + b)) (next b))
          ≡ onward (ranged_byte 1 2 0 (8 - arity) bytes) (λ b. next b (arity + b))
      same [] = refl
      same (b ∷ bytes) = rw (le-leb 0 b (omega arith), same_test arity b few) (tested (leb b (8 - arity)) b bytes)

pub no_head : (given : List ℕ) (at : ℕ) {s s' b b' : List ℕ} {e : Refusal} → Fills {B = ℕ} (name_layout (get_or b 0 0)) at s s' b b' (Err e)
    → Fills {B = Unit {0}} (rule_layout (arities_in b) given) at s s' b b' (Err e)
no_head given at {b = b} name =
    stops (rule_layout (arities_in b) given) (rw (arities_length b) (stop _ name.reads)) (kept_both at (at + rule_size) name.kept (kept_none at at _) (omega arith))

module _ (given : List ℕ) (at : ℕ) {s s₁ b b₁ : List ℕ} {x : ℕ} (header : Header b) (low : first_rule ≤ at)
    (name : Fills (name_layout (get_or b 0 0)) at s s₁ b b₁ (Ok x)) where
  arity_is : get_or b₁ (8 + get_or b₁ at 0) 0 ≡ get_or (arities_in b) (get_or b₁ at 0) 0
  arity_is = sym (arity_read at header low name)

  few_is : get_or (arities_in b) (get_or b₁ at 0) 0 ≤ 8
  few_is = rw (← arity_is) (let few = arity_few at header low name in omega arith)

  named_read : Yields (named (length (arities_in b))) s s₁ (Ok (get_or b₁ at 0))
  named_read = turn (ap named (sym (arities_length b))) name.reads

  pub no_bound : {s₂ b₂ : List ℕ} {e : Refusal} → Fills {B = ℕ} (count_layout 0 (8 - get_or b₁ (8 + get_or b₁ at 0) 0)) (at + 1) s₁ s₂ b₁ b₂ (Err e)
      → Fills {B = Unit {0}} (rule_layout (arities_in b) given) at s s₂ b b₂ (Err e)
  no_bound bound =
      stops (rule_layout (arities_in b) given)
      (chain _ named_read
      (bound_then (get_or (arities_in b) (get_or b₁ at 0) 0) (body (arities_in b) (constants_in given) (get_or b₁ at 0)) few_is
      (stop _ (turn (ap (λ (m : ℕ). ranged_byte 1 2 0 (8 - m)) arity_is) bound.reads))))
      (kept_both at (at + rule_size) name.kept bound.kept (omega arith))

  pub rule_fills : {s₂ s₃ b₂ b₃ : List ℕ} {v : ℕ} {r : Result (Unit {0}) Refusal} → Fills (count_layout 0 (8 - get_or b₁ (8 + get_or b₁ at 0) 0)) (at + 1) s₁ s₂ b₁ b₂ (Ok v)
      → Body at (get_or b₁ (8 + get_or b₁ at 0) 0 + get_or b₂ (at + 1) 0) given s₂ s₃ b₂ b₃ r → Fills (rule_layout (arities_in b) given) at s s₃ b b₃ r
  rule_fills {b₂ = b₂} bound rest =
      let k = kept_both at (at + rule_size) name.kept bound.kept (omega arith) in
      let e : arities_in b₂ ≡ arities_in b = arities_kept k low header.few in
      let h : get_or b₂ at 0 ≡ get_or b₁ at 0 = bound.kept.same at (inl (omega arith)) in
      record {
        reads =
            chain _ named_read
            (bound_then (get_or (arities_in b) (get_or b₁ at 0) 0) (body (arities_in b) (constants_in given) (get_or b₁ at 0)) few_is
            (chain _ (turn (ap (λ (m : ℕ). ranged_byte 1 2 0 (8 - m)) arity_is) bound.reads)
            (rw (e, h, arity_is) at rest.reads)));
        sized = rest.sized;
        kept = kept_both at (at + rule_size) k rest.kept (omega arith);
      }
