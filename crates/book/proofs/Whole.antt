-- The whole rule set: the arities, the constants and the rules, each after its count.
use mathlib.Core.{Path.◌≡◌, Path.refl, Path.sym, Path.ap, Path.fun_ext, Path.◌∙◌, Logic.inl, Logic.inr, List.List, List.[], List.◌∷◌}
use Prim.Native.Nat.{ℕ, ◌*◌, ◌<◌}
use native.Mathlib.Omega.{arith}
use borrow.Author.Tests.{le-leb}
use lib.{ListN.length, ListN.get_or, ListN.set, ListN.length-set, Seq.get_or-set_same, Dec.leb}
use Rattle.std.specs.Prelude.{Result, Ok, Err, IsErrAnd}
use Rattle.semantics.specs.{Reader.Reader, Reader.onward, Reader.◌>>=◌, Reader.ensure, Reader.times, Formats.value, Formats.arguments, Formats.predicates, Formats.rule, Formats.rule_set}
use Rattle.semantics.specs.declared.Refusal.{Refusal}
use Rattle.words.specs.Entries.{entries}
use Rattle.block.specs.Layout.{rule_set_as, constant_count, constants_in, first_rule, query_size}
use Rattle.reader.specs.{Outcome.Yields, Outcome.ranged_byte, Outcome.Within, Layout.value_layout, Layout.Fills, Layout.many}
use Rattle.book.specs.BookLayout.{count_layout, rule_layout, Header, arities_in, ConstantsFill, RuleSetFills}
use Rattle.book.proofs.Heading.{arities_same, header_same, arities_kept, header_kept}
use Rattle.reader.proofs.{Chain.assoc, Chain.chain, Chain.stop, Chain.close, Chain.become, Chain.alike, Chain.turn, Counting.counted_read, Counting.counted_stop, Keep.on_ok, Section.ones}

-- a number of arguments is a count of at most 4
is_arguments : ranged_byte 1 2 0 4 ≡ arguments
is_arguments = fun_ext same
  where
    same : (bytes : List ℕ) → ranged_byte 1 2 0 4 bytes ≡ arguments bytes
    same [] = refl
    same (b ∷ bytes) = rw (le-leb 0 b (omega arith))

-- the count of predicates, and as many numbers of arguments
predicates_then : {s s' : List ℕ} {r : Result (List ℕ) Refusal} → Yields (◌>>=◌ (ranged_byte 1 2 1 8) (λ n. times n arguments)) s s' r → Yields predicates s s' r
predicates_then h = alike predicates same h
  where
    same : (bytes : List ℕ) → predicates bytes ≡ onward (ranged_byte 1 2 1 8 bytes) (λ n. times n arguments)
    same [] = refl
    same (b ∷ bytes) = assoc (ensure (leb 1 b) 2 b bytes) (λ l. ensure (leb l 8) 2 l) (λ n. times n arguments)

-- the count of constants, and as many values
pub no_constant_count : {s s' q : List ℕ} {e : Refusal} {r : Result (Unit {0}) Refusal} → IsErrAnd r (λ y. y ≡ e) → Yields (ranged_byte 1 2 0 8) s s' (Err e)
    → ConstantsFill s s' q q r
no_constant_count {r = Ok x} i h = absurd i
no_constant_count {r = Err y} i h = record { reads = rw i (counted_stop 1 2 8 (value 1) h); constants_few = tt; long = refl }

pub constants_fill : {s s₁ s₂ q q₁ q' : List ℕ} {k : ℕ} (r : Result (Unit {0}) Refusal) → length q ≡ query_size → Yields (ranged_byte 1 2 0 8) s s₁ (Ok k) → Within 0 8 k
    → q₁ ≡ set q 2 k → Fills (many k (value_layout 1)) 3 s₁ s₂ q₁ q' r → ConstantsFill s s₂ q q' r
constants_fill {q = q} {q₁} {q'} {k} r long counted within is values =
    let n : constant_count q' ≡ k = values.kept.same 2 (inl (omega arith)) ∙ ap (λ (l : List ℕ). get_or l 2 0) is ∙ get_or-set_same q 2 k 0 (omega arith) in
    record {
      reads = rw (n, ← ones q' 3 k) (counted_read 1 2 8 (value 1) counted values.reads);
      constants_few = on_ok r (omega (arith, n, within.high));
      long = values.kept.long ∙ ap (λ (l : List ℕ). length l) is ∙ simp length-set;
    }

-- at the exit of a `?`
pub exit_rules : {s s' b b' q' : List ℕ} {e : Refusal} {r : Result (Unit {0}) Refusal} → IsErrAnd r (λ y. y ≡ e) → Yields rule_set s s' (Err e)
    → length b' ≡ length b → length q' ≡ query_size → RuleSetFills s s' b b' q' r
exit_rules {r = Ok x} i h l k = absurd i
exit_rules {r = Err y} i h l k = record { reads = rw i h; header = tt; constants_few = tt; long = l; query_long = k }

module _ {s s₁ b b₁ : List ℕ} {x₁ : ℕ} (count₁ : Fills (count_layout 1 8) 0 s s₁ b b₁ (Ok x₁)) where
  arguments_read : {s₂ : List ℕ} {r : Result (List ℕ) Refusal} → Yields (times (get_or b₁ 0 0) (ranged_byte 1 2 0 4)) s₁ s₂ r → Yields predicates s s₂ r
  arguments_read h = predicates_then (chain _ count₁.reads (turn (ap (λ (read : Reader ℕ). times (get_or b₁ 0 0) read) is_arguments) h))

  module _ {s₂ b₂ : List ℕ} (arities : Fills (many (get_or b₁ 0 0) (count_layout 0 4)) 8 s₁ s₂ b₁ b₂ (Ok (tt {0}))) where
    n₂ : get_or b₂ 0 0 ≡ get_or b₁ 0 0
    n₂ = arities.kept.same 0 (inl (omega arith))

    header₂ : Header b₂
    header₂ = record {
      some = rw n₂ count₁.sized.low;
      few = rw n₂ count₁.sized.high;
      each = λ p l. let l' : p < get_or b₁ 0 0 = rw n₂ at l in let e : 1 * p ≡ p = omega arith in rw e at (arities.sized p l').high;
    }

    arities_read : Yields predicates s s₂ (Ok (arities_in b₂))
    arities_read =
        become (ap (λ (xs : List ℕ). Ok xs) (ones b₂ 8 (get_or b₁ 0 0) ∙ ap (λ (n : ℕ). entries b₂ 8 n) (sym n₂))) (arguments_read arities.reads)

    module _ {s₃ q q' : List ℕ} (fixed : ConstantsFill s₂ s₃ q q' (Ok (tt {0}))) where
      pub no_rule_count : {s₄ b₃ : List ℕ} {e : Refusal} → Fills {B = ℕ} (count_layout 0 16) 1 s₃ s₄ b₂ b₃ (Err e) → Yields rule_set s s₄ (Err e)
      no_rule_count count =
          chain _ arities_read (chain _ fixed.reads (stop _ (counted_stop 1 2 16 (rule (arities_in b₂) (constants_in q')) count.reads)))

      module _ {s₄ b₃ : List ℕ} {x₂ : ℕ} (count₂ : Fills (count_layout 0 16) 1 s₃ s₄ b₂ b₃ (Ok x₂)) where
        -- the second count stands apart from the arities
        pub header₃ : Header b₃
        header₃ = header_same b₂ b₃ (count₂.kept.same 0 (inl (omega arith))) (λ i l₁ l₂. count₂.kept.same i (inr (omega arith))) header₂

        arities₃ : arities_in b₃ ≡ arities_in b₂
        arities₃ = arities_same b₂ b₃ (count₂.kept.same 0 (inl (omega arith))) (λ i l₁ l₂. count₂.kept.same i (inr (omega arith))) header₂.few

        pub rule_set_fills : {s₅ b₄ : List ℕ} (r : Result (Unit {0}) Refusal) → length q ≡ query_size
            → Fills (many (get_or b₃ 1 0) (rule_layout (arities_in b₃) q')) first_rule s₄ s₅ b₃ b₄ r → RuleSetFills s s₅ b b₄ q' r
        unfolding rule_set_as
        rule_set_fills {s₅} {b₄} r query_long rules = record {
          reads =
              rw (arities_kept rules.kept (omega arith) header₃.few ∙ arities₃, rules.kept.same 1 (inl (omega arith)))
              (chain _ arities_read
              (chain _ fixed.reads
              (close _ r _ (counted_read 1 2 16 (rule (arities_in b₂) (constants_in q')) count₂.reads
              (turn (ap (λ (a : List ℕ). times (get_or b₃ 1 0) (rule a (constants_in q'))) arities₃) rules.reads)))));
          header = on_ok r (header_kept rules.kept (omega arith) header₃);
          constants_few = on_ok r fixed.constants_few;
          query_long = fixed.long ∙ query_long;
          long = rules.kept.long ∙ count₂.kept.long ∙ arities.kept.long ∙ count₁.kept.long;
        }
