-- The arities stand below the rules: what is written from there on leaves them alone. What a block says of predicate p is what the list of
-- its arities says.
use mathlib.Core.{Path.◌≡◌, Path.sym, Path.◌∙◌, Logic.inl, List.List}
use Prim.Native.Nat.{ℕ, ◌+◌, ◌≤◌, ◌<◌}
use native.Mathlib.Omega.{arith}
use lib.{ListN.length, ListN.get_or, ListN.set, ListN.length-set, Seq.get_or-set_same, Seq.get_or-set_other}
use Rattle.std.specs.Prelude.{Ok}
use Rattle.words.proofs.Tabulate.{tabulate-length, tabulate_at}
use Rattle.block.specs.Layout.{first_rule}
use Rattle.reader.specs.Layout.{KeptOutside, Fills}
use Rattle.book.specs.BookLayout.{Header, arities_in, name_layout}
use Rattle.reader.proofs.Section.{entries_same}

pub arities_length : (b : List ℕ) → length (arities_in b) ≡ get_or b 0 0
arities_length b = tabulate-length (get_or b 0 0) (λ (i : ℕ). get_or b (8 + i) 0)

pub arity_at : (b : List ℕ) (p : ℕ) → p < get_or b 0 0 → get_or (arities_in b) p 0 ≡ get_or b (8 + p) 0
arity_at b p l = tabulate_at (get_or b 0 0) (λ (i : ℕ). get_or b (8 + i) 0) 0 p l

-- two blocks with the same number of predicates and the same arities
module _ (b b' : List ℕ) (e : get_or b' 0 0 ≡ get_or b 0 0) (same : (i : ℕ) → 8 ≤ i → i < 16 → get_or b' i 0 ≡ get_or b i 0) where
  pub arities_same : get_or b 0 0 ≤ 8 → arities_in b' ≡ arities_in b
  arities_same few = rw e (entries_same b b' 8 (get_or b 0 0) (λ i l₁ l₂. same i l₁ (omega arith)))

  pub header_same : Header b → Header b'
  header_same h = record {
    some = rw e h.some;
    few = rw e h.few;
    each = λ p m. let m' : p < get_or b 0 0 = rw e at m in rw (same (8 + p) (omega arith) (omega (arith, h.few))) (h.each p m');
  }

pub arities_kept : {from to : ℕ} {b b' : List ℕ} → KeptOutside from to b b' → first_rule ≤ from → get_or b 0 0 ≤ 8 → arities_in b' ≡ arities_in b
arities_kept {b = b} {b' = b'} k l few = arities_same b b' (k.same 0 (inl (omega arith))) (λ i l₁ l₂. k.same i (inl (omega arith))) few

pub header_kept : {from to : ℕ} {b b' : List ℕ} → KeptOutside from to b b' → first_rule ≤ from → Header b → Header b'
header_kept {b = b} {b' = b'} k l h = header_same b b' (k.same 0 (inl (omega arith))) (λ i l₁ l₂. k.same i (inl (omega arith))) h

-- the predicate that a name has just been read for, and its arity
module _ (at : ℕ) {s s' b b' : List ℕ} {p : ℕ} (header : Header b) (low : first_rule ≤ at) (name : Fills (name_layout (get_or b 0 0)) at s s' b b' (Ok p)) where
  pub name_small : get_or b' at 0 < get_or b 0 0
  name_small = name.sized

  pub arity_kept : get_or b' (8 + get_or b' at 0) 0 ≡ get_or b (8 + get_or b' at 0) 0
  arity_kept = name.kept.same (8 + get_or b' at 0) (inl (omega (arith, name_small, header.few)))

  pub arity_few : get_or b' (8 + get_or b' at 0) 0 ≤ 4
  arity_few = rw arity_kept (header.each (get_or b' at 0) name_small)

  pub arity_read : get_or (arities_in b) (get_or b' at 0) 0 ≡ get_or b' (8 + get_or b' at 0) 0
  arity_read = arity_at b (get_or b' at 0) name_small ∙ sym arity_kept

-- one predicate without arguments
pub header_one : (b : List ℕ) → 8 < length b → Header (set (set b 0 1) 8 0)
header_one b l =
    let one : get_or (set (set b 0 1) 8 0) 0 0 ≡ 1 = get_or-set_other (set b 0 1) 8 0 0 0 (λ e. omega arith) ∙ get_or-set_same b 0 1 0 (omega arith) in
    let none : get_or (set (set b 0 1) 8 0) 8 0 ≡ 0 = get_or-set_same (set b 0 1) 8 0 0 (simp length-set (omega arith)) in
    record {
      some = omega (arith, one);
      few = omega (arith, one);
      each = λ p k. let first : p ≡ 0 = omega (arith, one) in rw first (omega (arith, none));
    }
