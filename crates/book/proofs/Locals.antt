-- Each kind of entry looks at no place but its own and, for calls and rules, the arities below the rules.
use mathlib.Core.{Path.◌≡◌, List.List}
use Prim.Native.Nat.{ℕ, ◌+◌, ◌<◌}
use native.Mathlib.Omega.{arith}
use lib.ListN.{get_or}
use Rattle.semantics.specs.Formats.{term}
use Rattle.block.specs.Layout.{term_as, fixed_in, constants_in}
use Rattle.reader.specs.{Outcome.ranged_byte, Outcome.Within, Layout.Any}
use Rattle.book.specs.BookLayout.{count_layout, term_layout, pure_layout, atom_layout, call_layout, rule_layout}
use Rattle.reader.proofs.Section.{Local, single_local, many_local, entries_same}

pub count_local : (least most : ℕ) → Local (count_layout least most)
count_local least most = single_local (ranged_byte 1 2 least most) (λ v. v) (Within least most)

pub term_local : (given : List ℕ) (n : ℕ) → Local (term_layout given n)
term_local given n = single_local (term (constants_in given) n) (term_as (fixed_in given)) Any

pub pure_local : (given : List ℕ) (n : ℕ) → Local (pure_layout given n)
pure_local given n = record {
  same = λ b b' at below here s. (rw (here at (omega arith) (omega arith), here (at + 1) (omega arith) (omega arith), here (at + 2) (omega arith) (omega arith)), tt);
}

pub atom_local : (given : List ℕ) (n : ℕ) → Local (atom_layout given n)
atom_local given n = record {
  same = λ b b' at below here s.
      let e = here (at + 1) (omega arith) (omega arith) in
      let fields = entries_same b b' (at + 2) (get_or b (at + 1) 0) (λ i l₁ l₂. here i (omega arith) (omega arith)) in
      (rw (here at (omega arith) (omega arith), e, fields), rw (← e) at s);
}

pub call_local : (arities given : List ℕ) (n : ℕ) → Local (call_layout arities given n)
call_local arities given n = record {
  same = λ b b' at below here s.
      let e = here at (omega arith) (omega arith) in
      let m : get_or b' (8 + get_or b at 0) 0 ≡ get_or b (8 + get_or b at 0) 0 = below (8 + get_or b at 0) (omega (arith, s.name)) in
      let arguments = entries_same b b' (at + 1) (get_or b (8 + get_or b at 0) 0) (λ i l₁ l₂. here i (omega arith) (omega (arith, s.few))) in
      (rw (e, m, arguments), record { name = rw e s.name; few = rw (e, m) s.few });
}

-- a rule's conditions, atoms and calls are many of their kind
pub rule_local : (arities given : List ℕ) → Local (rule_layout arities given)
rule_local arities given = record {
  same = λ b b' at below here s.
      let m₁ = here (at + 2) (omega arith) (omega arith) in
      let m₂ = here (at + 3) (omega arith) (omega arith) in
      let m₃ = here (at + 4) (omega arith) (omega arith) in
      let none : (i : ℕ) → i < 0 → get_or b' i 0 ≡ get_or b i 0 = λ i l. below i (omega arith) in
      let ps = (many_local (get_or b (at + 2) 0) (pure_layout given 0) (pure_local given 0)).same b b' (at + 8) none (λ i l₁ l₂. here i (omega arith) (omega (arith, s.pures))) (λ k l. tt) in
      let cs = (many_local (get_or b (at + 3) 0) (atom_layout given 0) (atom_local given 0)).same b b' (at + 32) none (λ i l₁ l₂. here i (omega arith) (omega (arith, s.atoms))) s.fields in
      let ds = (many_local (get_or b (at + 4) 0) (call_layout arities given 0) (call_local arities given 0)).same b b' (at + 56) below (λ i l₁ l₂. here i (omega arith) (omega (arith, s.calls))) s.called in (
        rw (m₁, m₂, m₃, here at (omega arith) (omega arith), here (at + 1) (omega arith) (omega arith), ps.0, cs.0, ds.0),
        record { pures = rw m₁ s.pures; atoms = rw m₂ s.atoms; fields = rw m₂ cs.1; calls = rw m₃ s.calls; called = rw m₃ ds.1 },
      );
}
