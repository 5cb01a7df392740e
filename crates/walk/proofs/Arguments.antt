-- Arguments written one after the other into eight entries of 0: those written are read back, and every entry has a value.
use mathlib.Core.{Path.◌≡◌, Path.refl, Path.◌∙◌, Path.sym, List.List, Logic.by_cases}
use Prim.Native.Nat.{ℕ, ◌+◌, ◌≤◌, ◌<◌}
use native.Mathlib.{Omega.arith, Decide.ℕ_discrete}
use lib.{ListN.length, ListN.get_or, ListN.set, ListN.take, ListN.length-set, Seq.get_or-set_same, Seq.get_or-set_other, Seq.get_or-take, Seq.length-take-le, Seq.ext_get_or}
use Rattle.semantics.specs.Lists.{zeros}
use Rattle.semantics.proofs.Coding.{zeros_at}
use Rattle.words.specs.Entries.{tabulate}
use Rattle.words.proofs.Tabulate.{tabulate-length, tabulate_at}
use Rattle.finding.specs.Values.{open_entry, opens, Counted}
use Rattle.finding.proofs.Opens.{opens_kept}

-- The first n entries are written: entry j is `f j`.
pub record Written (n : ℕ) (f : ℕ → ℕ) (values : List ℕ) : Type 0 where
  pub eight : length values ≡ 8
  pub at : (j : ℕ) → j < n → get_or values j 0 ≡ f j
  pub known : (v : ℕ) → get_or values v 0 < open_entry

pub written_none : (f : ℕ → ℕ) → Written 0 f (zeros 8)
written_none f = record { eight = refl; at = λ j h. absurd (omega arith); known = λ v. omega (arith, zeros_at 8 v) }

opens-zeros : opens (zeros 8) ≡ 0
unfolding opens
opens-zeros = refl

module _ {f : ℕ → ℕ} {values : List ℕ} {n : ℕ} (w : Written n f values) where
  pub written_more : n < 8 → {x : ℕ} → x ≡ f n → x < open_entry → Written (n + 1) f (set values n x)
  written_more few {x} e small = record {
    eight = length-set values n x ∙ w.eight;
    at = λ j h. by_cases (ℕ_discrete j n) (λ q. rw q (get_or-set_same values n x 0 (omega (arith, w.eight)) ∙ e))
        (λ q. get_or-set_other values n j x 0 q ∙ w.at j (omega arith));
    known = λ v. by_cases (ℕ_discrete v n) (λ q. rw q (omega (arith, get_or-set_same values n x 0 (omega (arith, w.eight)))))
        (λ q. omega (arith, get_or-set_other values n v x 0 q, w.known v));
  }

  pub written_take : n ≤ 8 → take n values ≡ tabulate n f
  written_take few =
      ext_get_or 0 (take n values) (tabulate n f) (length-take-le n values (omega (arith, w.eight)) ∙ sym (tabulate-length n f))
      (λ j h. let l : j < n = omega (arith, length-take-le n values (omega (arith, w.eight))) in get_or-take n values j 0 l ∙ w.at j l ∙ sym (tabulate_at n f 0 j l))

  pub written_counted : Counted values 0
  written_counted = record { eight = w.eight; is = omega (arith, opens-zeros, opens_kept (zeros 8) values (sym w.eight) (λ v h. w.known v)) }
