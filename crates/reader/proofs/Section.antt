-- Entries side by side in a block. An entry that lies apart from what is written stays what it is, so that a loop that fills entry after
-- entry keeps what it promises: it has filled `many k` of them.
use mathlib.Core.{Path.◌≡◌, Path.sym, Path.ap, Path.◌∙◌, Logic.inl, List.List, List.[], List.◌∷◌, List.◌++◌}
use Prim.Native.Nat.{ℕ, ◌+◌, ◌*◌, ◌≤◌, ◌<◌}
use native.Mathlib.{Nat.mul-suc, Nat.mul-le-mul_left, Numerals.add-one, Omega.arith, Decide.dec_lt}
use lib.ListN.{get_or}
use Rattle.std.specs.Prelude.{Ok, Err}
use Rattle.semantics.specs.Reader.{Reader}
use Rattle.semantics.specs.declared.Refusal.{Refusal}
use Rattle.words.specs.Entries.{tabulate, entries}
use Rattle.words.proofs.Tabulate.{tabulate_more, tabulate_same}
use Rattle.reader.specs.{Outcome.Yields, Layout.Layout, Layout.KeptOutside, Layout.Fills, Layout.single, Layout.row, Layout.many}
use Rattle.reader.proofs.{Chain.become, Counting.times_none, Counting.times_more, Counting.times_stop, Keep.kept_none, Keep.kept_both, Keep.stops}

-- An entry looks at no place but its own and those below `low`.
pub record Local {A : Type 0} (layout : Layout A) : Type 0 where
  pub same : (b b' : List ℕ) (at : ℕ) → ((i : ℕ) → i < layout.low → get_or b' i 0 ≡ get_or b i 0)
      → ((i : ℕ) → at ≤ i → i < at + layout.width → get_or b' i 0 ≡ get_or b i 0)
      → layout.Sized b at → (layout.held b' at ≡ layout.held b at) × layout.Sized b' at

-- places of entries of width w
next_place : (w k : ℕ) → w * (k + 1) ≡ w * k + w
next_place w k = rw (add-one k) (mul-suc w k)

pub before_place : (w i k : ℕ) → i < k → w * i + w ≤ w * k
before_place w i k l = rw (← mul-suc w i) (mul-le-mul_left w l)

module _ {A : Type 0} (layout : Layout A) where
  -- one entry more, however the entries are read
  pub row_more : {B C : Type 0} {x : B} (z : C) → Local layout → {s s₁ s₂ : List ℕ} {b₀ b b' : List ℕ} {read : Reader (List A)} (read' : Reader (List A)) (from k : ℕ) → layout.low ≤ from
      → Fills (row k read layout) from s s₁ b₀ b (Ok x) → layout.Sized b' (from + layout.width * k)
      → KeptOutside (from + layout.width * k) (from + layout.width * k + layout.width) b b'
      → Yields read' s s₂ (Ok (tabulate k (λ (i : ℕ). layout.held b (from + layout.width * i)) ++ (layout.held b' (from + layout.width * k) ∷ [])))
      → Fills (row (k + 1) read' layout) from s s₂ b₀ b' (Ok z)
  row_more z local {b = b} {b' = b'} read' from k l h sized kept e = record {
    reads = become (ap (λ (xs : List A). Ok xs) values) e;
    sized = λ i p. all i p (dec_lt i k);
    kept = kept_both _ _ h.kept kept (omega (arith, next_place layout.width k));
  }
    where
      here : (i : ℕ) → i < k → (layout.held b' (from + layout.width * i) ≡ layout.held b (from + layout.width * i)) × layout.Sized b' (from + layout.width * i)
      here i p =
          local.same b b' (from + layout.width * i) (λ j q. kept.same j (inl (omega arith)))
          (λ j q₁ q₂. kept.same j (inl (omega (arith, before_place layout.width i k p)))) (h.sized i p)

      all : (i : ℕ) → i < k + 1 → Dec (i < k) → layout.Sized b' (from + layout.width * i)
      all i p (yes q) = (here i q).1
      all i p (no q) = let f : i ≡ k = omega arith in rw f sized

      values : tabulate k (λ (i : ℕ). layout.held b (from + layout.width * i)) ++ (layout.held b' (from + layout.width * k) ∷ [])
          ≡ tabulate (k + 1) (λ (i : ℕ). layout.held b' (from + layout.width * i))
      values =
          ap (λ (xs : List A). xs ++ (layout.held b' (from + layout.width * k) ∷ []))
          (tabulate_same k (λ (i : ℕ). layout.held b (from + layout.width * i)) (λ (i : ℕ). layout.held b' (from + layout.width * i)) (λ i p. sym (here i p).0))
          ∙ sym (rw (add-one k) (tabulate_more k (λ (i : ℕ). layout.held b' (from + layout.width * i))))

  -- a refusal at an entry is that of all
  pub row_stop : {s s' : List ℕ} {b₀ b b' : List ℕ} {e : Refusal} {B : Type 0} (read' : Reader (List A)) (from k count : ℕ) → k < count
      → KeptOutside from (from + layout.width * k) b₀ b → KeptOutside (from + layout.width * k) (from + layout.width * k + layout.width) b b'
      → Yields read' s s' (Err e) → Fills {B = B} (row count read' layout) from s s' b₀ b' (Err e)
  row_stop read' from k count l h kept e = stops (row count read' layout) e (kept_both _ _ h kept (omega (arith, before_place layout.width k count l)))

-- What a loop has done after k turns: k entries are filled.
pub record Filled {A : Type 0} (layout : Layout A) (from : ℕ) (before block : List ℕ) (k : ℕ) (now block' : List ℕ) : Type 0 where
  pub fills : Fills (many k layout) from before now block block' (Ok (tt {0}))

module _ {A : Type 0} {layout : Layout A} {from : ℕ} {before b₀ : List ℕ} where
  pub none : Filled layout from before b₀ 0 before b₀
  unfolding tabulate
  none = record { fills = record { reads = times_none layout.read before; sized = λ k l. absurd (omega arith); kept = kept_none _ _ b₀ } }

  -- one entry more
  pub more : Local layout → {s s' b b' : List ℕ} {at k : ℕ} {B : Type 0} {x : B} → layout.low ≤ from → Filled layout from before b₀ k s b → Fills layout at s s' b b' (Ok x)
      → at ≡ from + layout.width * k → Filled layout from before b₀ (k + 1) s' b'
  more local {s} {s'} {b} {b'} {at} {k} {B} {x} l h here e = record { fills = further (rw e at here) }
    where
      further : Fills {B = B} layout (from + layout.width * k) s s' b b' (Ok x) → Fills (many (k + 1) layout) from before s' b₀ b' (Ok (tt {0}))
      further here = row_more layout (tt {0}) local _ from k l h.fills here.sized here.kept (rw (add-one k) (times_more layout.read k _ _ h.fills.reads here.reads))

  -- a refusal at the next entry
  pub broken : {s s' b b' : List ℕ} {at k : ℕ} {e : Refusal} {B : Type 0} (count : ℕ) → Filled layout from before b₀ k s b → Fills {B = B} layout at s s' b b' (Err e) → k < count
      → at ≡ from + layout.width * k → Fills {B = Unit {0}} (many count layout) from before s' b₀ b' (Err e)
  broken {s} {s'} {b} {b'} {at} {k} {e} {B} count h here p q = further (rw q at here)
    where
      further : Fills {B = B} layout (from + layout.width * k) s s' b b' (Err e) → Fills {B = Unit {0}} (many count layout) from before s' b₀ b' (Err e)
      further here = row_stop layout _ from k count p h.fills.kept here.kept (times_stop layout.read count k _ p h.fills.reads here.reads)

-- an entry of one place, and entries side by side
pub single_local : {A : Type 0} (read : Reader A) (value : ℕ → A) (In : ℕ → Type 0) → Local (single read value In)
single_local read value In = record { same = λ b b' at below here s. let e = here at (omega arith) (omega arith) in (ap value e, rw (← e) at s) }

pub many_local : {A : Type 0} (count : ℕ) (layout : Layout A) → Local layout → Local (many count layout)
many_local {A} count layout local = record {
  same = λ b b' from below here s.
      let each : (k : ℕ) → k < count → (layout.held b' (from + layout.width * k) ≡ layout.held b (from + layout.width * k)) × layout.Sized b' (from + layout.width * k)
      = λ k p. local.same b b' (from + layout.width * k) below (λ i h₁ h₂. here i (omega arith) (omega (arith, before_place layout.width k count p))) (s k p) in (
        tabulate_same count (λ (k : ℕ). layout.held b' (from + layout.width * k)) (λ (k : ℕ). layout.held b (from + layout.width * k)) (λ k p. (each k p).0),
        λ k p. (each k p).1,
      );
}

-- entries of one place each
pub ones : (b : List ℕ) (from m : ℕ) → tabulate m (λ (k : ℕ). get_or b (from + 1 * k) 0) ≡ entries b from m
ones b from m =
    tabulate_same m (λ (k : ℕ). get_or b (from + 1 * k) 0) (λ (k : ℕ). get_or b (from + k) 0)
    (λ k l. let e : 1 * k ≡ k = omega arith in ap (λ (i : ℕ). get_or b (from + i) 0) e)

pub entries_same : (b b' : List ℕ) (from n : ℕ) → ((i : ℕ) → from ≤ i → i < from + n → get_or b' i 0 ≡ get_or b i 0) → entries b' from n ≡ entries b from n
entries_same b b' from n h = tabulate_same n (λ (i : ℕ). get_or b' (from + i) 0) (λ (i : ℕ). get_or b (from + i) 0) (λ i l. h (from + i) (omega arith) (omega arith))
