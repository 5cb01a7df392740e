-- What the loops over a rule's calls and points-to atoms pass: what is left of a join after the first call or atom, and at the end.
use mathlib.Core.{Path.◌≡◌, Path.sym, Path.ap₂, Path.◌∙◌, List.List, List.[], List.◌∷◌, Logic.◌↔◌}
use Prim.Native.Nat.{ℕ, ◌+◌, ◌/◌, ◌%◌, ◌^◌, ◌≤◌, ◌<◌}
use native.Mathlib.{Omega.arith, Numerals.add-one, Decide.dec_lt}
use lib.{ListN.take, ListN.drop, ListN.drop_of_length-le, Seq.drop-cons}
use Rattle.semantics.specs.{Certificate.fact_at, Certificate.positions_at, Fact.code, Fact.part_of, Heap.Record, Heap.Disjoint, Tree.asked}
use Rattle.words.specs.{Entries.tabulate}
use Rattle.block.specs.Layout.{atom_in, call_in, rule_in, atom_count, call_count, atom_place, call_place, head_in, head_arity}
use Rattle.words.proofs.Tabulate.{tabulate-length, tabulate_at}
use Rattle.certificate.specs.Line.{given_by, FirstRecord, CallsLine, CallsJoin, AtomsJoin}

-- ---- lists given by their entries, from an entry on

drop_next : {A : Type 0} (m : ℕ) (f : ℕ → A) (i : ℕ) → i < m → drop i (tabulate m f) ≡ f i ∷ drop (i + 1) (tabulate m f)
drop_next {A} m f i h =
    drop-cons (tabulate m f) i (f i) (omega (arith, tabulate-length m f))
    ∙ ap₂ (λ (x : A) (j : ℕ). x ∷ drop j (tabulate m f)) (tabulate_at m f (f i) i h) (sym (add-one i))

drop_end : {A : Type 0} (m : ℕ) (f : ℕ → A) (i : ℕ) → m ≤ i → drop i (tabulate m f) ≡ []
drop_end m f i h = drop_of_length-le (tabulate m f) {i = i} (omega (arith, tabulate-length m f))

-- ---- calls

-- the join of a rule's calls from number c on
abbrev pub CallsFrom : List ℕ → ℕ → List ℕ → ℕ → List ℕ → ℕ → ℕ → ℕ → ℕ → Type 0
CallsFrom rules rule words k σ part c lines used = CallsJoin words k σ part (drop c (rule_in rules rule).calls) lines used

-- what the first of them says
pub record FirstCall (rules : List ℕ) (rule : ℕ) (words : List ℕ) (k : ℕ) (σ : List ℕ) (part c lines used : ℕ) : Type 0 where
  pub line : CallsLine words k σ (call_in rules (call_place rule c)) (lines % 65536)
  pub disjoint : Disjoint (part_of (fact_at words (lines % 65536))) used
  pub rest : CallsFrom rules rule words k σ part (c + 1) (lines / 65536) (part_of (fact_at words (lines % 65536)) + used)

module _ (rules : List ℕ) (rule c : ℕ) {words : List ℕ} {k : ℕ} {σ : List ℕ} {part lines used : ℕ} where
  pub calls_step : c < call_count rules rule → CallsFrom rules rule words k σ part c lines used ↔ FirstCall rules rule words k σ part c lines used
  calls_step h = (λ j. first (rw next at j), λ f. rw next (CallsJoin.next f.line f.disjoint f.rest))
    where
      next : drop c (rule_in rules rule).calls ≡ call_in rules (call_place rule c) ∷ drop (c + 1) (rule_in rules rule).calls
      next = drop_next (call_count rules rule) (λ i. call_in rules (call_place rule i)) c h

      first : CallsJoin words k σ part (call_in rules (call_place rule c) ∷ drop (c + 1) (rule_in rules rule).calls) lines used → FirstCall rules rule words k σ part c lines used
      first (CallsJoin.next l a r) = record { line = l; disjoint = a; rest = r }

  pub calls_done : call_count rules rule ≤ c → CallsFrom rules rule words k σ part c lines used ↔ ((lines ≡ 0) × (used ≡ part))
  calls_done h = rw (drop_end (call_count rules rule) (λ i. call_in rules (call_place rule i)) c h) (last, λ e. CallsJoin.done e.0 e.1)
    where
      last : CallsJoin words k σ part [] lines used → (lines ≡ 0) × (used ≡ part)
      last (CallsJoin.done e u) = (e, u)

-- ---- points-to atoms

first_same : (records : List ℕ) (wanted : Record) (i j : ℕ) → FirstRecord records wanted i → FirstRecord records wanted j → i ≡ j
first_same records wanted i j p q = elim (dec_lt i j) [
  | yes h ↦ absurd (q.first i h p.is)
  | no n ↦ elim (dec_lt j i) [ yes h ↦ absurd (p.first j h q.is) | no m ↦ omega arith ]
]

-- the join of a rule's atoms from number g on
abbrev pub AtomsFrom : List ℕ → ℕ → List ℕ → List ℕ → (ℕ → Type 0) → ℕ → ℕ → Type 0
AtomsFrom rules rule records σ after g used = AtomsJoin records σ after (drop g (rule_in rules rule).points_to) used

-- what the first of them says, if it takes record i
pub record FirstAtom (rules : List ℕ) (rule : ℕ) (records σ : List ℕ) (after : ℕ → Type 0) (g i used : ℕ) : Type 0 where
  pub takes : FirstRecord records (asked σ (atom_in rules (atom_place rule g))) i
  pub disjoint : Disjoint (2 ^ i) used
  pub rest : AtomsFrom rules rule records σ after (g + 1) (2 ^ i + used)

module _ (rules : List ℕ) (rule g : ℕ) {records σ : List ℕ} {after : ℕ → Type 0} {used : ℕ} where
  pub atoms_step : g < atom_count rules rule → AtomsFrom rules rule records σ after g used ↔ ((i : ℕ) × FirstAtom rules rule records σ after g i used)
  atoms_step h = (λ j. first (rw next at j), λ f. rw next (AtomsJoin.next f.0 f.1.takes f.1.disjoint f.1.rest))
    where
      next : drop g (rule_in rules rule).points_to ≡ atom_in rules (atom_place rule g) ∷ drop (g + 1) (rule_in rules rule).points_to
      next = drop_next (atom_count rules rule) (λ i. atom_in rules (atom_place rule i)) g h

      first : AtomsJoin records σ after (atom_in rules (atom_place rule g) ∷ drop (g + 1) (rule_in rules rule).points_to) used → (i : ℕ) × FirstAtom rules rule records σ after g i used
      first (AtomsJoin.next i f z r) = (i, record { takes = f; disjoint = z; rest = r })

  -- only one record is the first as asked for
  pub atoms_first : {i : ℕ} → g < atom_count rules rule → FirstRecord records (asked σ (atom_in rules (atom_place rule g))) i
      → AtomsFrom rules rule records σ after g used → FirstAtom rules rule records σ after g i used
  atoms_first {i} h f j =
      let (k, p) = (atoms_step h).0 j in
      let e : k ≡ i = first_same records (asked σ (atom_in rules (atom_place rule g))) k i p.takes f in
      rw e at p

  pub atoms_done : atom_count rules rule ≤ g → AtomsFrom rules rule records σ after g used ↔ after used
  atoms_done h = rw (drop_end (atom_count rules rule) (λ i. atom_in rules (atom_place rule i)) g h) (last, AtomsJoin.done)
    where
      last : AtomsJoin records σ after [] used → after used
      last (AtomsJoin.done p) = p

-- ---- the head

-- the head's fact by the line's own words
pub head_is : (rules : List ℕ) (rule : ℕ) (words : List ℕ) (k : ℕ) {f word part g : ℕ} → f ≡ fact_at words k → word ≡ positions_at words k → part ≡ part_of f
    → g ≡ code (head_in rules rule) (take (head_arity rules rule) (given_by word)) part
    → g ≡ code (head_in rules rule) (take (head_arity rules rule) (given_by (positions_at words k))) (part_of (fact_at words k))
head_is rules rule words k e w s h = cc
