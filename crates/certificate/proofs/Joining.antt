-- The disjoint join of subheaps, one after the other onto those used so far, is the join of the definition; and joined subheaps stay small.
use mathlib.Core.List.Memᴰ
use mathlib.Core.{Path.◌≡◌, Path.refl, List.List, List.[], List.◌∷◌}
use Prim.Native.Nat.{ℕ, ◌+◌, ◌<◌}
use native.Mathlib.Omega.{arith}
use Rattle.semantics.specs.{Heap.Disjoint, Heap.Joins, Lists.◌among◌}
use Rattle.semantics.proofs.Sharing.{disjoint_comm, disjoint_none}
use Rattle.words.proofs.Disjoint.{disjoint_split, disjoint_join, sum_small}

-- The subheaps, joined one by one to those used, make up the whole.
pub data Onto : List ℕ → ℕ → ℕ → Type 0 where
  none : {used whole : ℕ} → used ≡ whole → Onto [] used whole
  next : {part used whole : ℕ} {parts : List ℕ} → Disjoint part used → Onto parts (part + used) whole → Onto (part ∷ parts) used whole

record Rest (parts : List ℕ) (used whole : ℕ) : Type 0 where
  pub rest : ℕ
  pub joins : Joins parts rest
  pub disjoint : Disjoint used rest
  pub sum : whole ≡ used + rest

onto_rest : {parts : List ℕ} {used whole : ℕ} → Onto parts used whole → Rest parts used whole
onto_rest {used = used} (Onto.none e) = record { rest = 0; joins = Joins.none; disjoint = disjoint_none used; sum = omega arith }
onto_rest {used = used} (Onto.next {part = part} h o) =
    let r = onto_rest o in
    let (a, b) = disjoint_join part used r.rest h r.disjoint in
    record { rest = part + r.rest; joins = Joins.next a r.joins refl; disjoint = b; sum = omega (arith, r.sum) }

pub onto_joins : (parts : List ℕ) (whole : ℕ) → Onto parts 0 whole → Joins parts whole
onto_joins parts whole o = let r = onto_rest o in let e : r.rest ≡ whole = omega (arith, r.sum) in rw e at r.joins

joins_rest : {parts : List ℕ} {rest : ℕ} → Joins parts rest → (used whole : ℕ) → Disjoint used rest → whole ≡ used + rest → Onto parts used whole
joins_rest Joins.none used whole h e = Onto.none {used = used} {whole = whole} (omega arith)
joins_rest (Joins.next {part = part} {rest = rest} a j w) used whole h e =
    let h' : Disjoint used (part + rest) = rw w at h in
    let (p, q) = disjoint_split part used rest a h' in
    Onto.next p (joins_rest j (part + used) whole q (omega arith))

pub joins_onto : (parts : List ℕ) (whole : ℕ) → Joins parts whole → Onto parts 0 whole
joins_onto parts whole j = joins_rest j 0 whole (disjoint_comm (disjoint_none whole)) (omega arith)

-- ---- sizes

pub joins_small : {parts : List ℕ} {whole : ℕ} → Joins parts whole → ((p : ℕ) → p among parts → p < 65536) → whole < 65536
joins_small Joins.none h = omega arith
joins_small (Joins.next {part = part} {rest = rest} a j w) h =
    omega (arith, sum_small part rest (h part (Memᴰ.head refl)) (joins_small j (λ p m. h p (Memᴰ.tail m))) a)
