-- Marks along the links of a rule. What a link marks is fixed if what it leads from is; and what is fixed is marked once no link leads further.
use mathlib.Core.{List.List, Path.◌≡◌, Path.refl, Path.sym, Path.ap, Logic.◌≢◌, Logic.◌⊎◌, Logic.inl, Logic.inr, Logic.⊎_elim, Logic.by_cases}
use Prim.Native.Nat.{ℕ, ◌+◌, ◌≤◌, ◌<◌}
use native.Mathlib.{Omega.arith, Decide.ℕ_discrete, Decide.dec_lt}
use lib.{ListN.length, ListN.get_or, Seq.get_or-set_other}
use Rattle.semantics.specs.Lists.{zeros}
use Rattle.semantics.proofs.Coding.{zeros_at}
use Rattle.block.specs.Layout.{head_arity, pure_count, pure_kind, pure_place, pure_left, pure_right, atom_count, atom_place, atom_address, atom_size, atom_field}
use Rattle.block.specs.Ready.{TermByte, FormedRule, variables_in}
use Rattle.finding.specs.{Values.open_entry, Values.Valued, Values.Learnt, Links.Keeps, Links.PureClosed, Found.Opened}
use Rattle.finding.specs.Values.{opens}
use Rattle.finding.proofs.{Learning.keeps_then, Learning.still_valued, Learning.learnt_keeps, Learning.learnt_valued, Learning.Stays, Equalities.pure_stays, Opens.opens_none, Opens.opens_some, Opens.same_known}
use Rattle.plain.specs.Fixing.{FixedByte, AllFixedIn, Given, Passes, Sound, Along, AlongEach, AlongPure, AlongPures, AtomClosed, AlongAtoms}

-- ---- terms marked one by one

pub given_none : (rules : List ℕ) (terms : ℕ) (values : List ℕ) → Given rules terms 0 values values
given_none rules terms values = record { keeps = λ v h. refl; only = λ v h. inl h; all = λ j h. absurd (omega arith) }

module _ (rules : List ℕ) (terms j : ℕ) (before middle after : List ℕ) (g : Given rules terms j before middle) (long : length middle ≡ 8)
    (l : Learnt (get_or rules (terms + j) 0) 0 middle after) where
  abbrev Marked : ℕ → Type 0
  Marked v = (get_or before v 0 < open_entry) ⊎ ((i : ℕ) × (i < j + 1) × (get_or rules (terms + i) 0 ≡ v))

  earlier : (v : ℕ) → get_or middle v 0 < open_entry → Marked v
  earlier v h = ⊎_elim (λ b. inl b) (λ (i, few, e). inr (i, omega arith, e)) (g.only v h)

  marked : Learnt (get_or rules (terms + j) 0) 0 middle after → (v : ℕ) → get_or after v 0 < open_entry → Marked v
  marked (Learnt.kept k e) v h = earlier v (omega (arith, ap (λ (l : List ℕ). get_or l v 0) e))
  marked (Learnt.given few o e) v h = step (ℕ_discrete v (get_or rules (terms + j) 0))
    where
      step : Dec (v ≡ get_or rules (terms + j) 0) → Marked v
      step (yes q) = inr (j, omega arith, sym q)
      step (no n) = earlier v (omega (arith, ap (λ (l : List ℕ). get_or l v 0) e, get_or-set_other middle (get_or rules (terms + j) 0) v 0 0 n))

  pub given_more : Given rules terms (j + 1) before after
  given_more = record {
    keeps = keeps_then before middle after g.keeps (learnt_keeps l);
    only = marked l;
    all = λ i h. all i h (ℕ_discrete i j);
  }
    where
      all : (i : ℕ) → i < j + 1 → Dec (i ≡ j) → Valued after (get_or rules (terms + i) 0)
      all i h (yes e) = rw e (learnt_valued long (omega arith) l)
      all i h (no n) = still_valued middle after (get_or rules (terms + i) 0) (learnt_keeps l) (g.all i (omega arith))

-- ---- from one term to others

module _ (rules : List ℕ) (from terms count : ℕ) (before after : List ℕ) where
  pub pass_keeps : Passes rules from terms count before after → Keeps before after
  pass_keeps (Passes.passes v g) = g.keeps
  pass_keeps (Passes.stays n e) = λ v h. ap (λ (l : List ℕ). get_or l v 0) e

  pub pass_leads : Passes rules from terms count before after → Valued before from → (j : ℕ) → j < count → Valued after (get_or rules (terms + j) 0)
  pass_leads (Passes.passes v g) h = g.all
  pass_leads (Passes.stays n e) h = absurd (n h)

  pub pass_sound : (at : ℕ) (Fixed : ℕ → Type 0) → variables_in rules at ≤ 8 → TermByte Fixed (variables_in rules at) from
      → (FixedByte rules at from → (j : ℕ) → j < count → FixedByte rules at (get_or rules (terms + j) 0))
      → Passes rules from terms count before after → Sound rules at before → Sound rules at after
  pass_sound at Fixed few byte leads (Passes.passes v g) = λ s w h known.
      ⊎_elim (s w h)
      (λ (j, l, e). rw (← e) (leads (⊎_elim (λ b. s from b (v (omega arith))) (λ f. FixedByte.fixed_value f.0) byte) j l))
      (g.only w known)
  pass_sound at Fixed few byte leads (Passes.stays n e) = λ s. rw e s

-- ---- along a condition

module _ {Fixed : ℕ → Type 0} {rules : List ℕ} {at : ℕ} (f : FormedRule Fixed rules at) where
  module _ (k : ℕ) (h : k < pure_count rules at) where
    -- one that is no equality
    pub along_other : pure_kind rules at k ≢ 0 → (values : List ℕ) → AlongPure rules at k values values
    along_other n values = record { keeps = λ v l. refl; sound = λ s. s; closed = record { to_right = λ e. absurd (n e); to_left = λ e. absurd (n e) } }

    -- an equality, from the left to the right and back
    module _ (is : pure_kind rules at k ≡ 0) (left right place : ℕ) (is-left : left ≡ pure_left rules at k) (is_right : right ≡ pure_right rules at k)
        (is_place : place ≡ pure_place at k + 1) (before middle after : List ℕ) (p : Passes rules left (place + 1) 1 before middle) (q : Passes rules right place 1 middle after) where
      right_there : (j : ℕ) → j < 1 → get_or rules (place + 1 + j) 0 ≡ pure_right rules at k
      right_there j l = ap (λ (i : ℕ). get_or rules i 0) (omega arith)

      left_there : (j : ℕ) → j < 1 → get_or rules (place + j) 0 ≡ pure_left rules at k
      left_there j l = ap (λ (i : ℕ). get_or rules i 0) (omega arith)

      pub along_both : AlongPure rules at k before after
      along_both = record {
        keeps = keeps_then before middle after (pass_keeps rules left (place + 1) 1 before middle p) (pass_keeps rules right place 1 middle after q);
        sound = λ s.
            pass_sound rules right place 1 middle after at Fixed f.ready.variables_few (rw is_right (f.ready.pure_right_lem k h))
            (λ x j l. rw (left_there j l) (FixedByte.to_left k h is (rw is_right at x))) q
            (pass_sound rules left (place + 1) 1 before middle at Fixed f.ready.variables_few (rw is-left (f.ready.pure_left_lem k h))
            (λ x j l. rw (right_there j l) (FixedByte.to_right k h is (rw is-left at x))) p s);
        closed = record {
          to_right = λ e v.
              still_valued middle after (pure_right rules at k) (pass_keeps rules right place 1 middle after q)
              (rw (right_there 0 (omega arith)) at (pass_leads rules left (place + 1) 1 before middle p (rw is-left v) 0 (omega arith)));
          to_left = λ e v.
              rw (left_there 0 (omega arith)) at
              (pass_leads rules right place 1 middle after q (rw is_right (still_valued before middle (pure_right rules at k) (pass_keeps rules left (place + 1) 1 before middle p) v)) 0 (omega arith));
        };
      }

  -- ---- along an atom

  module _ (g : ℕ) (h : g < atom_count rules at) (address place size : ℕ) (is_address : address ≡ atom_address rules at g) (is_place : place ≡ atom_place at g + 2)
      (is-size : size ≡ atom_size rules at g) (before after : List ℕ) (p : Passes rules address place size before after) where
    field_there : (j : ℕ) → get_or rules (place + j) 0 ≡ atom_field rules at g j
    field_there j = ap (λ (i : ℕ). get_or rules (i + j) 0) is_place

    pub along_fields : Along rules at (AtomClosed rules at g) before after
    along_fields = record {
      keeps = pass_keeps rules address place size before after p;
      sound = pass_sound rules address place size before after at Fixed f.ready.variables_few (inl (omega (arith, f.ready.atom_address_lem g h)))
          (λ x j l. rw (field_there j) (FixedByte.of_field g j h (omega arith) (rw is_address at x))) p;
      closed = λ v j l. rw (field_there j) at (pass_leads rules address place size before after p (rw is_address v) j (omega arith));
    }

-- ---- links one after the other

module _ (rules : List ℕ) (at : ℕ) (Closed : ℕ → List ℕ → List ℕ → Type 0) where
  pub along_none : (values : List ℕ) → AlongEach rules at 0 Closed values values
  along_none values = record { keeps = λ v h. refl; sound = λ s. s; closed = λ k h. absurd (omega arith) }

  pub along_more : Stays Closed → (m : ℕ) (before middle after : List ℕ) → AlongEach rules at m Closed before middle → Along rules at (Closed m) middle after
      → AlongEach rules at (m + 1) Closed before after
  along_more stays m before middle after first last = record {
    keeps = keeps_then before middle after first.keeps last.keeps;
    sound = λ s. last.sound (first.sound s);
    closed = λ k h. elim (ℕ_discrete k m) [
      | yes e ↦ rw e (stays m before middle after after first.keeps last.closed (λ v l. refl))
      | no q ↦ stays k before before middle after (λ v l. refl) (first.closed k (omega arith)) last.keeps
    ];
  }

pub atom_stays : (rules : List ℕ) (at : ℕ) → Stays (AtomClosed rules at)
atom_stays rules at g a b c d ab closed cd v j l =
    still_valued c d (atom_field rules at g j) cd (closed (still_valued a b (atom_address rules at g) ab v) j l)

-- ---- turns along all links

-- Each link leads from the marks back to them.
pub record Still (rules : List ℕ) (at : ℕ) (values : List ℕ) : Type 0 where
  pub pures : (k : ℕ) → k < pure_count rules at → PureClosed rules at k values values
  pub atoms : (g : ℕ) → g < atom_count rules at → AtomClosed rules at g values values

module _ (rules : List ℕ) (at : ℕ) (before middle after : List ℕ) (pures : AlongPures rules at before middle) (atoms : AlongAtoms rules at middle after) where
  pub turn_keeps : Keeps before after
  turn_keeps = keeps_then before middle after pures.keeps atoms.keeps

  -- a turn that marks nothing
  module _ (long : length before ≡ length after) (same : opens after ≡ opens before) where
    turned_back : Keeps after before
    turned_back v h = sym (turn_keeps v (same_known before after long (λ w l. omega (arith, turn_keeps w l)) same v h))

    pub still_turn : Still rules at after
    still_turn = record {
      pures = λ k h. pure_stays rules at k after before middle after turned_back (pures.closed k h) atoms.keeps;
      atoms = λ g h. atom_stays rules at g after middle after after (keeps_then after before middle turned_back pures.keeps) (atoms.closed g h) (λ v l. refl);
    }

-- ---- the answer

module _ (rules : List ℕ) (at : ℕ) (first : List ℕ) (o : Opened (head_arity rules at) (variables_in rules at) (zeros 8) first) where
  -- at the beginning the head's variables are marked
  pub begins_sound : Sound rules at first
  begins_sound v h known = step (dec_lt v (head_arity rules at))
    where
      step : Dec (v < head_arity rules at) → FixedByte rules at v
      step (yes l) = FixedByte.of_head l
      step (no l) = absurd (omega (arith, o.opened v (omega arith) h))

  module _ (values : List ℕ) (keeps : Keeps first values) where
    head_marked : (t : ℕ) → t < head_arity rules at → Valued values t
    head_marked t h l = omega (arith, keeps t (omega (arith, o.earlier t h, zeros_at 8 t)), o.earlier t h, zeros_at 8 t)

    -- what is fixed is marked, once the links lead no further
    fixed_marked : Still rules at values → (t : ℕ) → FixedByte rules at t → Valued values t
    fixed_marked still t (FixedByte.fixed_value h) = λ l. absurd (omega arith)
    fixed_marked still t (FixedByte.of_head h) = head_marked t h
    fixed_marked still t (FixedByte.to_right k h e x) = (still.pures k h).to_right e (fixed_marked still (pure_left rules at k) x)
    fixed_marked still t (FixedByte.to_left k h e x) = (still.pures k h).to_left e (fixed_marked still (pure_right rules at k) x)
    fixed_marked still t (FixedByte.of_field g j h l x) = still.atoms g h (fixed_marked still (atom_address rules at g) x) j l

    -- so an open entry is a variable that is not fixed
    pub not_all_fixed : Still rules at values → variables_in rules at ≤ 8 → opens values ≢ 0 → ¬ AllFixedIn rules at
    not_all_fixed still few some fixes =
        let (v, h, none) = opens_some values some in
        by_cases (dec_lt v (variables_in rules at)) (λ l. omega (arith, fixed_marked still v (fixes v l) (omega arith)))
        (λ n. omega (arith, keeps v (omega (arith, o.later v (omega arith), zeros_at 8 v)), o.later v (omega arith), zeros_at 8 v))

-- and with none, all variables are fixed
pub all_marked : (rules : List ℕ) (at : ℕ) (values : List ℕ) → Sound rules at values → opens values ≡ 0 → AllFixedIn rules at
all_marked rules at values s none v h = s v h (opens_none values none v)
