-- Turns along all links of a rule. A turn that learns nothing leaves the values as they were, so each link leads from them back to them.
use mathlib.Core.{List.List, Path.◌≡◌, Path.refl, Path.sym}
use Prim.Native.Nat.{ℕ, ◌<◌}
use native.Mathlib.Omega.{arith}
use lib.ListN.{length}
use Rattle.block.specs.Layout.{pure_count, pure_left, pure_right, atom_count, atom_field}
use Rattle.block.specs.Ready.{variables_in}
use Rattle.finding.specs.Values.{opens}
use Rattle.finding.specs.Links.{Keeps, AgreesTo, PureClosed, PureMet, AlongPures, AtomClosed, AtomHas, AlongAtomsAs}
use Rattle.finding.proofs.Opens.{same_known}
use Rattle.finding.proofs.{Learning.keeps_then, Equalities.pure_stays, Fields.atom_stays, Known.valued_all}

-- The rule's conditions hold and its records are there.
pub record Met (value : ℕ → ℕ) (rules : List ℕ) (at : ℕ) (heap σ : List ℕ) : Type 0 where
  pub pures : (k : ℕ) → k < pure_count rules at → PureMet value rules at k σ
  pub atoms : (g : ℕ) → g < atom_count rules at → AtomHas value rules at heap g σ

-- Some turns lead from the first values to these.
pub record Sought (value : ℕ → ℕ) (rules : List ℕ) (at : ℕ) (heap first values : List ℕ) : Type 0 where
  pub keeps : Keeps first values
  pub agrees : (σ : List ℕ) → Met value rules at heap σ → AgreesTo (variables_in rules at) first σ → AgreesTo (variables_in rules at) values σ

-- Each link leads from the values back to them.
pub record Still (rules : List ℕ) (at : ℕ) (heap values : List ℕ) : Type 0 where
  pub pures : (k : ℕ) → k < pure_count rules at → PureClosed rules at k values values
  pub atoms : (g : ℕ) → g < atom_count rules at → AtomClosed rules at heap g values values

module _ (value : ℕ → ℕ) (rules : List ℕ) (at : ℕ) (heap : List ℕ) where
  pub sought_none : (values : List ℕ) → Sought value rules at heap values values
  sought_none values = record { keeps = λ v h. refl; agrees = λ σ met agrees. agrees }

  module _ (before middle after : List ℕ) (along-pures : AlongPures value rules at before middle)
      (along-atoms : AlongAtomsAs (atom_count rules at) value rules at heap middle after) where
    pub turn_keeps : Keeps before after
    turn_keeps = keeps_then before middle after along-pures.keeps along-atoms.keeps

    pub sought_more : (first : List ℕ) → Sought value rules at heap first before → Sought value rules at heap first after
    sought_more first s = record {
      keeps = keeps_then first before after s.keeps turn_keeps;
      agrees = λ σ met agrees. along-atoms.agrees σ met.atoms (along-pures.agrees σ met.pures (s.agrees σ met agrees));
    }

    -- a turn that learns nothing
    module _ (long : length before ≡ length after) (same : opens after ≡ opens before) where
      turned_back : Keeps after before
      turned_back v h = sym (turn_keeps v (same_known before after long (λ w l. omega (arith, turn_keeps w l)) same v h))

      pub still_turn : Still rules at heap after
      still_turn = record {
        pures = λ k h. pure_stays rules at k after before middle after turned_back (along-pures.closed k h) along-atoms.keeps;
        atoms = λ g h.
            atom_stays rules at heap g after middle after after (keeps_then after before middle turned_back along-pures.keeps) (along-atoms.closed g h)
            (λ v l. refl);
      }

-- no variable is open
pub still_all : (rules : List ℕ) (at : ℕ) (heap values : List ℕ) → opens values ≡ 0 → Still rules at heap values
still_all rules at heap values none =
    let n = variables_in rules at in
    record {
      pures = λ k h. record { to_right = λ e v. valued_all values n (pure_right rules at k) none; to_left = λ e v. valued_all values n (pure_left rules at k) none };
      atoms = λ g h. record { fields = λ i below sized l is j s. valued_all values n (atom_field rules at g j) none };
    }
