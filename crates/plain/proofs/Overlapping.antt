-- Two rules over merged classes. The entries are values that meet all equalities; if they meet the other conditions too, the rules overlap.
-- And any values that meet everything follow the classes, so the entries of two sides that they tell apart differ.
use mathlib.Core.{Path.sym, Path.ap, Path.◌∙◌, List.List}
use Prim.Native.Nat.{ℕ}
use Rattle.block.specs.Layout.{fixed_in, head_arity, pure_count, pure_left, pure_right}
use Rattle.block.specs.Ready.{FormedRead, variables_in}
use Rattle.plain.specs.Classes.{entries_of, Follows, ClassesOf, EqualsMet, UnequalsMet, SideMet, Overlaps}
use Rattle.plain.proofs.{Seats.entry_image, Merging.MergedTo, Merging.self_follows}

-- what values tell apart, the entries do
unequals_back : (given rules : List ℕ) (at shared : ℕ) → FormedRead given rules at → (σ : ℕ → ℕ) (classes : List ℕ) → Follows σ classes
    → UnequalsMet (fixed_in given) rules at shared (pure_count rules at) σ → UnequalsMet (fixed_in given) rules at shared (pure_count rules at) (entries_of classes)
unequals_back given rules at shared f σ classes follows met k h n e =
    met k h n
    (entry_image (fixed_in given) shared (variables_in rules at) (pure_left rules at k) f.ready.variables_few (f.ready.pure_left_lem k h) σ classes follows
    ∙ ap follows.image e
    ∙ sym (entry_image (fixed_in given) shared (variables_in rules at) (pure_right rules at k) f.ready.variables_few (f.ready.pure_right_lem k h) σ classes follows))

-- a rule whose own conditions the entries of its classes do not meet is met by nothing
pub unmet_alone : (given rules : List ℕ) (at : ℕ) → FormedRead given rules at → (classes : List ℕ) → ClassesOf (fixed_in given) rules at classes
    → ¬ UnequalsMet (fixed_in given) rules at 8 (pure_count rules at) (entries_of classes) → (σ : ℕ → ℕ) → ¬ SideMet (fixed_in given) rules at 8 σ
unmet_alone given rules at f classes is n σ met = n (unequals_back given rules at 8 f σ classes ((is σ).1 met.equals) met.unequals)

module _ (given rules : List ℕ) (at other : ℕ) (f : FormedRead given rules at) (o : FormedRead given rules other) (classes both : List ℕ) (is : ClassesOf (fixed_in given) rules at classes) where
  -- the second rule's equalities cannot be merged
  pub never_overlap : ((σ : ℕ → ℕ) → Follows σ classes → ¬ EqualsMet (fixed_in given) rules other (head_arity rules at) (pure_count rules other) σ) → ¬ Overlaps (fixed_in given) rules at other
  never_overlap never w = never w.σ ((is w.σ).1 w.first.equals) w.second.equals

  module _ (m : MergedTo (EqualsMet (fixed_in given) rules other (head_arity rules at) (pure_count rules other)) classes both) where
    follows_both : (w : Overlaps (fixed_in given) rules at other) → Follows w.σ both
    follows_both w = m.into w.σ ((is w.σ).1 w.first.equals) w.second.equals

    pub first_apart : Overlaps (fixed_in given) rules at other → UnequalsMet (fixed_in given) rules at 8 (pure_count rules at) (entries_of both)
    first_apart w = unequals_back given rules at 8 f w.σ both (follows_both w) w.first.unequals

    pub second_apart : Overlaps (fixed_in given) rules at other → UnequalsMet (fixed_in given) rules other (head_arity rules at) (pure_count rules other) (entries_of both)
    second_apart w = unequals_back given rules other (head_arity rules at) o w.σ both (follows_both w) w.second.unequals

    pub overlaps : UnequalsMet (fixed_in given) rules at 8 (pure_count rules at) (entries_of both)
        → UnequalsMet (fixed_in given) rules other (head_arity rules at) (pure_count rules other) (entries_of both) → Overlaps (fixed_in given) rules at other
    overlaps one two =
        let (follows, equals) = m.out (entries_of both) (self_follows both) in
        record { σ = entries_of both; first = record { equals = (is (entries_of both)).0 follows; unequals = one }; second = record { equals = equals; unequals = two } }
