-- Two entries made the same. Values that follow then followed before and give both the same value; and values that followed before and do
-- so follow then. Two different values cannot be made the same.
use mathlib.Core.{Bool.Bool, Bool.true, Bool.false, Bool.false≢true, Path.◌≡◌, Path.refl, Path.sym, Path.ap, Path.◌∙◌, Logic.◌≢◌, Logic.◌↔◌, List.List}
use Prim.Native.Nat.{ℕ, ◌+◌, ◌-◌, ◌≤◌}
use native.Mathlib.{Omega.arith, Decide.ℕ_discrete}
use borrow.Author.Tests.{lt-ltb, le-ltb, eq-eqb, ne_eqb}
use lib.Dec.{ltb}
use Rattle.finding.specs.Values.{open_entry}
use Rattle.plain.specs.Classes.{entries_of, Fresh, moved, Replaced, Joined, Follows, Merged}

-- ---- one entry

pub moved_hit : (x y z : ℕ) → z ≡ x → moved x y z ≡ y
moved_hit x y z e = rw (eq-eqb z x e, moved) refl

pub moved_miss : (x y z : ℕ) → z ≢ x → moved x y z ≡ z
moved_miss x y z n = rw (ne_eqb z x n, moved) refl

-- a function that does not tell x from y does not tell what is moved from what was
moved_image : (image : ℕ → ℕ) (x y : ℕ) → image x ≡ image y → (z : ℕ) → image (moved x y z) ≡ image z
moved_image image x y e z = step (ℕ_discrete z x)
  where
    step : Dec (z ≡ x) → image (moved x y z) ≡ image z
    step (yes q) = ap image (moved_hit x y z q) ∙ sym e ∙ ap image (sym q)
    step (no n) = ap image (moved_miss x y z n)

-- y stays, whatever it is
moved_other : (x y : ℕ) → moved x y y ≡ y
moved_other x y = step (ℕ_discrete y x)
  where
    step : Dec (y ≡ x) → moved x y y ≡ y
    step (yes q) = moved_hit x y y q
    step (no n) = moved_miss x y y n

-- ---- replacing

module _ (x y : ℕ) (label : open_entry ≤ x) (before after : List ℕ) (r : Replaced x y before after) (σ : ℕ → ℕ) where
  pub replaced_out : Follows σ after → (f : Follows σ before) × (f.image x ≡ f.image y)
  replaced_out f = (
    record {
      image = λ z. f.image (moved x y z);
      fixes = λ z h. ap f.image (moved_miss x y z (λ e. omega arith)) ∙ f.fixes z h;
      is = λ v h. f.is v h ∙ ap f.image (r v h);
    },
    ap f.image (moved_hit x y x refl ∙ sym (moved_other x y)),
  )

  pub replaced_in : (f : Follows σ before) → f.image x ≡ f.image y → Follows σ after
  replaced_in f e = record {
    image = f.image;
    fixes = f.fixes;
    is = λ v h. f.is v h ∙ sym (ap f.image (r v h) ∙ moved_image f.image x y e (entries_of before v));
  }

-- ---- joining

-- The values that give two entries one value.
module _ (Met : (ℕ → ℕ) → Type 0) (x y : ℕ) (before after : List ℕ) (ok : Bool)
    (gives : (σ : ℕ → ℕ) (f : Follows σ before) → f.image x ≡ f.image y → Met σ) (asks : (σ : ℕ → ℕ) (f : Follows σ before) → Met σ → f.image x ≡ f.image y) where
  pub joined_merged : Joined x y before after ok → Merged Met before after ok
  joined_merged (Joined.same t e s) =
      Merged.merged t
      (λ σ f. let f' : Follows σ before = rw s at f in (f', gives σ f' (ap f'.image e)))
      (λ σ f m. rw s f)
  joined_merged (Joined.left t label r) =
      Merged.merged t
      (λ σ f. let (f', e) = replaced_out x y label before after r σ f in (f', gives σ f' e))
      (λ σ f m. replaced_in x y label before after r σ f (asks σ f m))
  joined_merged (Joined.right t label r) =
      Merged.merged t
      (λ σ f. let (f', e) = replaced_out y x label before after r σ f in (f', gives σ f' (sym e)))
      (λ σ f m. replaced_in y x label before after r σ f (sym (asks σ f m)))
  joined_merged (Joined.clash t small few n) =
      Merged.never t (λ σ f m. n (sym (f.fixes x small) ∙ asks σ f m ∙ f.fixes y few))

-- ---- conditions one after the other

-- nothing to merge
pub merged_still : {Met : (ℕ → ℕ) → Type 0} {classes : List ℕ} → ((σ : ℕ → ℕ) → Met σ) → Merged Met classes classes true
merged_still met = Merged.merged refl (λ σ f. (f, met σ)) (λ σ f m. f)

-- Conditions merged so far: the values that follow are those that meet them.
pub record MergedTo (Met : (ℕ → ℕ) → Type 0) (before after : List ℕ) : Type 0 where
  pub out : (σ : ℕ → ℕ) → Follows σ after → Follows σ before × Met σ
  pub into : (σ : ℕ → ℕ) → Follows σ before → Met σ → Follows σ after

pub merged_done : {Met : (ℕ → ℕ) → Type 0} {before after : List ℕ} {ok : Bool} → ok ≡ true → Merged Met before after ok → MergedTo Met before after
merged_done t (Merged.merged s out into) = record { out = out; into = into }
merged_done t (Merged.never s n) = absurd (false≢true (sym s ∙ t))

pub merged_not : {Met : (ℕ → ℕ) → Type 0} {before after : List ℕ} {ok : Bool} → ok ≡ false → Merged Met before after ok → (σ : ℕ → ℕ) → Follows σ before → ¬ Met σ
merged_not t (Merged.merged s out into) = absurd (false≢true (sym t ∙ s))
merged_not t (Merged.never s n) = n

module _ {Met Next All : (ℕ → ℕ) → Type 0} (first : (σ : ℕ → ℕ) → All σ → Met σ) (second : (σ : ℕ → ℕ) → All σ → Next σ) {before middle : List ℕ}
    (so_far : MergedTo Met before middle) {after : List ℕ} {ok : Bool} where
  pub merged_more : ((σ : ℕ → ℕ) → Met σ → Next σ → All σ) → ok ≡ true → Merged Next middle after ok → MergedTo All before after
  merged_more both t (Merged.merged s out into) = record {
    out = λ σ f. let (g, n) = out σ f in let (h, m) = so_far.out σ g in (h, both σ m n);
    into = λ σ f a. into σ (so_far.into σ f (first σ a)) (second σ a);
  }
  merged_more both t (Merged.never s n) = absurd (false≢true (sym s ∙ t))

  pub merged_never : ok ≡ false → Merged Next middle after ok → (σ : ℕ → ℕ) → Follows σ before → ¬ All σ
  merged_never t (Merged.merged s out into) = absurd (false≢true (sym t ∙ s))
  merged_never t (Merged.never s n) = λ σ f a. n σ (so_far.into σ f (first σ a)) (second σ a)

-- ---- the beginning and the end

-- a value stands for itself, and the label of a variable for the variable's value
abbrev named_by : (ℕ → ℕ) → ℕ → ℕ
named_by σ x = elim (ltb x open_entry) [ true ↦ x | false ↦ σ (x - open_entry) ]

-- where each variable is in a class of its own, all values follow
pub fresh_follows : (classes : List ℕ) → Fresh classes → (σ : ℕ → ℕ) → Follows σ classes
fresh_follows classes fresh σ = record {
  image = named_by σ;
  fixes = λ x h. rw (lt-ltb x open_entry h, named_by) refl;
  is = λ v h. sym (ap (named_by σ) (fresh.labelled v h) ∙ named_label v);
}
  where
    named_label : (v : ℕ) → named_by σ (open_entry + v) ≡ σ v
    named_label v = rw (le-ltb (open_entry + v) open_entry (omega arith), named_by) (ap σ (omega arith))

-- the entries follow themselves
pub self_follows : (classes : List ℕ) → Follows (entries_of classes) classes
self_follows classes = record { image = λ x. x; fixes = λ x h. refl; is = λ v h. refl }

-- what follows once a condition was merged into the beginning is what meets it
pub fresh_merged : {Met : (ℕ → ℕ) → Type 0} {before after : List ℕ} {ok : Bool} → Fresh before → ok ≡ true → Merged Met before after ok
    → (σ : ℕ → ℕ) → Follows σ after ↔ Met σ
fresh_merged {Met} {before} fresh t m σ =
    let done = merged_done {Met = Met} t m in
    (λ f. (done.out σ f).1, λ met. done.into σ (fresh_follows before fresh σ) met)
