-- The values found for a rule's variables. If every variable is fixed and the rule applies, each has a value found, by induction on how it
-- is fixed: the record at the address of an atom is the one that the atom takes. So the rule applies with no other values.
use mathlib.Core.{Path.◌≡◌, Path.refl, Path.sym, Path.ap, Path.◌∙◌, Option.Option, Option.none, Option.some, Option.none-ne-some, List.List, List.◌++◌}
use Prim.Native.Nat.{ℕ, ◌<◌}
use native.Mathlib.Omega.{arith}
use lib.{ListN.length, ListN.get_or, ListN.length-append, ListN.length-map, Seq.ext_get_or}
use Rattle.semantics.specs.{Lists.◌among◌, Heap.Record, Heap.Heap, Tree.value_of, Tree.Applies, Plain.Fixed, Plain.AllFixed}
use Rattle.semantics.specs.RuleSet.{Term, var, PointsTo, Rule, RuleSet}
use Rattle.semantics.specs.Found.{Known, Has, Agrees, AllFound}
use Rattle.semantics.proofs.Addresses.{taken_by}

module _ {rule_set : RuleSet} {heap : Heap} {rule : Rule} {arguments : List ℕ} {env : Known} (found : AllFound rule_set heap rule arguments env)
    {bound indices : List ℕ} (a : Applies rule_set heap rule arguments bound indices) where
  field_found : {atom : PointsTo} {term : Term} → atom among rule.points_to → term among atom.fields → Has env (var atom.address) → Has env term
  field_found {atom} m k (x, e) =
      let r = taken_by a.takes m in
      found.of_field m k r.index r.below (ap (λ (z : Record). length z.fields) r.is ∙ length-map atom.fields (value_of (arguments ++ bound)))
      (e ∙ ap {B = Option ℕ} some (sym (found.agrees a atom.address x e) ∙ sym (ap (λ (z : Record). z.address) r.is)))

  fixed_found : {term : Term} → Fixed rule_set rule term → Has env term
  fixed_found Fixed.fixed_value = (_, refl)
  fixed_found (Fixed.of_head {v = v} h) = (get_or arguments v 0, found.heads v (omega (arith, a.arguments_counted)))
  fixed_found (Fixed.to_right m f) = found.to_right m (fixed_found f)
  fixed_found (Fixed.to_left m f) = found.to_left m (fixed_found f)
  fixed_found (Fixed.of_field m k f) = field_found m k (fixed_found f)

  module _ (fixes : AllFixed rule_set rule) where
    pub all_found : (v : ℕ) → v < length env → Has env (var v)
    all_found v h = fixed_found (fixes v (omega (arith, found.long, a.arguments_counted)))

    -- no variable is open
    pub none_open : (v : ℕ) → v < length env → ¬ (get_or env v (some 0) ≡ none)
    none_open v h e = let (x, q) = all_found v h in none-ne-some x (sym e ∙ q)

    -- The values found are those that the rule applies with.
    pub found_values : (σ : List ℕ) → length σ ≡ length env → Agrees env σ → σ ≡ arguments ++ bound
    found_values σ long agrees =
        ext_get_or 0 σ (arguments ++ bound) (omega (arith, found.long, length-append arguments bound, a.bound_counted))
        (λ v h. let (x, e) = all_found v (omega arith) in agrees v x e ∙ sym (found.agrees a v x e))
