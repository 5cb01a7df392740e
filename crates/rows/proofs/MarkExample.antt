-- Places where nil may be written in either way, from bytes: a constant, fields of two records, a value of a question. So `Respelled` is met
-- where it should be, and not for the last value of a list alone.
use mathlib.Core.{Path.refl, List.[], List.◌∷◌, List.◌++◌}
use native.Mathlib.Omega.{arith}
use Rattle.semantics.specs.Faults.{four}
use Rattle.semantics.specs.Marks.{as_zero, as_mark, AtConstant, AtField, AtFieldOf, AtValue, Respelled}

-- two predicates, and the first of two constants; what comes after is not looked at, and ends too soon here
pub constant_respelled : Respelled AtConstant (2 ∷ 1 ∷ 0 ∷ 2 ∷ (as_zero ++ (7 ∷ []))) (2 ∷ 1 ∷ 0 ∷ 2 ∷ (as_mark ++ (7 ∷ [])))
constant_respelled =
    Respelled.marked (2 ∷ 1 ∷ 0 ∷ 2 ∷ []) (7 ∷ []) (record {
      arguments = 1 ∷ 0 ∷ [];
      listed = 2 ∷ [];
      is_front = refl;
      next = record { count = 2; before = 0; values = []; is_front = refl; whole = refl; fewer = omega arith };
    }) Respelled.same

-- 10:(20, nil) 20:(nil): from 0 and 0 to the mark and the mark, one after the other
pub fields_respelled : Respelled AtField (2 ∷ (four 10 ++ (2 ∷ (four 20 ++ (as_zero ++ (four 20 ++ (1 ∷ as_zero)))))))
    (2 ∷ (four 10 ++ (2 ∷ (four 20 ++ (as_mark ++ (four 20 ++ (1 ∷ as_mark)))))))
fields_respelled =
    Respelled.marked (2 ∷ (four 10 ++ (2 ∷ (four 20 ++ (as_mark ++ (four 20 ++ (1 ∷ []))))))) [] (record {
      count = 2;
      records = four 10 ++ (2 ∷ (four 20 ++ (as_mark ++ (four 20 ++ (1 ∷ [])))));
      is_front = refl;
      next =
          AtFieldOf.later 10 0 0 0 2 (four 20 ++ as_mark) (four 20 ++ (1 ∷ [])) refl
          (AtFieldOf.here 20 0 0 0 (1 ∷ []) (record { count = 1; before = 0; values = []; is_front = refl; whole = refl; fewer = omega arith }));
    })
    (Respelled.marked (2 ∷ (four 10 ++ (2 ∷ four 20))) (four 20 ++ (1 ∷ as_zero)) (record {
      count = 2;
      records = four 10 ++ (2 ∷ four 20);
      is_front = refl;
      next = AtFieldOf.here 10 0 0 0 (2 ∷ four 20) (record { count = 2; before = 1; values = four 20; is_front = refl; whole = refl; fewer = omega arith });
    }) Respelled.same)

-- the second of three values
pub value_respelled : Respelled AtValue (1 ∷ 3 ∷ (four 10 ++ (as_mark ++ four 20))) (1 ∷ 3 ∷ (four 10 ++ (as_zero ++ four 20)))
value_respelled =
    Respelled.unmarked (1 ∷ 3 ∷ four 10) (four 20) (record {
      predicate = 1;
      given = 3 ∷ four 10;
      is_front = refl;
      next = record { count = 3; before = 1; values = four 10; is_front = refl; whole = refl; fewer = omega arith };
    }) Respelled.same
