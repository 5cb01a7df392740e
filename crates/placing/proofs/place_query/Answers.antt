-- `place_query` meets its contract. After i turns the first i positions are written and the others are 0.
use Prim.Native.Nat.{ℕ, ◌+◌}
use mathlib.Core.{Path.◌≡◌, Path.sym, Path.ap, Path.◌∙◌, List.map}
use native.Mathlib.Omega.{arith}
use lib.{ListN.length, ListN.get_or}
use Rattle.semantics.specs.Fact.{position}
use Rattle.semantics.proofs.Coding.{get_d_in}
use Rattle.words.proofs.Tabulate.{tabulate-map, tabulate_same, tabulate-get_or}
use Rattle.placing.proofs.place_query.Goals as goal

pub position-requires : goal.position-requires
position-requires c =
    c.requires.1 _ (get_d_in c.args.values.now c.loop-i.i (omega arith))

pub returns : goal.returns
returns c =
    let s = c.args in
    let l = c.loop-i in
    let n : ℕ = length s.values.now in
    record {
      is = tabulate_same n (λ (j : ℕ). get_or l.positions (0 + j) 0) (λ (j : ℕ). position s.domain.now (get_or s.values.now j 0))
          (λ j b. let e : 0 + j ≡ j = omega arith in rw e (l.invariant.2 j (omega (arith, b))))
          ∙ sym (tabulate-map (position s.domain.now) n (λ (j : ℕ). get_or s.values.now j 0)) ∙ ap (map (position s.domain.now)) (tabulate-get_or s.values.now 0);
      unused = λ j h. l.invariant.3 j (omega (arith, h));
    }
