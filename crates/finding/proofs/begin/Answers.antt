-- `begin` opens the bound variables together; each had a value, since no entry was open.
use mathlib.Core.Path.{◌≡◌, sym, ap, ◌∙◌}
use mathlib.Core.{List.List}
use Prim.Native.Nat.{ℕ, ◌+◌, ◌-◌, ◌≤◌}
use native.Mathlib.Omega.{arith}
use lib.ListN.{length, replicate}
use borrow.Rule.Slice.PartMut.{mid_len}
use Rattle.finding.specs.{Values.open_entry, Found.Opened}
use Rattle.finding.proofs.Opens.{opened_from, opened_together, opens_together, length-opened}
use Rattle.finding.proofs.begin.Goals as goal

pub returns : goal.returns
returns c =
    let arity : ℕ = c.head_arity-arity.result in
    let count : ℕ = c.variable_count-count.result in
    let values : List ℕ = c.args.values.now in
    let inside : arity + (count - arity) ≤ length values = omega (arith, c.requires.0.ready.variables_few, c.variable_count-count.ensures, c.head_arity-arity.ensures, c.requires.1.eight) in
    let sum : arity + (count - arity) ≡ count = omega (arith, c.variable_count-count.ensures, c.head_arity-arity.ensures) in
    let filled : c.fill.new.self ≡ replicate (count - arity) open_entry = c.fill.ensures.after (λ y h. h) ∙ ap (λ (n : ℕ). replicate n open_entry) (mid_len arity count values (omega (arith, inside))) in
    let opened : Opened arity count values (opened_from arity (count - arity) values) = rw sum at (opened_together arity (count - arity) values inside) in (
      rw (filled, ← c.variable_count-count.ensures, ← c.head_arity-arity.ensures.0) opened,
      rw filled (record {
        eight = length-opened arity (count - arity) values inside ∙ c.requires.1.eight;
        is = sym (opens_together arity (count - arity) values (sym c.requires.1.is) inside);
      }),
    )
