-- `call_fact` packs the call's four positions, those past its arity being 0.
use mathlib.Core.{Path.◌∙◌, List.[], List.◌∷◌}
use Prim.Native.Nat.{◌+◌}
use native.Mathlib.Omega.{arith}
use lib.ListN.{length-map}
use Rattle.semantics.specs.Tree.{value_of, values_of}
use Rattle.block.specs.Layout.{call_in, call_place, call_predicate, call_arity}
use Rattle.block.proofs.RuleInBlock.{terms_counted}
use Rattle.certificate.specs.Line.{given_by}
use Rattle.certificate.proofs.Reading.{code-four}
use Rattle.certificate.proofs.join.call_fact.Goals as goal

pub returns : goal.returns
returns c =
    let g = c.args in
    let terms = (call_in g.rules.now (call_place g.rule g.c)).arguments in
    c.pack.ensures
    ∙ code-four c.call_predicate.result (call_predicate g.rules.now g.rule g.c) g.part
    (c.argument.result ∷ (c.argument-2.result ∷ (c.argument-3.result ∷ (c.argument-4.result ∷ []))))
    (values_of (given_by g.word) terms) c.call_predicate.ensures
    (omega (
      arith,
      length-map terms (value_of (given_by g.word)),
      terms_counted g.rules.now (call_place g.rule g.c + 1) (call_arity g.rules.now g.rule g.c),
      c.requires.0.ready.call_arity_lem g.c c.requires.1,
    ))
    c.argument.ensures c.argument-2.ensures c.argument-3.ensures c.argument-4.ensures
