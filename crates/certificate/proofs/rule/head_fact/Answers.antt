-- `head_fact` packs the head's four positions, those past its arity being 0.
use mathlib.Core.{Path.ap, Path.◌∙◌, List.[], List.◌∷◌}
use Prim.Native.Nat.{ℕ}
use native.Mathlib.Omega.{arith}
use lib.ListN.{take, length-take}
use Rattle.semantics.specs.Fact.{code}
use Rattle.block.specs.Layout.{head_in}
use Rattle.certificate.specs.Line.{given_by}
use Rattle.certificate.proofs.Reading.{code-four}
use Rattle.certificate.proofs.rule.head_fact.Goals as goal

pub returns : goal.returns
returns c =
    let g = c.args in
    let head : ℕ = head_in g.rules.now g.rule in
    c.pack.ensures
    ∙ code-four c.head.result head g.part
    (c.head_argument.result ∷ (c.head_argument-2.result ∷ (c.head_argument-3.result ∷ (c.head_argument-4.result ∷ []))))
    (take c.head_arity-count.result (given_by g.word)) c.head.ensures
    (omega (arith, length-take c.head_arity-count.result (given_by g.word), c.head_arity-count.ensures, c.requires.ready.head_arity_lem))
    c.head_argument.ensures c.head_argument-2.ensures c.head_argument-3.ensures c.head_argument-4.ensures
    ∙ ap (λ (m : ℕ). code head (take m (given_by g.word)) g.part) c.head_arity-count.ensures.0
