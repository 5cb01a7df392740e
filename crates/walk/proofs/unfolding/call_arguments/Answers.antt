-- `call_arguments` writes the values of the call's terms one after the other over zeros.
use mathlib.Core.Path.{◌≡◌, sym, ◌∙◌}
use Prim.Native.Nat.{◌+◌, ◌≤◌}
use native.Mathlib.Omega.{arith}
use Rattle.words.proofs.Tabulate.{tabulate_in}
use Rattle.block.specs.Layout.{call_as, fixed_in, call_count, call_place, call_arity, call_term}
use Rattle.block.specs.Ready.{TermByte, FixedFits, variables_in}
use Rattle.block.proofs.{Scopes.scoped_of, TermsInBlock.terms_are, Values.terms_same}
use Rattle.finding.proofs.Known.{valued_all, valued_small}
use Rattle.walk.proofs.{Arguments.written_none, Arguments.written_more, Arguments.written_take, Arguments.written_counted, Trying.starts}
use Rattle.walk.proofs.unfolding.call_arguments.Goals as goal

pub loop-j-init : goal.loop-j-init
loop-j-init c = (omega arith, written_none _)

pub call_term-requires : goal.call_term-requires
call_term-requires c =
    (c.requires.0.formed.inside, omega (arith, c.requires.1, c.requires.0.formed.ready.calls_few), omega (arith, c.loop-j-test.true, (let few' : c.call_arity-count.result ≤ 4 = omega (arith, c.call_arity-count.ensures.0, c.requires.0.formed.ready.call_arity_lem c.args.c c.requires.1) in few')))

pub entry-requires : goal.entry-requires
entry-requires c =
    let g = c.args in (
      rw c.call_term.ensures
          (scoped_of (FixedFits g.given.now) (variables_in g.rules.now g.rule) (call_term g.rules.now g.rule g.c c.loop-j.j) c.requires.0.formed.ready.variables_few ((let term' : let g = c.args in
          TermByte (FixedFits g.given.now) (variables_in g.rules.now g.rule) (call_term g.rules.now g.rule g.c c.loop-j.j) = c.requires.0.formed.ready.call_term_lem c.args.c c.requires.1 c.loop-j.j (omega (arith, c.loop-j-test.true, c.call_arity-count.ensures.0)) in term'))),
      c.requires.3.constants_few,
    )

pub bounds-arguments-j : goal.bounds-arguments-j
bounds-arguments-j c = omega (arith, (let few' : c.call_arity-count.result ≤ 4 = omega (arith, c.call_arity-count.ensures.0, c.requires.0.formed.ready.call_arity_lem c.args.c c.requires.1) in few'))

pub loop-j-preserved : goal.loop-j-preserved
loop-j-preserved c =
    let g = c.args in
    let is = rw c.call_term.ensures at c.entry.ensures in
    let known =
    valued_small g.values.now (variables_in g.rules.now g.rule) (fixed_in g.given.now) c.requires.0.formed.ready.variables_few
    (call_term g.rules.now g.rule g.c c.loop-j.j) ((let term' : let g = c.args in
    TermByte (FixedFits g.given.now) (variables_in g.rules.now g.rule) (call_term g.rules.now g.rule g.c c.loop-j.j) = c.requires.0.formed.ready.call_term_lem c.args.c c.requires.1 c.loop-j.j (omega (arith, c.loop-j-test.true, c.call_arity-count.ensures.0)) in term')) (valued_all g.values.now (variables_in g.rules.now g.rule) _ (sym c.requires.2.is)) in
    (omega arith, written_more c.loop-j.invariant.1 (omega (arith, (let few' : c.call_arity-count.result ≤ 4 = omega (arith, c.call_arity-count.ensures.0, c.requires.0.formed.ready.call_arity_lem c.args.c c.requires.1) in few'))) is (omega (arith, is, known)))

pub returns : goal.returns
returns c =
    let g = c.args in
    let all : c.loop-j.j ≡ call_arity g.rules.now g.rule g.c = omega (arith, c.call_arity-count.ensures.0) in
    record {
      all_known = written_counted c.loop-j.invariant.1;
      are_values = rw all at (written_take c.loop-j.invariant.1 (omega (arith, (let few' : c.call_arity-count.result ≤ 4 = omega (arith, c.call_arity-count.ensures.0, c.requires.0.formed.ready.call_arity_lem c.args.c c.requires.1) in few'))))
          ∙ sym (terms_are (fixed_in g.given.now) g.rules.now g.values.now (call_place g.rule g.c + 1) (call_arity g.rules.now g.rule g.c))
          ∙ terms_same (starts c.requires.3 c.requires.0 c.requires.2) (call_as (fixed_in g.given.now) g.rules.now (call_place g.rule g.c)).arguments
          (c.requires.0.well.calls_scoped (call_as (fixed_in g.given.now) g.rules.now (call_place g.rule g.c))
          (tabulate_in (call_count g.rules.now g.rule) (λ i. call_as (fixed_in g.given.now) g.rules.now (call_place g.rule i)) g.c c.requires.1));
    }
