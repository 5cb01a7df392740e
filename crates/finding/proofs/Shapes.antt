-- A rule's bytes without what is asked of its fixed values.
use mathlib.Core.{Logic.inl, Logic.inr, Logic.⊎_elim, List.List}
use Prim.Native.Nat.{ℕ}
use Rattle.block.specs.Ready.{TermByte, FormedRule}
use Rattle.finding.specs.Values.{Shaped}

plain_byte : (Fixed : ℕ → Type 0) (n b : ℕ) → TermByte Fixed n b → TermByte (λ t. Unit {0}) n b
plain_byte Fixed n b t = ⊎_elim (λ l. inl l) (λ f. inr (f.0, tt)) t

pub shaped : {Fixed : ℕ → Type 0} {rules : List ℕ} {at : ℕ} → FormedRule Fixed rules at → Shaped rules at
shaped {Fixed} f = record {
  inside = f.inside;
  ready = record {
    head_named = f.ready.head_named;
    head_few = f.ready.head_few;
    head_arity_lem = f.ready.head_arity_lem;
    variables_few = f.ready.variables_few;
    pures_few = f.ready.pures_few;
    atoms_few = f.ready.atoms_few;
    calls_few = f.ready.calls_few;
    pure_left_lem = λ k h. plain_byte Fixed _ _ (f.ready.pure_left_lem k h);
    pure_right_lem = λ k h. plain_byte Fixed _ _ (f.ready.pure_right_lem k h);
    atom_address_lem = f.ready.atom_address_lem;
    atom_count_lem = f.ready.atom_count_lem;
    atom_field_lem = λ k h j l. plain_byte Fixed _ _ (f.ready.atom_field_lem k h j l);
    call_named = f.ready.call_named;
    call_few = f.ready.call_few;
    call_arity_lem = f.ready.call_arity_lem;
    call_term_lem = λ k h j l. plain_byte Fixed _ _ (f.ready.call_term_lem k h j l);
  };
}
