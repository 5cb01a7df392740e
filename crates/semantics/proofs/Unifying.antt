-- Whether some numbers meet a list of pure conditions can be decided. Every variable begins with a label above all fixed values; an equality
-- replaces a label by the other side's entry, or fails where two different values meet. The entries are numbers themselves: they meet every
-- equality, and if any numbers meet all conditions, these do.
use mathlib.Core.{Bool.true, Bool.false, Path.◌≡◌, Path.refl, Path.sym, Path.ap, Path.◌∙◌, Logic.◌≢◌, Logic.◌⊎◌, Logic.inl, Logic.inr, Logic.⊎_elim}
use mathlib.Core.List.Memᴰ
use mathlib.Core.List.{List, [], ◌∷◌}
use Prim.Native.Nat.{ℕ, suc, ◌+◌, ◌-◌, ◌≤◌, ◌<◌}
use native.Mathlib.{Omega.arith, Decide.ℕ_discrete, Decide.dec_lt}
use lib.Dec.{eqb, ltb}
use borrow.Author.Tests.{eq-eqb, ne_eqb, lt-ltb, le-ltb}
use Rattle.semantics.specs.{Lists.◌among◌, RuleSet.Term, RuleSet.var, RuleSet.fixed, RuleSet.Kind, RuleSet.equal, RuleSet.unequal, RuleSet.Pure, Tree.Compare}
use Rattle.semantics.proofs.Decisions.{all_decided}

-- ---- values of all variables

abbrev pub value : (ℕ → ℕ) → Term → ℕ
value σ (var v) = σ v
value σ (fixed x) = x

abbrev pub Met : (ℕ → ℕ) → Pure → Type 0
Met σ p = Compare p.kind (value σ p.left) (value σ p.right)

pub record Solved (pures : List Pure) : Type 0 where
  pub σ : ℕ → ℕ
  pub meets : (p : Pure) → p among pures → Met σ p

abbrev Equal : (ℕ → ℕ) → Pure → Type 0
Equal σ p = p.kind ≡ equal → value σ p.left ≡ value σ p.right

abbrev Equals : (ℕ → ℕ) → List Pure → Type 0
Equals σ pures = (p : Pure) → p among pures → Equal σ p

abbrev Apart : (ℕ → ℕ) → Pure → Type 0
Apart σ p = p.kind ≡ unequal → value σ p.left ≢ value σ p.right

kinds-differ : equal ≢ unequal
kinds-differ e = let z : ◌≡◌ {A = ℕ} 0 1 = cc in absurd (omega arith)

met_equal : (σ : ℕ → ℕ) (p : Pure) → Met σ p → Equal σ p
met_equal σ p m e = rw (e, Compare) at m

met_apart : (σ : ℕ → ℕ) (p : Pure) → Met σ p → Apart σ p
met_apart σ p m e = rw (e, Compare) at m

met_both : (σ : ℕ → ℕ) (p : Pure) → Equal σ p → Apart σ p → Met σ p
met_both σ p a b = step p.kind refl
  where
    step : (k : Kind) → p.kind ≡ k → Met σ p
    step equal e = rw (e, Compare) (a e)
    step unequal e = rw (e, Compare) (b e)

-- ---- above all fixed values

abbrev Below : ℕ → Term → Type 0
Below top (var v) = Unit {0}
Below top (fixed x) = x < top

abbrev size_of : Term → ℕ
size_of (var v) = 0
size_of (fixed x) = suc x

abbrev top_of : List Pure → ℕ
top_of [] = 0
top_of (p ∷ ps) = size_of p.left + size_of p.right + top_of ps

below_size : (top : ℕ) (t : Term) → size_of t ≤ top → Below top t
below_size top (var v) h = tt
below_size top (fixed x) h = h

top_above : (pures : List Pure) (top : ℕ) → top_of pures ≤ top → (p : Pure) → p among pures → Below top p.left × Below top p.right
top_above [] top h p m = absurd (Memᴰ.not-nil m)
top_above (q ∷ qs) top h p m = step (Memᴰ.cases_cons m) (λ k. top_above qs top (omega arith) p k)
  where
    step : (p ≡ q) ⊎ (p among qs) → (p among qs → Below top p.left × Below top p.right) → Below top p.left × Below top p.right
    step (inl e) rec = rw e (below_size top q.left (omega arith), below_size top q.right (omega arith))
    step (inr k) rec = rec k

module _ (top : ℕ) where
  -- Values that follow the entries: one for each entry, and itself where the entry is a value.
  record Follows (σ entries : ℕ → ℕ) : Type 0 where
    pub image : ℕ → ℕ
    pub fixes : (x : ℕ) → x < top → image x ≡ x
    pub is : (v : ℕ) → σ v ≡ image (entries v)

  value_image : (σ entries : ℕ → ℕ) (f : Follows σ entries) (t : Term) → Below top t → value σ t ≡ f.image (value entries t)
  value_image σ entries f (var v) h = f.is v
  value_image σ entries f (fixed x) h = sym (f.fixes x h)

  -- ---- an entry replaced

  abbrev moved : ℕ → ℕ → ℕ → ℕ
  moved x y z = elim (eqb z x) [ true ↦ y | false ↦ z ]

  moved_hit : (x y z : ℕ) → z ≡ x → moved x y z ≡ y
  moved_hit x y z e = rw (eq-eqb z x e, moved) refl

  moved_miss : (x y z : ℕ) → z ≢ x → moved x y z ≡ z
  moved_miss x y z n = rw (ne_eqb z x n, moved) refl

  moved_image : (image : ℕ → ℕ) (x y : ℕ) → image x ≡ image y → (z : ℕ) → image (moved x y z) ≡ image z
  moved_image image x y e z = elim (ℕ_discrete z x) [
    | yes q ↦ ap image (moved_hit x y z q) ∙ sym e ∙ ap image (sym q)
    | no n ↦ ap image (moved_miss x y z n)
  ]

  moved_other : (x y : ℕ) → moved x y y ≡ y
  moved_other x y = elim (ℕ_discrete y x) [ yes q ↦ moved_hit x y y q | no n ↦ moved_miss x y y n ]

  -- Entries made the same, so that what follows then is what followed before and gives them one value; or none does.
  record Joins (entries : ℕ → ℕ) (x y : ℕ) : Type 0 where
    pub after : ℕ → ℕ
    pub out : (σ : ℕ → ℕ) → Follows σ after → (f : Follows σ entries) × (f.image x ≡ f.image y)
    pub back : (σ : ℕ → ℕ) (f : Follows σ entries) → f.image x ≡ f.image y → Follows σ after

  replaced : (entries : ℕ → ℕ) (x y : ℕ) → top ≤ x → Joins entries x y
  replaced entries x y label = record {
    after = λ v. moved x y (entries v);
    out = λ σ f. (
      record { image = λ z. f.image (moved x y z); fixes = λ z h. ap f.image (moved_miss x y z (λ e. omega arith)) ∙ f.fixes z h; is = f.is },
      ap f.image (moved_hit x y x refl ∙ sym (moved_other x y)),
    );
    back = λ σ f e. record { image = f.image; fixes = f.fixes; is = λ v. f.is v ∙ sym (moved_image f.image x y e (entries v)) };
  }

  joins : (entries : ℕ → ℕ) (x y : ℕ) → Joins entries x y ⊎ ((σ : ℕ → ℕ) (f : Follows σ entries) → f.image x ≢ f.image y)
  joins entries x y = step (dec_lt x top) (dec_lt y top) (ℕ_discrete x y)
    where
      step : Dec (x < top) → Dec (y < top) → Dec (x ≡ y) → Joins entries x y ⊎ ((σ : ℕ → ℕ) (f : Follows σ entries) → f.image x ≢ f.image y)
      step (no n) d e = inl (replaced entries x y (omega arith))
      step (yes h) (no n) e =
          let j = replaced entries y x (omega arith) in
          inl (record { after = j.after; out = λ σ f. let (g, q) = j.out σ f in (g, sym q); back = λ σ f q. j.back σ f (sym q) })
      step (yes h) (yes l) (yes e) = inl (record { after = entries; out = λ σ f. (f, ap f.image e); back = λ σ f q. f })
      step (yes h) (yes l) (no n) = inr (λ σ f q. n (sym (f.fixes x h) ∙ q ∙ f.fixes y l))

  -- ---- all equalities

  record Merges (entries : ℕ → ℕ) (pures : List Pure) : Type 0 where
    pub after : ℕ → ℕ
    pub out : (σ : ℕ → ℕ) → Follows σ after → Follows σ entries × Equals σ pures
    pub back : (σ : ℕ → ℕ) → Follows σ entries → Equals σ pures → Follows σ after

  abbrev Never : (ℕ → ℕ) → List Pure → Type 0
  Never entries pures = (σ : ℕ → ℕ) → Follows σ entries → ¬ Equals σ pures

  -- one condition before others
  module _ (entries : ℕ → ℕ) (p : Pure) (ps : List Pure) (small : Below top p.left × Below top p.right) where
    skips : p.kind ≡ unequal → Merges entries ps ⊎ Never entries ps → Merges entries (p ∷ ps) ⊎ Never entries (p ∷ ps)
    skips u (inr n) = inr (λ σ f e. n σ f (λ q m. e q (Memᴰ.tail m)))
    skips u (inl w) = inl (record {
      after = w.after;
      out = λ σ f. let (g, e) = w.out σ f in (g, λ q m. ⊎_elim (λ r. rw r (λ k. absurd (kinds-differ (sym k ∙ u)))) (e q) (Memᴰ.cases_cons m));
      back = λ σ f e. w.back σ f (λ q m. e q (Memᴰ.tail m));
    })

    module _ (is : p.kind ≡ equal) where
      gives : (σ : ℕ → ℕ) (f : Follows σ entries) → f.image (value entries p.left) ≡ f.image (value entries p.right) → Equal σ p
      gives σ f e k = value_image σ entries f p.left small.0 ∙ e ∙ sym (value_image σ entries f p.right small.1)

      asks : (σ : ℕ → ℕ) (f : Follows σ entries) → Equal σ p → f.image (value entries p.left) ≡ f.image (value entries p.right)
      asks σ f e = sym (value_image σ entries f p.left small.0) ∙ e is ∙ value_image σ entries f p.right small.1

      fails : ((σ : ℕ → ℕ) (f : Follows σ entries) → f.image (value entries p.left) ≢ f.image (value entries p.right)) → Never entries (p ∷ ps)
      fails n σ f e = n σ f (asks σ f (e p (Memᴰ.head refl)))

      merges : (j : Joins entries (value entries p.left) (value entries p.right)) → Merges j.after ps ⊎ Never j.after ps → Merges entries (p ∷ ps) ⊎ Never entries (p ∷ ps)
      merges j (inr n) = inr (λ σ f e. n σ (j.back σ f (asks σ f (e p (Memᴰ.head refl)))) (λ q m. e q (Memᴰ.tail m)))
      merges j (inl w) = inl (record {
        after = w.after;
        out = λ σ f.
            let (g, e) = w.out σ f in
            let (h, q) = j.out σ g in
            (h, λ r m. ⊎_elim (λ s. rw s (gives σ h q)) (e r) (Memᴰ.cases_cons m));
        back = λ σ f e. w.back σ (j.back σ f (asks σ f (e p (Memᴰ.head refl)))) (λ q m. e q (Memᴰ.tail m));
      })

  merge : (pures : List Pure) → ((p : Pure) → p among pures → Below top p.left × Below top p.right) → (entries : ℕ → ℕ) → Merges entries pures ⊎ Never entries pures
  merge [] small entries = inl (record { after = entries; out = λ σ f. (f, λ p m. absurd (Memᴰ.not-nil m)); back = λ σ f e. f })
  merge (p ∷ ps) small entries = step p.kind refl (λ next. merge ps (λ q m. small q (Memᴰ.tail m)) next)
    where
      here : Below top p.left × Below top p.right
      here = small p (Memᴰ.head refl)

      step : (k : Kind) → p.kind ≡ k → ((next : ℕ → ℕ) → Merges next ps ⊎ Never next ps) → Merges entries (p ∷ ps) ⊎ Never entries (p ∷ ps)
      step unequal e rec = skips entries p ps here e (rec entries)
      step equal e rec =
          ⊎_elim (λ j. merges entries p ps here e j (rec j.after)) (λ n. inr (fails entries p ps here e n))
          (joins entries (value entries p.left) (value entries p.right))

  -- ---- the beginning

  abbrev named_by : (ℕ → ℕ) → ℕ → ℕ
  named_by σ x = elim (ltb x top) [ true ↦ x | false ↦ σ (x - top) ]

  fresh_follows : (σ : ℕ → ℕ) → Follows σ (λ v. top + v)
  fresh_follows σ = record {
    image = named_by σ;
    fixes = λ x h. rw (lt-ltb x top h, named_by) refl;
    is = λ v. sym (rw (le-ltb (top + v) top (omega arith), named_by) (ap σ (omega arith)));
  }

-- Whether some numbers meet all conditions.
pub solved_decided : (pures : List Pure) → Dec (Solved pures)
solved_decided pures = step (merge top pures (top_above pures top (omega arith)) (λ v. top + v))
  where
    top : ℕ
    top = top_of pures

    apart_decided : (σ : ℕ → ℕ) (p : Pure) → Dec (Apart σ p)
    apart_decided σ p = by p.kind refl (ℕ_discrete (value σ p.left) (value σ p.right))
      where
        by : (k : Kind) → p.kind ≡ k → Dec (value σ p.left ≡ value σ p.right) → Dec (Apart σ p)
        by equal e d = yes (λ u. absurd (kinds-differ (sym e ∙ u)))
        by unequal e (yes q) = no (λ a. a e q)
        by unequal e (no n) = yes (λ u. n)

    apart_back : (σ entries : ℕ → ℕ) → Follows top σ entries → (p : Pure) → p among pures → Apart σ p → Apart entries p
    apart_back σ entries f p m a u e =
        let (l, r) = top_above pures top (omega arith) p m in
        a u (value_image top σ entries f p.left l ∙ ap f.image e ∙ sym (value_image top σ entries f p.right r))

    answer : (w : Merges top (λ v. top + v) pures) → Dec ((p : Pure) → p among pures → Apart w.after p) → Dec (Solved pures)
    answer w (yes a) =
        let (f, e) = w.out w.after (record { image = λ x. x; fixes = λ x h. refl; is = λ v. refl }) in
        yes (record { σ = w.after; meets = λ p m. met_both w.after p (e p m) (a p m) })
    answer w (no n) =
        no (λ s. n (λ p m. apart_back s.σ w.after
        (w.back s.σ (fresh_follows top s.σ) (λ q k. met_equal s.σ q (s.meets q k))) p m (met_apart s.σ p (s.meets p m))))

    step : Merges top (λ v. top + v) pures ⊎ Never top (λ v. top + v) pures → Dec (Solved pures)
    step (inl w) = answer w (all_decided (Apart w.after) pures (λ p m. apart_decided w.after p))
    step (inr n) = no (λ s. n s.σ (fresh_follows top s.σ) (λ q k. met_equal s.σ q (s.meets q k)))
