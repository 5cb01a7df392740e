-- What holds of every public call by its shape alone. A ladder has one outcome, so the reading and the lent memory decide the way out;
-- and a number that the other ways out cannot give is given exactly on its own.
use mathlib.Core.{Path.◌≡◌, Path.sym, Path.◌∙◌, Logic.◌↔◌, Logic.◌≢◌}
use Prim.Native.Nat.{ℕ}
use native.Mathlib.Omega.{arith}
use Rattle.semantics.specs.{Reader.Result, Reader.accepted, Reader.refused, Refusals.memory_size, Served.Served}

-- ---- ladders

abbrev pub OneOutcome : {A : Type 0} → (Result A → Type 0) → Type 0
OneOutcome {A} Reads = (r s : Result A) → Reads r → Reads s → r ≡ s

-- a ladder that is a function
pub computed : {A : Type 0} (x : Result A) → OneOutcome (λ (r : Result A). x ≡ r)
computed x r s e f = sym e ∙ f

module _ {A : Type 0} {Reads : Result A → Type 0} (one : OneOutcome Reads) where
  pub same_input : {a b : A} → Reads (accepted a) → Reads (accepted b) → a ≡ b
  same_input {a} {b} h k = let e = one (accepted a) (accepted b) h k in cc

  pub same_number : {m n : ℕ} → Reads (refused m) → Reads (refused n) → m ≡ n
  same_number {m} {n} h k = let e = one (refused m) (refused n) h k in cc

  pub clash : {a : A} {n : ℕ} → Reads (accepted a) → Reads (refused n) → ⊥
  clash {a} {n} h k =
      let e = one (accepted a) (refused n) h k in
      let z : ◌≡◌ {A = ℕ} 0 1 = cc in
      omega arith

  module _ {Lends : Type 0} where
    -- ---- the way out is decided

    module _ {Refuses : ℕ → Type 0} {Answered : A → Type 0} where
      pub served_unread : Served Reads Lends Refuses Answered → {n : ℕ} → Reads (refused n) → Refuses n
      served_unread (Served.unread m h k) g = rw (same_number g h) k
      served_unread (Served.unlent a h l k) g = absurd (clash h g)
      served_unread (Served.answered a h l k) g = absurd (clash h g)

      pub served_unlent : Served Reads Lends Refuses Answered → {a : A} → Reads (accepted a) → ¬ Lends → Refuses memory_size
      served_unlent (Served.unread m h k) g n = absurd (clash g h)
      served_unlent (Served.unlent a h l k) g n = k
      served_unlent (Served.answered a h l k) g n = absurd (n l)

      pub served_answered : Served Reads Lends Refuses Answered → {a : A} → Reads (accepted a) → Lends → Answered a
      served_answered (Served.unread m h k) g l = absurd (clash g h)
      served_answered (Served.unlent a h n k) g l = absurd (n l)
      served_answered (Served.answered a h l k) g l' = rw (same_input g h) k

    -- two servings of one input
    pub served_both : {R S : ℕ → Type 0} {P Q : A → Type 0} {C : Type 0} → Served Reads Lends R P → Served Reads Lends S Q → ((n : ℕ) → R n → S n → C)
        → ((a : A) → P a → Q a → C) → C
    served_both (Served.unread n h k) s refusals answers = refusals n k (served_unread s h)
    served_both (Served.unlent a h l k) s refusals answers = refusals memory_size k (served_unlent s h l)
    served_both (Served.answered a h l k) s refusals answers = answers a k (served_answered s h l)

    -- ---- numbers are exact

    -- `number` is the refusal that the reply shows
    module _ {Refuses : ℕ → Type 0} {Answered : A → Type 0} (number : ℕ) (shown : (n : ℕ) → Refuses n → number ≡ n) where
      -- a number of the ladder
      pub unread_exactly : (n : ℕ) → n ≢ memory_size → ((a : A) → Answered a → number ≢ n) → Served Reads Lends Refuses Answered → (number ≡ n) ↔ Reads (refused n)
      unread_exactly n other own s = (by s, λ h. shown n (served_unread s h))
        where
          by : Served Reads Lends Refuses Answered → number ≡ n → Reads (refused n)
          by (Served.unread m h k) e = rw (sym (sym (shown m k) ∙ e)) h
          by (Served.unlent a h l k) e = absurd (other (sym e ∙ shown memory_size k))
          by (Served.answered a h l k) e = absurd (own a k e)

      -- the number of the lent memory
      pub unlent_exactly : ¬ Reads (refused memory_size) → ((a : A) → Answered a → number ≢ memory_size) → Served Reads Lends Refuses Answered
          → (number ≡ memory_size) ↔ ((a : A) × Reads (accepted a) × ¬ Lends)
      unlent_exactly never own s = (by s, λ (a, h, n). shown memory_size (served_unlent s h n))
        where
          by : Served Reads Lends Refuses Answered → number ≡ memory_size → (a : A) × Reads (accepted a) × ¬ Lends
          by (Served.unread m h k) e = absurd (never (rw (sym (sym (shown m k) ∙ e)) h))
          by (Served.unlent a h l k) e = (a, h, l)
          by (Served.answered a h l k) e = absurd (own a k e)

      -- a number of the answer, 0 among them, which it gives where `Due` is true of what was read
      pub answered_exactly : (n : ℕ) {Due : A → Type 0} → n ≢ memory_size → ¬ Reads (refused n) → ((a : A) → Answered a → (number ≡ n) ↔ Due a) → Served Reads Lends Refuses Answered
          → (number ≡ n) ↔ ((a : A) × Reads (accepted a) × Lends × Due a)
      answered_exactly n {Due} other never own s = (by s, λ (a, h, l, d). (own a (served_answered s h l)).1 d)
        where
          by : Served Reads Lends Refuses Answered → number ≡ n → (a : A) × Reads (accepted a) × Lends × Due a
          by (Served.unread m h k) e = absurd (never (rw (sym (sym (shown m k) ∙ e)) h))
          by (Served.unlent a h l k) e = absurd (other (sym e ∙ shown memory_size k))
          by (Served.answered a h l k) e = (a, h, l, (own a k).0 e)

-- ---- a call can be served

-- With an outcome for each refusal and for each answer, there is one for every input: X is the type of outcomes.
pub serves : {A X : Type 0} {Reads : Result A → Type 0} {Lends : Type 0} {Refuses : X → ℕ → Type 0} {Answered : X → A → Type 0} (r : Result A) → Reads r → Dec Lends
    → ((n : ℕ) → (x : X) × Refuses x n) → ((a : A) → Reads (accepted a) → Lends → (x : X) × Answered x a) → (x : X) × Served Reads Lends (Refuses x) (Answered x)
serves (refused n) h d refusal answer = let (x, k) = refusal n in (x, Served.unread n h k)
serves (accepted a) h (no n) refusal answer = let (x, k) = refusal memory_size in (x, Served.unlent a h n k)
serves (accepted a) h (yes l) refusal answer = let (x, k) = answer a h l in (x, Served.answered a h l k)
