-- Loops over the ids of a table, and their laws. A step is a function of an id and of what the loop changes.
use Rattle.std.specs.Prelude.{Bool, false, ◌&&◌, ◌||◌, ◌≡◌}
use Rattle.std.proofs.Math.Bool.{true, and-false, or-true}
use Rattle.std.proofs.lemmas.Bool.{false≢true}
use Rattle.std.proofs.Math.Path.{refl, ap, sym}
use Rattle.std.proofs.Common.{ap₂, ◌∙◌, eq-or-lt_of_le}
use Rattle.std.proofs.Math.Logic.{⊎_elim}
use Prim.Native.Nat.{ℕ, zero, suc, ◌+◌, ◌-◌, ◌<◌, ◌≤◌}
use Rattle.std.proofs.Math.Nat.{sub-zero}
use Rattle.std.proofs.Math.Numerals.{add-one, sub-one}
use native.Mathlib.Omega.{arith}
use borrow.Author.Tests.{leb-true, leb-false}
use Rattle.base.specs.Tests.{when◌then◌else◌, ◌≤?◌, by_test, both_pass, pass_both}

-- ---- definitions

module _ {A : Type 0} where
  -- the step at 0, 1, .. n - 1, in this order
  unfoldable pub ascending : (ℕ → A → A) → ℕ → A → A
  ascending step zero x = x
  ascending step (suc k) x = step k (ascending step k x)

  -- the step at n - 1, .. 1, 0, in this order
  unfoldable pub descending : (ℕ → A → A) → ℕ → A → A
  descending step zero x = x
  descending step (suc k) x = descending step k (step k x)

-- some id below n passes the test
unfoldable pub some : (ℕ → Bool) → ℕ → Bool
some test zero = false
some test (suc k) = some test k || test k

-- every id below n passes the test
unfoldable pub every : (ℕ → Bool) → ℕ → Bool
every test zero = true
every test (suc k) = every test k && test k

-- the first of i, i + 1, .. that passes the test, among so many; the number past them where none does
unfoldable pub first : (ℕ → Bool) → ℕ → ℕ → ℕ
first test zero i = i
first test (suc k) i = when test i then i else first test k (i + 1)

-- one past the last id below n that passes the test; 0 where none does
unfoldable pub past_last : (ℕ → Bool) → ℕ → ℕ
past_last test zero = 0
past_last test (suc k) = when test k then suc k else past_last test k

-- how many ids below n pass the test
unfoldable pub passing : (ℕ → Bool) → ℕ → ℕ
passing test zero = 0
passing test (suc k) = passing test k + (when test k then 1 else 0)

-- ---- laws of `ascending`: before the first turn, one turn, the end; and turns that change nothing

module _ {A : Type 0} (step : ℕ → A → A) where
  pub ascending_none : (x : A) → x ≡ ascending step 0 x
  unfolding ascending
  ascending_none x = refl

  pub ascending_more : (i : ℕ) (x : A) {y z : A} → y ≡ ascending step i x → z ≡ step i y → z ≡ ascending step (i + 1) x
  unfolding ascending
  ascending_more i x p q = rw add-one (q ∙ ap (step i) p)

  pub ascending_done : (i n : ℕ) (x : A) {y : A} → i ≡ n → y ≡ ascending step i x → y ≡ ascending step n x
  ascending_done i n x e p = rw (← e) p

  pub ascending_idle : (n : ℕ) (x : A) → ((k : ℕ) → k < n → step k x ≡ x) → ascending step n x ≡ x
  unfolding ascending
  ascending_idle zero x idle = refl
  ascending_idle (suc n) x idle = ap (step n) (ascending_idle n x (λ k h. idle k (omega arith))) ∙ idle n (omega arith)

  -- turns that do the same
  pub ascending_same : (other : ℕ → A → A) (n : ℕ) (x : A) → ((k : ℕ) (y : A) → k < n → step k y ≡ other k y) → ascending step n x ≡ ascending other n x
  unfolding ascending
  ascending_same other zero x same = refl
  ascending_same other (suc n) x same = same n _ (omega arith) ∙ ap (other n) (ascending_same other n x (λ k y h. same k y (omega arith)))

  -- turns that commute with a function
  pub ascending_through : (f : A → A) (n : ℕ) (x : A) → ((k : ℕ) (y : A) → step k (f y) ≡ f (step k y)) → ascending step n (f x) ≡ f (ascending step n x)
  unfolding ascending
  ascending_through f zero x through = refl
  ascending_through f (suc n) x through = ap (step n) (ascending_through f n x through) ∙ through n _

  -- turns from k on that change nothing
  pub ascending_within : (k n : ℕ) (x : A) → k ≤ n → ((i : ℕ) (y : A) → k ≤ i → i < n → step i y ≡ y) → ascending step k x ≡ ascending step n x
  unfolding ascending
  ascending_within k zero x l idle =
      let e : k ≡ 0 = omega arith in
      rw e
  ascending_within k (suc n) x l idle =
      ⊎_elim (λ e. rw e)
      (λ (h : k < suc n). sym (idle n _ (omega arith) (omega arith)) ∙ ap (step n) (ascending_within k n x (omega arith) (λ i y p q. idle i y p (omega arith))))
      (eq-or-lt_of_le l)

  -- ---- laws of `descending`

  pub descending_more : (k : ℕ) {x y z : A} → 0 < k → descending step k x ≡ z → y ≡ step (k - 1) x → descending step (k - 1) y ≡ z
  unfolding descending
  descending_more zero {y = y} {z = z} h p q = elim h [ ]
  descending_more (suc k) h p q = rw sub-one (ap (descending step k) (simp sub-one at q) ∙ p)

  pub descending_done : (k : ℕ) (x : A) {z : A} → k ≡ 0 → descending step k x ≡ z → x ≡ z
  unfolding descending
  descending_done k x e p = rw e at p

-- ---- laws of `first`: a search from i up to n begins, passes i, stops at i, and ends; what it finds passes the test

pub first_none : (test : ℕ → Bool) (n : ℕ) → first test n 0 ≡ first test (n - 0) 0
first_none test n = rw sub-zero

module _ (test : ℕ → Bool) (n i : ℕ) {x : ℕ} (h : x ≡ first test (n - i) i) where
  pub first_skip : i < n → test i ≡ false → x ≡ first test (n - (i + 1)) (i + 1)
  unfolding first when◌then◌else◌
  first_skip l e =
      let s : n - i ≡ suc (n - (i + 1)) = omega arith in
      h ∙ rw (s, e)

  pub first_hit : i < n → test i ≡ true → i ≡ x
  unfolding first when◌then◌else◌
  first_hit l e =
      let s : n - i ≡ suc (n - (i + 1)) = omega arith in
      sym (h ∙ rw (s, e))

  pub first_end : n ≤ i → i ≡ x
  unfolding first
  first_end l =
      let s : n - i ≡ 0 = omega arith in
      sym (h ∙ rw s)

pub first_found : (test : ℕ → Bool) (k i : ℕ) → first test k i < i + k → test (first test k i) ≡ true
unfolding first when◌then◌else◌
first_found test zero i h = absurd (omega arith)
first_found test (suc k) i h =
    by_test (test i) (λ e. rw (e, e)) (λ e. rw e (first_found test k (i + 1) (omega (arith, rw e at h))))

first_least : (test : ℕ → Bool) (k i j : ℕ) → i ≤ j → j < i + k → test j ≡ true → first test k i ≤ j
unfolding first when◌then◌else◌
first_least test zero i j l h e = absurd (omega arith)
first_least test (suc k) i j l h e =
    by_test (test i)
    (λ p. rw p l)
    (λ p. rw p (⊎_elim (λ (q : i ≡ j). absurd (false≢true (sym p ∙ rw q e)))
    (λ (q : i < j). first_least test k (i + 1) j (omega arith) (omega arith) e) (eq-or-lt_of_le l)))

-- ---- laws of `past_last`: it is at most n, and none from it on passes

module _ (test : ℕ → Bool) where
  pub past_last_most : (n : ℕ) → past_last test n ≤ n
  unfolding past_last when◌then◌else◌
  past_last_most zero = omega arith
  past_last_most (suc n) = by_test (test n) (λ e. rw e (omega arith)) (λ e. rw e (omega (arith, past_last_most n)))

  pub past_last_none : (n k : ℕ) → past_last test n ≤ k → k < n → test k ≡ false
  unfolding past_last when◌then◌else◌
  past_last_none zero k l h = absurd (omega arith)
  past_last_none (suc n) k l h =
      let m : k ≤ n = omega arith in
      by_test (test n)
      (λ e. absurd (omega (arith, rw e at l)))
      (λ e. ⊎_elim (λ q. rw q e) (λ (q : k < n). past_last_none n k (rw e at l) q) (eq-or-lt_of_le m))

-- ---- laws of `passing`: in a loop that counts; none passes; exactly one does, the first

module _ (test : ℕ → Bool) where
  pub passing_none : 0 ≡ passing test 0
  unfolding passing
  passing_none = refl

  pub passing_more : (i : ℕ) {x y : ℕ} {b : Bool} → x ≡ passing test i → b ≡ test i → y ≡ x + (when b then 1 else 0) → y ≡ passing test (i + 1)
  unfolding passing
  passing_more i p q e = rw (add-one, ← p, ← q) e

  pub passing_done : (i n : ℕ) {x : ℕ} → i ≡ n → x ≡ passing test i → x ≡ passing test n
  passing_done i n e p = rw (← e) p

  pub passing_most : (n : ℕ) → passing test n ≤ n
  unfolding passing when◌then◌else◌
  passing_most zero = omega arith
  passing_most (suc n) = by_test (test n) (λ e. rw e (omega (arith, passing_most n))) (λ e. rw e (omega (arith, passing_most n)))

  pub none_passing : (n : ℕ) → passing test n ≡ 0 → (k : ℕ) → k < n → test k ≡ false
  unfolding passing when◌then◌else◌
  none_passing zero e k h = absurd (omega arith)
  none_passing (suc n) e k h =
      let l : k ≤ n = omega arith in
      by_test (test n)
      (λ p. absurd (omega (arith, rw p at e)))
      (λ p. ⊎_elim (λ q. rw q p) (λ (q : k < n). none_passing n (omega (arith, rw p at e)) k q) (eq-or-lt_of_le l))

  -- one of those that pass
  found_passing : (n : ℕ) → 0 < passing test n → (k : ℕ) × (k < n) × (test k ≡ true)
  unfolding passing when◌then◌else◌
  found_passing zero h = absurd (omega arith)
  found_passing (suc n) h =
      by_test (test n)
      (λ p. (n, omega arith, p))
      (λ p. let f = found_passing n (omega (arith, rw p at h)) in (f.0, omega arith, f.2))

  same_passing : (n : ℕ) → passing test n ≡ 1 → (j k : ℕ) → j < n → k < n → test j ≡ true → test k ≡ true → j ≡ k
  unfolding passing when◌then◌else◌
  same_passing zero e j k hj hk tj tk = absurd (omega arith)
  same_passing (suc n) e j k hj hk tj tk =
      by_test (test n)
      (λ p.
      let last : (i : ℕ) → i < suc n → test i ≡ true → i ≡ n
      = λ i h t. by_test (n ≤? i) (λ q. omega (arith, leb-true n i q))
      (λ q. absurd (false≢true (sym (none_passing n (omega (arith, rw p at e)) i (leb-false n i q)) ∙ t))) in
      last j hj tj ∙ sym (last k hk tk))
      (λ p.
      let below : (i : ℕ) → i < suc n → test i ≡ true → i < n
      = λ i h t. by_test (n ≤? i) (λ q. let s : i ≡ n = omega (arith, leb-true n i q) in absurd (false≢true (sym p ∙ rw s at t))) (λ q. leb-false n i q) in
      same_passing n (omega (arith, rw p at e)) j k (below j hj tj) (below k hk tk) tj tk)

  pub record One (n : ℕ) : Type 0 where
    pub below : first test n 0 < n
    pub passes : test (first test n 0) ≡ true
    pub only : (k : ℕ) → k < n → test k ≡ true → k ≡ first test n 0

  pub one_passing : (n : ℕ) → passing test n ≡ 1 → One n
  one_passing n e =
      let f = found_passing n (omega arith) in
      let below : first test n 0 < n = omega (arith, f.1, first_least test n 0 f.0 (omega arith) (omega arith) f.2) in
      let passes = first_found test n 0 (omega arith) in
      record { below = below; passes = passes; only = λ k h t. same_passing n e k (first test n 0) h below t passes }

-- ---- laws of `every` and `some`

pub every_each : (test : ℕ → Bool) (n : ℕ) → every test n ≡ true → (k : ℕ) → k < n → test k ≡ true
unfolding every
every_each test zero e k h = absurd (omega arith)
every_each test (suc n) e k h =
    let p = both_pass (every test n) (test n) e in
    let l : k ≤ n = omega arith in
    ⊎_elim (λ q. rw q p.1) (λ (l : k < n). every_each test n p.0 k l) (eq-or-lt_of_le l)

pub each_every : (test : ℕ → Bool) (n : ℕ) → ((k : ℕ) → k < n → test k ≡ true) → every test n ≡ true
unfolding every
each_every test zero h = refl
each_every test (suc n) h = pass_both _ _ (each_every test n (λ k l. h k (omega arith))) (h n (omega arith))

-- `every` in a loop that joins the tests: before the first turn, one turn, the end; and where one test fails
module _ (test : ℕ → Bool) where
  pub every_none : true ≡ every test 0
  unfolding every
  every_none = refl

  pub every_more : (i : ℕ) {b t : Bool} → b ≡ every test i → (b ≡ true → t ≡ test i) → (b && t) ≡ every test (i + 1)
  unfolding every
  every_more i {b} p q = rw (add-one, ← p) (by_test b (λ e. rw (q e)) (λ e. rw e))

  pub every_done : (i n : ℕ) {b : Bool} → i ≡ n → b ≡ every test i → b ≡ every test n
  every_done i n e p = rw (← e) p

  pub every_fails : (k n : ℕ) → k < n → test k ≡ false → false ≡ every test n
  unfolding every
  every_fails k zero h e = absurd (omega arith)
  every_fails k (suc n) h e =
      let l : k ≤ n = omega arith in
      ⊎_elim (λ q. rw (← q, e) (sym (and-false (every test k)))) (λ (l : k < n). rw (← every_fails k n l e)) (eq-or-lt_of_le l)

pub some_one : (test : ℕ → Bool) (n : ℕ) → some test n ≡ true → (k : ℕ) × (k < n) × (test k ≡ true)
unfolding some
some_one test zero e = absurd (false≢true e)
some_one test (suc n) e =
    by_test (some test n)
    (λ q. let f = some_one test n q in (f.0, omega arith, f.2))
    (λ q. (n, omega arith, rw q at e))

pub one_some : (test : ℕ → Bool) (n k : ℕ) → k < n → test k ≡ true → some test n ≡ true
unfolding some
one_some test zero k h e = absurd (omega arith)
one_some test (suc n) k h e =
    let l : k ≤ n = omega arith in
    ⊎_elim (λ q. rw (← q, e) (or-true (some test k))) (λ (l : k < n). rw (one_some test n k l e)) (eq-or-lt_of_le l)

pub same_some : (test other : ℕ → Bool) (n : ℕ) → ((k : ℕ) → k < n → test k ≡ other k) → some test n ≡ some other n
unfolding some
same_some test other zero h = refl
same_some test other (suc n) h = ap₂ ◌||◌ (same_some test other n (λ k l. h k (omega arith))) (h n (omega arith))

pub some_none : (test : ℕ → Bool) → some test 0 ≡ false
unfolding some
some_none test = refl

pub some_more : (test : ℕ → Bool) (n : ℕ) → some test n ≡ false → test n ≡ false → some test (n + 1) ≡ false
unfolding some
some_more test n p q = rw (add-one, p) q

pub some_done : (test : ℕ → Bool) (i n : ℕ) → i ≡ n → some test i ≡ false → some test n ≡ false
some_done test i n e p = rw (← e) p

-- ---- what holds after each turn of a loop

module _ {A : Type 0} (P : ℕ → A → Type 0) {step : ℕ → A → A} where
  pub ascending_turns : (n : ℕ) (x : A) → P 0 x → ((k : ℕ) (y : A) → k < n → P k y → P (suc k) (step k y)) → P n (ascending step n x)
  unfolding ascending
  ascending_turns zero x p turn = p
  ascending_turns (suc n) x p turn = turn n (ascending step n x) (omega arith) (ascending_turns n x p (λ k y h. turn k y (omega arith)))

  pub descending_turns : (n : ℕ) (x : A) → P n x → ((k : ℕ) (y : A) → k < n → P (suc k) y → P k (step k y)) → P 0 (descending step n x)
  unfolding descending
  descending_turns zero x p turn = p
  descending_turns (suc n) x p turn = descending_turns n (step n x) (turn n x (omega arith) p) (λ k y h. turn k y (omega arith))
