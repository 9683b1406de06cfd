-- Nothing stands past the actions of each link: place by place.
use Rattle.std.specs.Prelude.{Bool, true, not, ◌&&◌, ◌||◌, List, [], ◌∷◌, ◌≡◌, refl, ℤ, pos, negsuc, ℕ, zero, suc, ◌+◌, ◌-◌, ◌*◌, ◌/◌, ◌%◌, ◌<◌, ◌≤◌, length, get_or, take, drop}
use Rattle.std.specs.Ordering.{int_eq}
use Rattle.std.proofs.Common.{arith}
use Rattle.std.proofs.lemmas.Bool.{ltb-true, ltb-false, ne_eqb}
use Rattle.std.proofs.lemmas.Bool.Decides.{same_from_decides, nat_tests}
use Rattle.std.proofs.lemmas.List.{get_or-take, get_or-drop, get_or_past, length-take}
use Rattle.base.specs.Tests.{by_test, both_pass, pass_both, ◌=?◌, ◌<?◌, equal_ints}
use Rattle.base.specs.Loops.{every, each_every, every_each}
use Rattle.machine.specs.Tables.{numbers, integers, action_tables}
use Rattle.machine.specs.Broken.{all, zero_from, ends_zero}
use Rattle.end_check.specs.Places.{Used, unused_zero, target_used, value_used}
use Rattle.end_check.proofs.Zeros.{all_each, each_all}

-- `==` at signed numbers, where one is 0
pub int_zero : (x : ℤ) → int_eq x (pos 0) ≡ equal_ints x (pos 0)
int_zero (pos a) = grind (arith, nat_tests)
int_zero (negsuc a) = refl

-- of 8 places of a column, those from n on
module _ {A : Type 0} (test : A → Bool) (z : A) (t : test z ≡ true) (n : ℕ) (l : List A) where
  row_each : all test (drop n (take 8 l)) ≡ true → (j : ℕ) → n ≤ j → j < 8 → test (get_or l j z) ≡ true
  row_each e j b h =
      let s : n + (j - n) ≡ j = omega arith in
      rw (get_or-drop n (take 8 l) (j - n) z, s, get_or-take 8 l j z h) at (all_each test z t (drop n (take 8 l)) e (j - n))

  each_row : ((j : ℕ) → n ≤ j → j < 8 → test (get_or l j z) ≡ true) → all test (drop n (take 8 l)) ≡ true
  each_row p = each_all test z (drop n (take 8 l)) (λ i.
      rw (get_or-drop n (take 8 l) i z) (by_test (n + i <? 8)
      (λ e. rw (get_or-take 8 l (n + i) z (ltb-true (n + i) 8 e)) (p (n + i) (omega arith) (ltb-true (n + i) 8 e)))
      (λ e. rw (get_or_past (take 8 l) (n + i) z (omega (arith, length-take 8 l, ltb-false (n + i) 8 e))) t)))

-- a place has no action, no target and no value
abbrev place_zero : List ℕ → List ℕ → List ℤ → ℕ → Bool
place_zero actions targets values i =
    get_or actions i 0 =? 0 && get_or targets i 0 =? 0 && equal_ints (get_or values i (pos 0)) (pos 0)

abbrev EachZero : List ℕ → List ℕ → List ℕ → List ℤ → Type 0
EachZero counts actions targets values =
    (k j : ℕ) → k < length counts → get_or counts k 0 ≤ j → j < 8 → place_zero actions targets values (8 * k + j) ≡ true

-- 8 places further on
further : (actions targets : List ℕ) (values : List ℤ) (k j : ℕ)
    → place_zero (drop 8 actions) (drop 8 targets) (drop 8 values) (8 * k + j) ≡ place_zero actions targets values (8 * suc k + j)
further actions targets values k j =
    let s : 8 + (8 * k + j) ≡ 8 * suc k + j = omega arith in
    rw (get_or-drop 8 actions (8 * k + j) 0, get_or-drop 8 targets (8 * k + j) 0, get_or-drop 8 values (8 * k + j) (pos 0), s)

tables_each : (counts actions targets : List ℕ) (values : List ℤ) → all ends_zero (action_tables counts actions targets values) ≡ true → EachZero counts actions targets values
unfolding all
tables_each [] actions targets values e k j h b g = absurd (omega arith)
tables_each (n ∷ counts) actions targets values e zero j h b g =
    let here = both_pass _ (all ends_zero (action_tables counts (drop 8 actions) (drop 8 targets) (drop 8 values))) e in
    let first = both_pass (zero_from n (numbers (take 8 actions))) _ here.0 in
    let second = both_pass (zero_from n (numbers (take 8 targets))) _ first.1 in
    let third = both_pass (zero_from n (integers (take 8 values))) true second.1 in
    let s : 8 * 0 + j ≡ j = omega arith in
    rw s (pass_both _ _ (pass_both _ _ (row_each (λ x. x =? 0) 0 refl n actions first.0 j b g) (row_each (λ x. x =? 0) 0 refl n targets second.0 j b g))
    (row_each (λ x. equal_ints x (pos 0)) (pos 0) refl n values third.0 j b g))
tables_each (n ∷ counts) actions targets values e (suc k) j h b g =
    let there = both_pass _ (all ends_zero (action_tables counts (drop 8 actions) (drop 8 targets) (drop 8 values))) e in
    rw (further actions targets values k j) at (tables_each counts (drop 8 actions) (drop 8 targets) (drop 8 values) there.1 k j (omega arith) b g)

each_tables : (counts actions targets : List ℕ) (values : List ℤ) → EachZero counts actions targets values → all ends_zero (action_tables counts actions targets values) ≡ true
unfolding all
each_tables [] actions targets values p = refl
each_tables (n ∷ counts) actions targets values p =
    pass_both _ _
    (pass_both _ _ (each_row (λ x. x =? 0) 0 refl n actions (λ j b g. (first j b g).0))
    (pass_both _ _ (each_row (λ x. x =? 0) 0 refl n targets (λ j b g. (first j b g).1))
    (pass_both _ true (each_row (λ x. equal_ints x (pos 0)) (pos 0) refl n values (λ j b g. (here j b g).1)) refl)))
    (each_tables counts (drop 8 actions) (drop 8 targets) (drop 8 values) (λ k j h b g. rw (further actions targets values k j) (p (suc k) j (omega arith) b g)))
  where
    here : (j : ℕ) → n ≤ j → j < 8 → ((get_or actions j 0 =? 0 && get_or targets j 0 =? 0) ≡ true) × (equal_ints (get_or values j (pos 0)) (pos 0) ≡ true)
    here j b g =
        let s : 8 * 0 + j ≡ j = omega arith in
        both_pass _ _ (rw s at (p 0 j (omega arith) b g))

    first : (j : ℕ) → n ≤ j → j < 8 → ((get_or actions j 0 =? 0) ≡ true) × ((get_or targets j 0 =? 0) ≡ true)
    first j b g = both_pass _ _ (here j b g).0

module _ (counts actions targets : List ℕ) (values : List ℤ) (len : length counts ≡ 64) (used : Used counts actions) where
  abbrev tested : Bool
  tested =
      every (λ l. unused_zero actions (get_or counts l 0) l) 64 && every (target_used actions targets) 512 && every (value_used actions values) 512

  tests_each : tested ≡ true → EachZero counts actions targets values
  unfolding unused_zero
  tests_each e k j h b g =
      let both = both_pass (every (λ l. unused_zero actions (get_or counts l 0) l) 64 && every (target_used actions targets) 512) (every (value_used actions values) 512) e in
      let first = both_pass (every (λ l. unused_zero actions (get_or counts l 0) l) 64) (every (target_used actions targets) 512) both.0 in
      let action = every_each (λ j. j <? get_or counts k 0 || get_or actions (8 * k + j) 0 =? 0) 8
      (every_each (λ l. unused_zero actions (get_or counts l 0) l) 64 first.0 k (omega arith)) j g in
      let target = every_each (target_used actions targets) 512 first.1 (8 * k + j) (omega arith) in
      let value = every_each (value_used actions values) 512 both.1 (8 * k + j) (omega arith) in
      grind (arith, nat_tests, action, target, value)

  each_tests : EachZero counts actions targets values → tested ≡ true
  unfolding unused_zero
  each_tests p =
      pass_both _ _
      (pass_both _ _
      (each_every _ 64 (λ k h. each_every _ 8 (λ j g. by_test (j <? get_or counts k 0) (λ e. rw e) (λ e. let here = p k j (omega arith) (ltb-false j _ e) g in grind (arith, here)))))
      (each_every (target_used actions targets) 512 (λ i h. let here = place i h in grind (arith, here))))
      (each_every (value_used actions values) 512 (λ i h. let here = place i h in grind (arith, here)))
    where
      -- a place has an action, or nothing
      place : (i : ℕ) → i < 512 → (not (get_or actions i 0 =? 0) || place_zero actions targets values i) ≡ true
      place i h =
          let s : 8 * (i / 8) + i % 8 ≡ i = omega arith in
          by_test (i % 8 <? get_or counts (i / 8) 0)
          (λ e. let some = rw s at (used.some (i / 8) (i % 8) (ltb-true (i % 8) _ e)) in rw (ne_eqb (get_or actions i 0) 0 (λ q. omega arith)))
          (λ e. let here = rw s at (p (i / 8) (i % 8) (omega arith) (ltb-false (i % 8) _ e) (omega arith)) in grind (arith, here))

  pub places_zero : tested ≡ all ends_zero (action_tables counts actions targets values)
  places_zero =
      same_from_decides tested (all ends_zero (action_tables counts actions targets values))
      (tests_each, each_tests)
      (tables_each counts actions targets values, each_tables counts actions targets values)
