-- Tests on numbers, and a choice by a test.
use Rattle.std.specs.Prelude.{Bool, true, false, not, ◌&&◌, ◌||◌, ◌⊎◌, ◌≡◌, refl, ℕ, ◌<◌, eqb, ltb, leb, ℤ, pos, negsuc}
use Rattle.std.proofs.lemmas.Bool.{false≢true}
use Rattle.std.proofs.lemmas.Bool.Decides.{nat_tests}
use Rattle.std.proofs.Common.{inl, inr, arith}

infix 50 ◌=?◌ ◌<?◌ ◌≤?◌
-- a equals b; a is below b; a is at most b
abbrev pub ◌=?◌ : ℕ → ℕ → Bool
a =? b = eqb a b

abbrev pub ◌<?◌ : ℕ → ℕ → Bool
a <? b = ltb a b

abbrev pub ◌≤?◌ : ℕ → ℕ → Bool
a ≤? b = leb a b

-- two signed numbers are equal
abbrev pub equal_ints : ℤ → ℤ → Bool
equal_ints (pos a) (pos b) = eqb a b
equal_ints (pos a) (negsuc b) = false
equal_ints (negsuc a) (pos b) = false
equal_ints (negsuc a) (negsuc b) = eqb a b

infixr 4 when◌then◌else◌
unfoldable pub when◌then◌else◌ : {A : Type 0} → Bool → A → A → A
when true then a else b = a
when false then a else b = b

-- the two cases of a choice, as `grind` takes them; and a choice whose test is known
pub when_tells : {A : Type 0} (b : Bool) (x y : A) → ((b ≡ true) × ((when b then x else y) ≡ x)) ⊎ ((b ≡ false) × ((when b then x else y) ≡ y))
unfolding when◌then◌else◌
when_tells true x y = inl (refl, refl)
when_tells false x y = inr (refl, refl)

module _ {A : Type 0} (x y : A) where
  pub when_true : (b : Bool) → b ≡ true → (when b then x else y) ≡ x
  unfolding when◌then◌else◌
  when_true b e = rw e

  pub when_false : (b : Bool) → b ≡ false → (when b then x else y) ≡ y
  unfolding when◌then◌else◌
  when_false b e = rw e

-- tests on numbers and choices by a test
pub ruleset tests = (when_tells, nat_tests)

-- the two cases of a test, each with its equation
pub by_test : {P : Type 0} (b : Bool) → (b ≡ true → P) → (b ≡ false → P) → P
by_test true p q = p refl
by_test false p q = q refl

-- both of two tests pass, and the other way; one of two passes
pub both_pass : (a b : Bool) → a && b ≡ true → (a ≡ true) × (b ≡ true)
both_pass true b e = (refl, e)
both_pass false b e = absurd (false≢true e)

pub pass_both : (a b : Bool) → a ≡ true → b ≡ true → a && b ≡ true
pass_both a b p q = rw (p, q)

pub one_passes : (a b : Bool) → a || b ≡ true → (a ≡ true) ⊎ (b ≡ true)
one_passes true b e = inl refl
one_passes false b e = inr e

-- a choice that gives 0, and not by its first branch
pub no_fault : (b : Bool) (fault other : ℕ) → 0 < fault → (when b then fault else other) ≡ 0 → (b ≡ false) × (other ≡ 0)
unfolding when◌then◌else◌
no_fault true fault other h e = absurd (omega arith)
no_fault false fault other h e = (refl, e)

-- a test whose negation is known
pub not_true : (b : Bool) → not b ≡ true → b ≡ false
not_true true e = cc
not_true false e = refl

pub not_false : (b : Bool) → not b ≡ false → b ≡ true
not_false true e = refl
not_false false e = cc
