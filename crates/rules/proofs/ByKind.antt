-- A rule by its kind: a simple rule is decided by its comparison. More steps than the id decide the same, so a composite rule is decided by the answers of its two earlier rules.
use Prim.Native.Nat.{ℕ, zero, suc, ◌<◌}
use mathlib.Core.Bool.{Bool, true}
use mathlib.Core.List.{List}
use mathlib.Core.Path.{◌≡◌}
use native.Mathlib.Omega.{arith}
use lib.IntN.{ℤ, pos}
use lib.ListN.{get_or}
use borrow.Author.Tests.{eq-eqb, ne_eqb, eqb-false}
use Rattle.base.specs.Tests.{when◌then◌else◌, ◌=?◌, by_test}
use Rattle.machine.specs.declared.Rules.{Rules}
use Rattle.machine.specs.Terms.{simple_rule, no_id}
use Rattle.machine.specs.Tables.{rule_at}
use Rattle.machine.specs.Deciding.{compared, combined, decided, decide, rule_holds, guard_holds}
use Rattle.machine.specs.Sound.{SoundRules}

module _ (rules : Rules) (values : List ℤ) where
  pub simple : {holds : Bool} (id : ℕ) → (rule_at rules id).kind ≡ simple_rule
      → holds ≡ compared (rule_at rules id).comparator (get_or values (rule_at rules id).property (pos 0)) (rule_at rules id).value
      → holds ≡ rule_holds rules values id
  unfolding decide decided when◌then◌else◌
  simple id k e = rw (eq-eqb _ _ k) e

  module _ {properties : ℕ} (s : SoundRules properties rules) where
    steps_alike : (m n id : ℕ) → id < rules.count → id < m → id < n → decide rules values m id ≡ decide rules values n id
    unfolding decide decided when◌then◌else◌
    steps_alike zero n id h l k = absurd (omega arith)
    steps_alike (suc m) zero id h l k = absurd (omega arith)
    steps_alike (suc m) (suc n) id h l k =
        by_test ((rule_at rules id).kind =? simple_rule) (λ e. rw e) λ e.
        let below = s.left id h (eqb-false _ _ e) in
        let below2 = s.right id h (eqb-false _ _ e) in
        rw (
          e,
          steps_alike m n (rule_at rules id).left (omega arith) (omega arith) (omega arith),
          steps_alike m n (rule_at rules id).right (omega arith) (omega arith) (omega arith),
        )

    pub composite : (id : ℕ) → id < rules.count → ((rule_at rules id).kind ≡ simple_rule → ⊥)
        → rule_holds rules values id ≡ combined (rule_at rules id).operator (rule_holds rules values (rule_at rules id).left) (rule_holds rules values (rule_at rules id).right)
    unfolding decide decided when◌then◌else◌
    composite id h k =
        let below = s.left id h k in
        let below2 = s.right id h k in
        rw (
          ne_eqb _ _ k,
          steps_alike id (suc (rule_at rules id).left) (rule_at rules id).left (omega arith) (omega arith) (omega arith),
          steps_alike id (suc (rule_at rules id).right) (rule_at rules id).right (omega arith) (omega arith) (omega arith),
        )

-- a guard holds where there is none, and else where its rule holds
module _ (rules : Rules) (values : List ℤ) (guard : ℕ) where
  pub no_guard : guard ≡ no_id → true ≡ guard_holds rules values guard
  unfolding guard_holds when◌then◌else◌
  no_guard e = rw (eq-eqb _ _ e)

  pub some_guard : {holds : Bool} {id : ℕ} → (guard ≡ no_id → ⊥) → id ≡ guard → holds ≡ rule_holds rules values id → holds ≡ guard_holds rules values guard
  unfolding guard_holds when◌then◌else◌
  some_guard n e h = rw (ne_eqb _ _ n, ← e) h
